use Rattle.std.proofs.Common.{append_assoc, sym}
use Rattle.doc_mistakes.specs.Words.{amount_said}
use Rattle.doc_mistakes.proofs.operations.write_amount.Goals as goal

pub returns : goal.returns
unfolding amount_said
returns c = simp (append_assoc, sym c.if-is_text.ensures, c.in_ok-write_grouped.ensures, c.in_ok-write_around.ensures)
