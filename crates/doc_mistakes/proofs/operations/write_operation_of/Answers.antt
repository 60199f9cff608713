use Rattle.std.proofs.Common.{append_assoc, sym}
use Rattle.doc_mistakes.specs.Words.{operation_of_said}
use Rattle.doc_mistakes.proofs.operations.write_operation_of.Goals as goal

pub returns-in_ok-push_str : goal.returns-in_ok-push_str
unfolding operation_of_said
returns-in_ok-push_str c =
    simp (append_assoc, sym c.if-is_last_operation.ensures, c.in_ok-push_str.ensures.bytes, c.a_kind.ensures, c.in_ok-write_around.ensures)
