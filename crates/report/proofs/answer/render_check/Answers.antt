use Rattle.std.proofs.Common.{rules}
use Rattle.report.proofs.AnswerLemmas.{counted_text}
use Rattle.report.proofs.answer.render_check.Goals as goal

pub returns : goal.returns
returns c =
    counted_text _ _ _ _ c.len-objects.result c.len-transactions.result c.operations-operations.result c.in_ok-text.ensures.ok
    c.len-objects.ensures (search rules) c.operations-operations.ensures
