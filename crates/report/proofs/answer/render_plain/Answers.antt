use Rattle.std.proofs.Common.{rules}
use Rattle.report.proofs.answer.render_plain.Goals as goal

pub returns : goal.returns
returns c = search rules
