use Rattle.std.proofs.Common.{rules}
use Rattle.report.proofs.paths.reason_of.Goals as goal

pub returns-in-Aborted : goal.returns-in-Aborted
returns-in-Aborted c = search rules
