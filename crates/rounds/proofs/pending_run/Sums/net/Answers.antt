use Rattle.std.proofs.Common.{rules}
use Rattle.rounds.proofs.pending_run.Sums.net.Goals as goal

pub returns-in-Some : goal.returns-in-Some
returns-in-Some c = search rules
