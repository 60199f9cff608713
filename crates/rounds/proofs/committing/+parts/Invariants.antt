use Rattle.std.proofs.Common.{◌+◌, ◌*◌}
use Rattle.rounds.proofs.committing.+parts.Given as goal

abbrev pub decreases-commit_by : goal.decreases-commit_by
decreases-commit_by g l = 2 * l.workers

abbrev pub decreases-on_high : goal.decreases-on_high
decreases-on_high g l = 2 * l.others + 1
