use Rattle.std.proofs.Common.{◌-◌, length}
use Rattle.rounds.specs.Windows.{IsOpening}
use Rattle.rounds.proofs.openings.execute_ahead.Given as goal

abbrev pub invariant-opening : goal.invariant-opening
invariant-opening g l = IsOpening l.batch l.at

abbrev pub decreases-opening : goal.decreases-opening
decreases-opening g l = length l.batch.transactions.items - l.at.committed
