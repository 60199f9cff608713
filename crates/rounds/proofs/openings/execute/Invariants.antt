use Rattle.std.proofs.Common.{◌-◌, length}
use Rattle.rounds.specs.Windows.{IsOpening, AreCountsOn}
use Rattle.rounds.proofs.openings.execute.Given as goal

abbrev pub invariant-opening : goal.invariant-opening
invariant-opening g l = record {
  at : IsOpening l.batch l.at;
  counts : AreCountsOn l.batch l.at l.at.rounds l.counts.items;
}

abbrev pub decreases-opening : goal.decreases-opening
decreases-opening g l = length l.batch.transactions.items - l.at.committed
