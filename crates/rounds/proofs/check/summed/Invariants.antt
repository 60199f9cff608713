use Rattle.std.proofs.Common.{take}
use Rattle.rounds.specs.PendingRuns.{AreSummed}
use Rattle.rounds.proofs.check.summed.Given as goal

abbrev pub invariant-loop-run : goal.invariant-loop-run
invariant-loop-run l = AreSummed (take l.run-index l.runs) l.pending.items
