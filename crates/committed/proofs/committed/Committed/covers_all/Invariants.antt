use Rattle.std.proofs.Common.{◌++◌, take}
use Rattle.committed.specs.Summaries.{entries_of, IsSummary}
use Rattle.committed.proofs.committed.Committed.covers_all.Given as goal

abbrev pub invariant-loop-marked : goal.invariant-loop-marked
invariant-loop-marked l = IsSummary l.self (l.self ++ entries_of (take l.marked-index l.entries))
