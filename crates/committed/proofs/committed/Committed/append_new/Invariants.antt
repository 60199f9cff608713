use Rattle.std.proofs.Common.{◌≡◌, ◌++◌, length, take}
use Rattle.committed.specs.Summaries.{entries_of, IsSummary}
use Rattle.committed.proofs.committed.Committed.append_new.Given as goal

abbrev pub invariant-loop-marked : goal.invariant-loop-marked
invariant-loop-marked l = record {
  summary : IsSummary l.self (l.initial.self ++ entries_of (take l.marked-index l.entries));
  kept : take (length l.initial.self) l.self ≡ l.initial.self;
}
