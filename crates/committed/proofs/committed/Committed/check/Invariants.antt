use Rattle.std.proofs.Common.{◌≡◌, ◌↔◌, drop, take}
use Rattle.objects.specs.Entries.{AllCommute}
use Rattle.committed.specs.Summaries.{entries_of}
use Rattle.committed.proofs.committed.Committed.check.Given as goal

abbrev pub invariant-loop-marked : goal.invariant-loop-marked
invariant-loop-marked l = record {
  same : l.self ≡ l.initial.self;
  rest : AllCommute (entries_of (drop l.marked-index l.entries)) (take l.upto l.initial.self)
      ↔ AllCommute (entries_of l.entries) (take l.upto l.initial.self);
}
