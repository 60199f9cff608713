use Rattle.std.proofs.Common.{◌≡◌, ◌-◌, length}
use Rattle.committed.specs.Index.{IsIndexOf, IndexHasRoom}
use Rattle.committed.proofs.index.Index.list.Given as goal

abbrev pub invariant-loop-place : goal.invariant-loop-place
invariant-loop-place l = record {
  index : IsIndexOf l.entries l.self;
  at : l.self.listed ≡ l.place;
  room : IndexHasRoom l.self (length l.entries - l.place);
}
