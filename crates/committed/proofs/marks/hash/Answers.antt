use Rattle.std.proofs.Common.{refl}
use Rattle.committed.specs.Marks.{hash_of}
use Rattle.committed.proofs.marks.hash.Goals as goal
use Rattle.committed.proofs.marks.hash.Goals.{in-Some, in-None}

pub returns : goal.returns
unfolding hash_of
returns c = elim c.match-item.branch [
  | in-Some w ↦ rw (w.number-is, w.in-Some.is) refl
  | in-None w ↦ rw (w.number-is, w.in-None.is) refl
]
