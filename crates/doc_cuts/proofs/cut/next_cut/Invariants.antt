use Rattle.std.proofs.Common.{◌≤◌, ◌-◌, length}
use Rattle.memchr.specs.Find.{Nowhere}
use Rattle.doc_cuts.specs.Cuts.{IsCut}
use Rattle.doc_cuts.proofs.cut.next_cut.Given as goal

-- no cut was passed
abbrev pub invariant-loop-found : goal.invariant-loop-found
invariant-loop-found l = (l.from ≤ l.at) × (l.at ≤ length l.text) × Nowhere (IsCut l.text) l.from l.at

abbrev pub decreases-loop-found : goal.decreases-loop-found
decreases-loop-found l = length l.text - l.at
