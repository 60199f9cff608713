use Rattle.std.proofs.Common.{◌≡◌, ℕ, ◌<◌, get_or}
use Rattle.std.specs.Int.{bit_at}
use Rattle.conflicts.specs.Classes.{class_of, class_number}
use Rattle.objects.specs.Entries.{CommuteForward}
use Rattle.committed.proofs.committed.Committed.commutes_with_met.Given as goal

abbrev pub invariant-loop-class : goal.invariant-loop-class
invariant-loop-class l =
    (k : ℕ) → k < l.upto → k < l.self-inside.index.listed
    → bit_at l.rest (class_number (class_of (get_or l.self k l.entry).call (get_or l.self k l.entry).reply)) ≡ 0
    → CommuteForward l.entry (get_or l.self k l.entry)

abbrev pub decreases-loop-class : goal.decreases-loop-class
decreases-loop-class l = l.rest
