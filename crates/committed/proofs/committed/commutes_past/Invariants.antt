use Rattle.std.proofs.Common.{ℕ, ◌-◌, ◌<◌, ◌≤◌, get_or}
use Rattle.objects.specs.Entries.{CommuteForward}
use Rattle.committed.proofs.committed.commutes_past.Given as goal

abbrev pub invariant-loop-place : goal.invariant-loop-place
invariant-loop-place l = record {
  from : l.since ≤ l.place;
  passed : (k : ℕ) → l.since ≤ k → k < l.place → CommuteForward l.entry (get_or l.entries k l.entry);
}

abbrev pub decreases-loop-place : goal.decreases-loop-place
decreases-loop-place l = l.upto - l.place
