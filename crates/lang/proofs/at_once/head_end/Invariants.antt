use Rattle.std.proofs.Common.{◌≤◌, ◌-◌, length}
use Rattle.lang.proofs.at_once.head_end.Given as goal

abbrev pub invariant-loop-found : goal.invariant-loop-found
invariant-loop-found l = l.from ≤ length l.text

abbrev pub decreases-loop-found : goal.decreases-loop-found
decreases-loop-found l = length l.text - l.from
