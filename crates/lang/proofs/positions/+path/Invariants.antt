use Rattle.std.proofs.Common.{◌≡◌, ◌+◌, ◌*◌, length}
use Rattle.lang.proofs.positions.+path.Given as goal

abbrev pub decreases-part_in : goal.decreases-part_in
decreases-part_in l = 2 * length l.path.now

abbrev pub decreases-member_in : goal.decreases-member_in
decreases-member_in l = 2 * length l.rest.now + 1

abbrev pub decreases-item_in : goal.decreases-item_in
decreases-item_in l = 2 * length l.rest.now + 1

abbrev pub invariant-member_in-loop : goal.invariant-member_in-loop
invariant-member_in-loop l = l.rest ≡ l.fn.rest

abbrev pub invariant-item_in-loop-place : goal.invariant-item_in-loop-place
invariant-item_in-loop-place l = l.rest ≡ l.fn.rest
