use Rattle.std.proofs.Common.{◌+◌, ◌*◌, length}
use Rattle.workers.proofs.cascade.+cascade.Given as goal

abbrev pub decreases-seat_by_seat : goal.decreases-seat_by_seat
decreases-seat_by_seat g l = 2 * length l.seats.items

abbrev pub decreases-others : goal.decreases-others
decreases-others g l = 2 * length l.seats.items + 1
