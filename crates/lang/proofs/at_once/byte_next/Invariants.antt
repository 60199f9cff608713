use Rattle.std.proofs.Common.{◌-◌, length}
use Rattle.lang.proofs.at_once.byte_next.Given as goal

abbrev pub decreases-loop-at : goal.decreases-loop-at
decreases-loop-at l = length l.text - l.at
