use Rattle.std.proofs.Common.{length, ◌-◌}
use Rattle.lang.proofs.at_once.ranges_from.Given as goal

abbrev pub decreases-loop-end : goal.decreases-loop-end
decreases-loop-end l = length l.text - l.end
