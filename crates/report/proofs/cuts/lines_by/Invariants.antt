use Rattle.std.proofs.Common.{length, ◌-◌}
use Rattle.report.proofs.cuts.lines_by.Given as goal

abbrev pub decreases-loop-entry : goal.decreases-loop-entry
decreases-loop-entry l = length l.records - l.entry
