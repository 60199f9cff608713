use Rattle.std.proofs.Common.{◌≤◌, ◌+◌, ◌-◌, length}
use Rattle.report.proofs.cuts.pass_steps.Given as goal

abbrev pub invariant-loop-line : goal.invariant-loop-line
invariant-loop-line l = l.fn.from ≤ l.line

abbrev pub decreases-loop-line : goal.decreases-loop-line
decreases-loop-line l = length l.record.taken.items + 1 - l.line
