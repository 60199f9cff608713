use Rattle.std.proofs.Common.{◌≤◌}
use Rattle.report.proofs.cuts.pass_objects.Given as goal

abbrev pub invariant-loop-line : goal.invariant-loop-line
invariant-loop-line l = l.fn.from.line ≤ l.line
