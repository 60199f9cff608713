-- The parts so far, and then those that are left, are all.
use Rattle.std.proofs.Common.{◌≡◌, ◌++◌, map}
use Rattle.std.specs.Prelude.{Ok}
use Rattle.report.proofs.parts.gathered.Given as goal

abbrev pub invariant-loop-part : goal.invariant-loop-part
invariant-loop-part l = map Ok l.parts.items ++ l.part-iterator.rest.items ≡ l.fn.made.items
