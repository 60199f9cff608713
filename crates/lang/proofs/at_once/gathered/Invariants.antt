-- The ranges so far, and then those that are left, are all.
use Rattle.std.proofs.Common.{◌≡◌, ◌++◌, map}
use Rattle.std.specs.Prelude.{Ok}
use Rattle.lang.proofs.at_once.gathered.Given as goal

abbrev pub invariant-loop-read : goal.invariant-loop-read
invariant-loop-read l = map Ok l.reads.items ++ l.read-iterator.rest.items ≡ l.fn.found.items
