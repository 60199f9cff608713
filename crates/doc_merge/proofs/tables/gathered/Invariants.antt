-- What was found so far, and then what is left, is all.
use Rattle.std.proofs.Common.{◌≡◌, ◌++◌, map}
use Rattle.std.specs.Prelude.{Ok}
use Rattle.doc_merge.proofs.tables.gathered.Given as goal

abbrev pub invariant-loop-one : goal.invariant-loop-one
invariant-loop-one l = map Ok l.places.items ++ l.one-iterator.rest.items ≡ l.fn.found.items
