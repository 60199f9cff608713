use Rattle.std.proofs.Common.{take}
use Rattle.std.specs.List.{All}
use Rattle.objects.specs.Entries.{CommutesWith}
use Rattle.explain.specs.Places.{places_view}
use Rattle.explain.proofs.search.first_late.Given as goal

abbrev pub invariant-loop-place : goal.invariant-loop-place
invariant-loop-place l = All (λ p. CommutesWith p.entry l.nets) (places_view (take l.place-index l.places))
