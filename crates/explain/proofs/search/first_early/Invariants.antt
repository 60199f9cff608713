use Rattle.std.proofs.Common.{take}
use Rattle.std.specs.List.{All, filter}
use Rattle.objects.specs.Entries.{CommuteForward}
use Rattle.explain.specs.Places.{places_view}
use Rattle.explain.proofs.search.first_early.Given as goal

abbrev pub invariant-loop-place : goal.invariant-loop-place
invariant-loop-place l = All (λ p. CommuteForward l.late p.entry) (filter (λ p. p.left) (places_view (take l.place-index l.places)))
