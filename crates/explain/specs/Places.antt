-- The operations of a run in memory. No public contract names it.
use Rattle.std.specs.Prelude.{◌≡◌, ◌++◌, Bool, true, false, List, map, string_bytes}
use Rattle.explain.specs.Why.{PlacedEntry}
use Rattle.explain.specs.declared.places.Fate.{Fate}
use Rattle.explain.specs.declared.places.Fate.TheVariants.{Stays, TakenBack}
use Rattle.explain.specs.declared.places.PlacedOperation.{PlacedOperation}

-- whether the run leaves an operation with this fate
abbrev pub is_left : Fate → Bool
is_left Stays = true
is_left TakenBack = false

abbrev pub place_view : PlacedOperation → PlacedEntry
place_view place = record { path = string_bytes place.path; entry = place.entry; left = is_left place.fate }

abbrev pub places_view : List PlacedOperation → List PlacedEntry
places_view places = map place_view places

-- these operations were added to the list, after those before
abbrev pub ArePlacedAfter : List PlacedOperation → List PlacedOperation → List PlacedEntry → Type 0
ArePlacedAfter old new these = places_view new ≡ places_view old ++ these
