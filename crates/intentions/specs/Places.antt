-- Places by object, in pages. No public contract names it.
use Rattle.std.specs.Prelude.{◌≡◌, ◌⊎◌, ◌/◌, ◌%◌, ℕ, List, Option, Some, None, option_and_then, slice_get}
use Rattle.std.specs.declared.alloc.Global.{Global}
use Rattle.std.specs.declared.vec.Vec.{Vec}
use Rattle.intentions.specs.declared.places.PagedPlaces.{PagedPlaces}
use Rattle.intentions.specs.declared.places.TheConstants.{PAGE}

-- the place of an object: an item of its page
abbrev pub place_among : List (Vec ℕ Global) → ℕ → Option ℕ
place_among pages object = option_and_then (λ (page : Vec ℕ Global). slice_get page.items (object % PAGE)) (slice_get pages (object / PAGE))

abbrev pub place_in : PagedPlaces → ℕ → Option ℕ
place_in places object = place_among places.pages.items object

-- a place is as before, or this one where there was none
abbrev pub IsReached : ℕ → Option ℕ → Option ℕ → Type 0
IsReached place old new = (new ≡ old) ⊎ ((old ≡ None) × (new ≡ Some place))
