-- Drafts by their objects, in a table whose places may be stale. No public contract names it.
use Rattle.std.specs.Prelude.{◌≡◌, ℕ, nat_eq, List, Option, Some, None, option_map, option_and_then, slice_get, if◌then◌else◌, IsSomeAnd}
use Rattle.objects.specs.declared.kind.Value.{Value}
use Rattle.drafts.specs.History.{History}
use Rattle.intentions.specs.Places.{place_in}
use Rattle.intentions.specs.declared.draft_table.Drafted.{Drafted}
use Rattle.intentions.specs.declared.draft_table.DraftTable.{DraftTable}

-- the draft of each object that has one
abbrev pub Drafts : Type 0
Drafts = ℕ → Option (History Value)

-- a draft, if it is of this object
abbrev pub draft_of : ℕ → Drafted → Option (History Value)
draft_of object drafted = if nat_eq drafted.object object then Some drafted.draft else None

-- the draft at the place of each object, if it is of that object
abbrev pub drafts_in : (ℕ → Option ℕ) → List Drafted → Drafts
drafts_in places drafts object = option_and_then (draft_of object) (option_and_then (slice_get drafts) (places object))

abbrev pub drafts_of : DraftTable → Drafts
drafts_of table = drafts_in (place_in table.places) table.drafts.items

-- the draft at a place
abbrev pub draft_at : DraftTable → ℕ → Option (History Value)
draft_at table place = option_map (λ (drafted : Drafted). drafted.draft) (slice_get table.drafts.items place)

-- the draft of the object is at this place
pub record IsPlaceOf (table : DraftTable) (object place : ℕ) : Type 0 where
  pub placed : place_in table.places object ≡ Some place
  pub named : IsSomeAnd (slice_get table.drafts.items place) (λ drafted. drafted.object ≡ object)

-- drafts in which the object has this one, and each other object what it had
abbrev pub IsPut : Drafts → Drafts → ℕ → History Value → Type 0
IsPut drafts put object h = (q : ℕ) → put q ≡ (if nat_eq object q then Some h else drafts q)
