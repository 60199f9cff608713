-- Looking into the value of a document.
use Rattle.std.specs.Prelude.{ℕ, ◌&&◌, ℤ, pos, negsuc, Bool, true, false, List, [], Option, Some, None, is_some, unwrap_or, option_map}
use Rattle.std.specs.Prelude.{option_and_then, nat_le, if◌then◌else◌}
use Rattle.std.specs.List.{list_any}
use Rattle.std.specs.Option.{option_map_or}
use Rattle.std.specs.Str.{bytes_eq}
use Rattle.serde_json.specs.Data.{Data, Items, Members, no_members, member}
use Rattle.serde_json.specs.Events.{items_len}
use Rattle.serde_json.specs.Find.{get, at, as_str, as_array, as_object, as_number, as_i64}

abbrev pub is_among : List ℕ → List (List ℕ) → Bool
is_among text names = list_any (λ name. bytes_eq text name) names

abbrev pub members_among : List (List ℕ) → Members → Bool
members_among names no_members = true
members_among names (member k d ms) = is_among k names && members_among names ms

-- an object with no member but these
abbrev pub has_only : List (List ℕ) → Data → Bool
has_only names d = option_map_or (members_among names) (as_object d) false

abbrev pub has : List ℕ → Data → Bool
has k d = is_some (get k d)

abbrev pub whole : Data → Option ℤ
whole d = option_and_then as_i64 (as_number d)

abbrev pub text_member : List ℕ → Data → Option (List ℕ)
text_member k d = option_and_then as_str (get k d)

abbrev pub list_member : List ℕ → Data → Option Items
list_member k d = option_and_then as_array (get k d)

abbrev pub whole_member : List ℕ → Data → Option ℤ
whole_member k d = option_and_then whole (get k d)

abbrev pub text_item : ℕ → Data → Option (List ℕ)
text_item i d = option_and_then as_str (at i d)

abbrev pub whole_item : ℕ → Data → Option ℤ
whole_item i d = option_and_then whole (at i d)

-- how many items an array has
abbrev pub count : Data → Option ℕ
count d = option_map items_len (as_array d)

-- where a test before has found that the part is there
abbrev pub or_empty : Option (List ℕ) → List ℕ
or_empty o = unwrap_or o []

-- the number, within bounds that are not negative
abbrev pub within : ℕ → ℕ → ℤ → Option ℕ
within low high (pos n) = if nat_le low n && nat_le n high then Some n else None
within low high (negsuc n) = None
