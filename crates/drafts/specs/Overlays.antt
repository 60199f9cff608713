-- Sets and directories that differ from a borrowed one at the items that were touched. No public contract names it.
use Rattle.std.specs.Prelude.{◌≡◌, ◌<◌, ◌^◌, ℕ, Bool, true, false, List, [], ◌∷◌, Option, IsSome}
use Rattle.std.specs.BTreeMap.{is_at}
use Rattle.std.specs.Map.{lookup}
use Rattle.std.specs.FinSet as set
use Rattle.atoms.specs.Item.{item_cmp}
use Rattle.atoms.specs.ItemSet.{Sets, set_undone}
use Rattle.atoms.specs.Directory.{Directories, put_at}
use Rattle.atoms.specs.declared.item.Item.{Item}
use Rattle.atoms.specs.declared.item_set.SetChange.{SetChange}
use Rattle.atoms.specs.declared.item_set.SetChange.TheVariants.{Added, Removed}

-- the set with the item inside, or outside
abbrev pub put_item : Sets → Item → Bool → Sets
put_item s x true = set.insert s x
put_item s x false = set.remove s x

-- a borrowed set where each touched item is inside or outside
abbrev pub over_set : Sets → List (Item × Bool) → Sets
over_set s [] = s
over_set s (slot ∷ slots) = put_item (over_set s slots) slot.0 slot.1

-- a borrowed directory where each touched key has this
abbrev pub over_directory : Directories → List (Item × Option Item) → Directories
over_directory m [] = m
over_directory m (slot ∷ slots) = put_at (over_directory m slots) slot.0 slot.1

-- what slots have at a key
abbrev pub slot_at : {B : Type 0} → List (Item × B) → Item → Option B
slot_at slots q = lookup (is_at (item_cmp q)) slots

-- there is a slot for the item of each change
abbrev pub AreTouched : {B D : Type 0} → (D → Item) → List (Item × B) → List D → Type 0
AreTouched item_of slots [] = Unit {0}
AreTouched item_of slots (change ∷ journal) = IsSome (slot_at slots (item_of change)) × AreTouched item_of slots journal

-- the item that came or went
abbrev pub changed_item : SetChange → Item
changed_item (Added x) = x
changed_item (Removed x) = x

-- whether an item came
abbrev pub is_added : SetChange → Bool
is_added (Added x) = true
is_added (Removed x) = false

-- where changes are taken back, the latest first, each finds the item that came inside, and the one that went outside
abbrev pub AreMade : Sets → List SetChange → Type 0
AreMade s [] = Unit {0}
AreMade s (change ∷ journal) = (set.contains s (changed_item change) ≡ is_added change) × AreMade (set_undone s change) journal

-- what is true of a borrowed set, the touched items, the size and the changes, the latest first
pub record IsSetKept (lent : Sets) (slots : List (Item × Bool)) (size : ℕ) (journal : List SetChange) : Type 0 where
  pub counted : size ≡ set.len (over_set lent slots)
  pub small : set.len lent < 2 ^ 63
  pub touched : AreTouched changed_item slots journal
  pub made : AreMade (over_set lent slots) journal
