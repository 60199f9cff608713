-- What objects and their names need to be carried over.
use Rattle.std.specs.Prelude.{◌≡◌, ◌⊎◌, ℕ, ◌+◌, ◌≤◌, true, List, [], ◌∷◌, length, Some, None}
use Rattle.std.specs.List.{Contains, IsDistinct}
use Rattle.std.specs.Str.{bytes_eq}
use Rattle.std.specs.FinSet as finite_set
use Rattle.std.specs.FinMap as finite_map
use Rattle.atoms.specs.declared.item.Item.{Item}
use Rattle.objects.specs.Entries.{State}
use Rattle.objects.specs.declared.kind.Value.{Value}
use Rattle.objects.specs.declared.kind.Value.TheVariants as value
use Rattle.meaning.specs.Words.{Naming}
use Rattle.batch.specs.Names.{AreNames, is_name}
use Rattle.carry.specs.Carried.{first_unfit}
use Rattle.carry.specs.declared.document.TheConstants.{FIRST_CARRIED}
use Rattle.doc_rules.specs.Limits.{limits_of}
use Rattle.doc_rules.specs.declared.limits.TheConstants.{LAST_VERSION}

-- a version of documents that objects are carried into
abbrev pub IsCarriedVersion : ℕ → Type 0
IsCarriedVersion version = (FIRST_CARRIED ≤ version) × (version ≤ LAST_VERSION)

-- a member, an item of the queue, or a key or what it is bound to
abbrev pub HasItem : Value → Item → Type 0
HasItem (value.Set s) x = finite_set.contains s x ≡ true
HasItem (value.Queue q) x = Contains q x
HasItem (value.Directory d) x = (k : Item) × (y : Item) × (finite_map.get d k ≡ Some y) × ((x ≡ k) ⊎ (x ≡ y))
HasItem v x = ⊥

abbrev pub SomeHasItem : State → Item → Type 0
SomeHasItem [] x = ⊥
SomeHasItem (v ∷ values) x = HasItem v x ⊎ SomeHasItem values x

-- the names of the objects from place n on
abbrev pub object_names : Naming → ℕ → State → List (List ℕ)
object_names names n [] = []
object_names names n (v ∷ values) = names.object n ∷ object_names names (n + 1) values

-- Objects that may start a document of a version: few, none of them unfit, and what they name has a name of its own.
pub record CanBeCarried (version : ℕ) (names : Naming) (values : State) : Type 0 where
  pub few : length values ≤ (limits_of version).objects
  pub fit : first_unfit version 0 0 values ≡ None
  pub objects_named : AreNames version (object_names names 0 values)
  pub objects_apart : IsDistinct bytes_eq (object_names names 0 values)
  pub items_named : (x : Item) → SomeHasItem values x → is_name version (names.item x) ≡ true
  pub items_apart : (x y : Item) → SomeHasItem values x → SomeHasItem values y → names.item x ≡ names.item y → x ≡ y
