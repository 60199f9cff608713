-- Objects that are the same under names, where their items may have other numbers.
use Rattle.std.specs.Prelude.{◌≡◌, ◌↔◌, ℕ, true, List, [], ◌∷◌, map, Some, ⊤}
use Rattle.std.specs.FinSet as finite_set
use Rattle.std.specs.FinMap as finite_map
use Rattle.atoms.specs.Item.{item_cmp}
use Rattle.atoms.specs.declared.item.Item.{Item}
use Rattle.objects.specs.Entries.{State}
use Rattle.objects.specs.declared.kind.Value.{Value}
use Rattle.objects.specs.Objects.{Content, Number, Signed, Set, Queue, Directory, content_of, kind_of_value}
use Rattle.meaning.specs.Words.{Naming}
use Rattle.carry.specs.Joined.{StartOf}

-- a member of the set has this name
abbrev pub HasMember : Naming → finite_set.FinSet item_cmp → List ℕ → Type 0
HasMember names s name = (x : Item) × (finite_set.contains s x ≡ true) × (names.item x ≡ name)

-- a key of the first name is bound to an item of the second
abbrev pub Binds : Naming → finite_map.FinMap item_cmp Item → List ℕ → List ℕ → Type 0
Binds names d key name = (k : Item) × (x : Item) × (finite_map.get d k ≡ Some x) × (names.item k ≡ key) × (names.item x ≡ name)

-- the same number, or items of the same names
abbrev pub IsSameContent : Naming → Content → Naming → Content → Type 0
IsSameContent old (Number n) new (Number m) = n ≡ m
IsSameContent old (Signed n) new (Signed m) = n ≡ m
IsSameContent old (Set s) new (Set t) = (name : List ℕ) → HasMember old s name ↔ HasMember new t name
IsSameContent old (Queue q) new (Queue p) = map old.item q ≡ map new.item p
IsSameContent old (Directory d) new (Directory e) = (key name : List ℕ) → Binds old d key name ↔ Binds new e key name
IsSameContent old c new d = ⊥

-- of one kind, with the same content
abbrev pub IsSame : Naming → Value → Naming → Value → Type 0
IsSame old v new w = (kind_of_value v ≡ kind_of_value w) × IsSameContent old (content_of v) new (content_of w)

-- as many objects, each the same as that in its place
abbrev pub AreSame : Naming → State → Naming → State → Type 0
AreSame old [] new [] = ⊤
AreSame old (v ∷ values) new (w ∷ others) = IsSame old v new w × AreSame old values new others
AreSame old values new others = ⊥

-- as many as starts, each the same as that in its place, under its own names
abbrev pub AreSameStarts : List StartOf → Naming → State → Type 0
AreSameStarts [] new [] = ⊤
AreSameStarts (start ∷ starts) new (w ∷ others) = IsSame start.names start.value new w × AreSameStarts starts new others
AreSameStarts starts new others = ⊥
