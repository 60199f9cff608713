-- What is known of each object where objects can be carried over.
use Rattle.std.proofs.Common.{◌≡◌, inl, inr, ℕ, ◌+◌, ◌≤◌, Bool, true, false, cond, [], ◌∷◌, map, Some, None, refl, sym}
use Rattle.std.specs.Prelude.{⊤, nat_lt}
use Rattle.std.specs.List.{AllByRecursion}
use Rattle.std.proofs.lemmas.Bool.{and_parts, ltb-false}
use Rattle.std.specs.FinMap as finite_map
use Rattle.atoms.specs.Item.{item_cmp}
use Rattle.atoms.specs.declared.item.Item.{Item}
use Rattle.objects.specs.Entries.{State}
use Rattle.objects.specs.declared.kind.Value.{Value}
use Rattle.objects.specs.declared.kind.Value.TheVariants as value
use Rattle.objects.specs.Objects.{Content, Set, Queue, Directory, content_of}
use Rattle.meaning.specs.Words.{Naming, members}
use Rattle.batch.specs.Limits.{entries_in}
use Rattle.batch.specs.Names.{AreNames, is_name}
use Rattle.meaning.specs.WellFormed.{size_of}
use Rattle.meaning.specs.declared.limits.TheConstants.{MAX_START}
use Rattle.doc_rules.specs.Limits.{limits_of}
use Rattle.carry.specs.Carried.{first_unfit, unfit_or}
use Rattle.carry.specs.declared.document.Unfit.TheVariants.{Start, TooMany}
use Rattle.carry_laws.specs.Carrying.{HasItem, SomeHasItem, object_names}
use Rattle.carry_laws.proofs.Among.{Among, Apart, apart_map, among_from_map, contains_among, each_of}
use Rattle.carry_laws.proofs.ItemsOf.{among_bound, among_contained, keys_apart, members_apart}
use Rattle.carry_laws.proofs.Listed.{AreNamedBoth, AreWritable, IsNamed, IsWritable}

-- the first object can start a document of a version, and so can the others after it
pub record Fits (version place entries : ℕ) (v : Value) (values : State) : Type 0 where
  pub small : size_of v ≤ MAX_START
  pub few : entries + entries_in v ≤ (limits_of version).entries
  pub rest : first_unfit version (place + 1) (entries + entries_in v) values ≡ None

pub first_fits : (version place entries : ℕ) (v : Value) (values : State) → first_unfit version place entries (v ∷ values) ≡ None
    → Fits version place entries v values
first_fits version place entries v values e =
    by (nat_lt MAX_START (size_of v)) (nat_lt (limits_of version).entries (entries + entries_in v)) refl refl e
  where
    by : (large many : Bool) → nat_lt MAX_START (size_of v) ≡ large
        → nat_lt (limits_of version).entries (entries + entries_in v) ≡ many
        → unfit_or place (first_unfit version (place + 1) (entries + entries_in v) values)
        (cond large (Some Start) (cond many (Some TooMany) None)) ≡ None → Fits version place entries v values
    by true many l m none = cc
    by false true l m none = cc
    by false false l m none = record { small = ltb-false _ _ l; few = ltb-false _ _ m; rest = none }

-- the members of a set and the keys of a directory have names of their own
abbrev pub IsApartContent : Naming → Content → Type 0
IsApartContent names (Set s) = Apart (map names.item (members s))
IsApartContent names (Directory d) = Apart (map names.item (finite_map.keys d))
IsApartContent names c = ⊤

abbrev pub IsApart : Naming → Value → Type 0
IsApart names v = IsApartContent names (content_of v)

module _ (names : Naming) where
  pub writable : (version : ℕ) (v : Value) → size_of v ≤ MAX_START → ((x : Item) → HasItem v x → IsNamed version names x)
      → IsWritable version names v
  writable version (value.Set s) small named = each_of (IsNamed version names) (members s) (λ x at. named x (among_contained s x at))
  writable version (value.Queue q) small named = each_of (IsNamed version names) q (λ x at. named x (contains_among q x at))
  writable version (value.Directory d) small named = each_of (AreNamedBoth version names) (finite_map.entries d) (λ e at. (
    named e.0 (e.0, e.1, among_bound d e.0 e.1 at, inl refl),
    named e.1 (e.0, e.1, among_bound d e.0 e.1 at, inr refl),
  ))
  writable version v small named = small

  key_of_map : (d : finite_map.FinMap item_cmp Item) (x : Item) → Among x (finite_map.keys d) → HasItem (value.Directory d) x
  key_of_map d x at =
      let found = among_from_map (λ (e : Item × Item). e.0) (finite_map.entries d) x at in
      (found.0.0, found.0.1, among_bound d found.0.0 found.0.1 found.1, inl (sym found.2))

  pub apart : (v : Value) → ((x y : Item) → HasItem v x → HasItem v y → names.item x ≡ names.item y → x ≡ y) → IsApart names v
  apart (value.Set s) one = apart_map names.item (members s) (λ x y at at'. one x y (among_contained s x at) (among_contained s y at'))
      (members_apart s)
  apart (value.Directory d) one = apart_map names.item (finite_map.keys d)
      (λ x y at at'. one x y (key_of_map d x at) (key_of_map d y at')) (keys_apart d)
  apart v one = tt

  pub all_writable : (version n entries : ℕ) (values : State) → first_unfit version n entries values ≡ None
      → AreNames version (object_names names n values) → ((x : Item) → SomeHasItem values x → IsNamed version names x)
      → AreWritable version names n values
  all_writable version n entries [] fit object named = tt
  all_writable version n entries (v ∷ values) fit object named =
      let fits = first_fits version n entries v values fit in
      let both = and_parts (is_name version (names.object n)) _ object in (
        both.0,
        writable version v fits.small (λ x has. named x (inl has)),
        all_writable version (n + 1) (entries + entries_in v) values fits.rest both.1 (λ x has. named x (inr has)),
      )

  pub all_apart : (values : State)
      → ((x y : Item) → SomeHasItem values x → SomeHasItem values y → names.item x ≡ names.item y → x ≡ y)
      → AllByRecursion (IsApart names) values
  all_apart [] one = tt
  all_apart (v ∷ values) one = (apart v (λ x y h k. one x y (inl h) (inl k)), all_apart values (λ x y h k. one x y (inr h) (inr k)))
