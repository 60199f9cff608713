-- The objects that a next document starts with can start it.
use Rattle.std.proofs.Common.{◌≡◌, ℕ, zero, suc, ◌+◌, Bool, true, false, cond, List, [], ◌∷◌, ◌++◌, length, map, Option, Some, None}
use Rattle.std.proofs.Common.{refl, subst, arith}
use Rattle.std.specs.Prelude.{option_and_then, option_map, slice_get, unwrap_or}
use Rattle.std.specs.List.{AllByRecursion}
use Rattle.std.proofs.lemmas.List.Sums.{AllPass-from_list_all}
use Rattle.std.proofs.lemmas.Option.{slice_get_within}
use Rattle.atoms.specs.declared.item.Item.{Item}
use Rattle.objects.specs.Entries.{State}
use Rattle.objects.specs.declared.kind.Value.{Value}
use Rattle.batch.specs.Limits.{entries_in}
use Rattle.batch.specs.Named.{AllNamedValues, IsNamedValue}
use Rattle.batch.specs.Names.{AreNames, Texts, is_name, names_of}
use Rattle.doc_tree.specs.Scope.{Table, is_listed, place_of}
use Rattle.carry.specs.Carried.{first_unfit}
use Rattle.carry.specs.Joined.{Named, StartOf, added, joined, name_of, own, start_at, start_of, value_of}
use Rattle.carry_laws.specs.Carrying.{HasItem}
use Rattle.atoms.proofs.Items.{one_item}
use Rattle.carry_laws.proofs.Among.{Apart}
use Rattle.carry_laws.proofs.Carriable.{IsApart, apart, first_fits, writable}
use Rattle.carry_laws.proofs.JoinedJson.{CanStart}
use Rattle.carry_laws.proofs.Listed.{IsNamed}
use Rattle.carry_laws.proofs.NamedTexts.{one_place, value_has_text}

-- ---- what holds of each object of both holds of each start

module _ (P : StartOf → Type 0) (first next : Named)
    (of_first : (n : ℕ) (v : Value) → slice_get first.values n ≡ Some v → P (start_of first n v)) where
  at_value : (n : ℕ) (o : Option Value) (s : StartOf) → slice_get first.values n ≡ o → P s
      → P (unwrap_or (option_map (start_of first n) o) s)
  at_value n None s is other = other
  at_value n (Some v) s is other = of_first n v is

  at_name : (o : Option ℕ) (s : StartOf) → P s → P (unwrap_or (option_and_then (start_at first) o) s)
  at_name None s other = other
  at_name (Some n) s other = at_value n (slice_get first.values n) s refl other

  each_own : (n : ℕ) (values : State)
      → ((i : ℕ) (v : Value) → slice_get values i ≡ Some v → P (start_of next (n + i) v)) → AllByRecursion P (own first next n values)
  each_own n [] of_next = tt
  each_own n (v ∷ values) of_next = (
    at_name (place_of ((names_of next.texts).object n) first.texts.objects) (start_of next n v)
        (subst (λ m. P (start_of next m v)) (more_zero n) (of_next 0 v refl)),
    each_own (n + 1) values (λ i w there. subst (λ m. P (start_of next m w)) (more_suc n i) (of_next (suc i) w there)),
  )
    where
      more_zero : (n : ℕ) → n + 0 ≡ n
      more_zero n = omega arith

      more_suc : (n i : ℕ) → n + suc i ≡ n + 1 + i
      more_suc n i = omega arith

  unless_listed : (b : Bool) (s : StartOf) (rest : List StartOf) → P s → AllByRecursion P rest → AllByRecursion P (cond b rest (s ∷ rest))
  unless_listed true s rest here later = later
  unless_listed false s rest here later = (here, later)

  each_added : (known : Table) (n : ℕ) (values : State)
      → ((i : ℕ) (v : Value) → slice_get values i ≡ Some v → P (start_of first (n + i) v)) → AllByRecursion P (added first known n values)
  each_added known n [] of_values = tt
  each_added known n (v ∷ values) of_values =
      unless_listed (is_listed ((names_of first.texts).object n) known) (start_of first n v) (added first known (n + 1) values)
      (subst (λ m. P (start_of first m v)) (more_zero n) (of_values 0 v refl))
      (each_added known (n + 1) values (λ i w there. subst (λ m. P (start_of first m w)) (more_suc n i) (of_values (suc i) w there)))
    where
      more_zero : (n : ℕ) → n + 0 ≡ n
      more_zero n = omega arith

      more_suc : (n i : ℕ) → n + suc i ≡ n + 1 + i
      more_suc n i = omega arith

  both_all : (xs ys : List StartOf) → AllByRecursion P xs → AllByRecursion P ys → AllByRecursion P (xs ++ ys)
  both_all [] ys here later = later
  both_all (x ∷ xs) ys here later = (here.0, both_all xs ys here.1 later)

  pub each_joined : ((n : ℕ) (v : Value) → slice_get next.values n ≡ Some v → P (start_of next n v))
      → AllByRecursion P (joined first next)
  each_joined of_next =
      both_all (own first next 0 next.values) (added first next.texts.objects 0 first.values)
      (each_own 0 next.values (λ i v there. subst (λ m. P (start_of next m v)) (none_before i) (of_next i v there)))
      (each_added next.texts.objects 0 first.values (λ i v there. subst (λ m. P (start_of first m v)) (none_before i) (of_first i v there)))
    where
      none_before : (i : ℕ) → i ≡ 0 + i
      none_before i = omega arith

-- ---- objects and items with names

-- each object and each item has a text that is a name of a version
pub record AreAllNamed (version : ℕ) (texts : Texts) (values : State) : Type 0 where
  pub objects : AreNames version texts.objects
  pub items : AreNames version texts.items
  pub size : length texts.objects ≡ length values
  pub named : AllNamedValues texts values
  pub apart : Apart texts.items

-- a start has a name, and so have its items
abbrev IsNamedStart : ℕ → StartOf → Type 0
IsNamedStart version start =
    (is_name version (name_of start) ≡ true) × ((x : Item) → HasItem start.value x → IsNamed version start.names x)

abbrev pub IsApartStart : StartOf → Type 0
IsApartStart start = IsApart start.names start.value

value_at_named : (texts : Texts) (values : State) (n : ℕ) (v : Value) → AllNamedValues texts values → slice_get values n ≡ Some v
    → IsNamedValue texts v
value_at_named texts [] n v named there = cc
value_at_named texts (w ∷ values) zero v named there = subst (IsNamedValue texts) (same w v there) named.0
  where
    same : (w v : Value) → Some w ≡ Some v → w ≡ v
    same w v e = cc
value_at_named texts (w ∷ values) (suc n) v named there = value_at_named texts values n v named.1 there

start_named : (version : ℕ) (named : Named) → AreAllNamed version named.texts named.values → (n : ℕ) (v : Value)
    → slice_get named.values n ≡ Some v → IsNamedStart version (start_of named n v)
start_named version named all n v there =
    let within = slice_get_within named.values n v there in
    let size = all.size in (
      AllPass-from_list_all (is_name version) named.texts.objects all.objects n [] (omega (arith, within, size)),
      λ x has. AllPass-from_list_all (is_name version) named.texts.items all.items x.0 []
          (value_has_text named.texts v x (value_at_named named.texts named.values n v all.named there) has),
    )

-- the items of a start have names of their own
start_apart : (version : ℕ) (named : Named) → AreAllNamed version named.texts named.values → (n : ℕ) (v : Value)
    → slice_get named.values n ≡ Some v → IsApartStart (start_of named n v)
start_apart version named all n v there =
    let texts = named.texts in
    let has_text = value_has_text texts v in
    let is_named = value_at_named texts named.values n v all.named there in
    apart (names_of texts) v (λ x y has had e. one_item x y (one_place [] texts.items x.0 y.0 all.apart (has_text x is_named has)
    (has_text y is_named had) e))

pub joined_apart : (version : ℕ) (first next : Named) → AreAllNamed version first.texts first.values
    → AreAllNamed version next.texts next.values → AllByRecursion IsApartStart (joined first next)
joined_apart version first next one other =
    each_joined IsApartStart first next (start_apart version first one) (start_apart version next other)

can_start : (version place entries : ℕ) (starts : List StartOf) → first_unfit version place entries (map value_of starts) ≡ None
    → AllByRecursion (IsNamedStart version) starts → AllByRecursion (CanStart version) starts
can_start version place entries [] fit named = tt
can_start version place entries (start ∷ starts) fit named =
    let fits = first_fits version place entries start.value (map value_of starts) fit in (
      (named.0.0, writable start.names version start.value fits.small named.0.1),
      can_start version (place + 1) (entries + entries_in start.value) starts fits.rest named.1,
    )

pub joined_can_start : (version : ℕ) (first next : Named) → AreAllNamed version first.texts first.values
    → AreAllNamed version next.texts next.values → first_unfit version 0 0 (map value_of (joined first next)) ≡ None
    → AllByRecursion (CanStart version) (joined first next)
joined_can_start version first next one other fit =
    can_start version 0 0 (joined first next) fit
    (each_joined (IsNamedStart version) first next (start_named version first one) (start_named version next other))
