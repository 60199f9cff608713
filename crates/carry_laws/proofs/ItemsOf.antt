-- The members of sets and the entries of maps, as lists.
use Rattle.std.proofs.Common.{◌≡◌, ◌≢◌, inl, inr, ◌&&◌, ◌||◌, ◌-◌, ◌<◌, ◌≤◌, Bool, true, false, not, cond, length, arith, ap₂, T, List, []}
use Rattle.std.proofs.Common.{◌∷◌, map, Some, Ordering, Less, Equal, Greater, refl, sym, ap, ◌∙◌}
use Rattle.std.specs.Prelude.{is_some}
use Rattle.std.specs.Ordering.{eq_by_cmp, is_eq, is_lt}
use Rattle.std.specs.List.{AllByRecursion, list_any}
use Rattle.std.proofs.lemmas.Bool.{cases_eq, or_cases}
use Rattle.std.specs.FinSet as finite_set
use Rattle.std.specs.FinMap as finite_map
use Rattle.std.specs.FinMap.{find, is_sorted}
use Rattle.std.specs.FinMap.Entries.{below_all, is_some-find}
use Rattle.atoms.specs.Item.{item_cmp}
use Rattle.atoms.specs.declared.item.Item.{Item}
use Rattle.atoms.proofs.Items.{alike_is, alike_itself, apart_not, items_total}
use Rattle.meaning.specs.Words.{members}
use Rattle.carry_laws.proofs.Among.{Among, Apart, each_of}

-- ---- tests

pub any_among : (q : Item) (xs : List Item) → list_any (eq_by_cmp item_cmp q) xs ≡ true → Among q xs
any_among q [] e = cc
any_among q (x ∷ xs) e = elim (or_cases _ _ e) [ inl is ↦ inl (sym (alike_is q x is)) | inr later ↦ inr (any_among q xs later) ]

pub or_later : (a : Bool) {b : Bool} → b ≡ true → (a || b) ≡ true
or_later true e = refl
or_later false e = e

pub among_any : (q : Item) (xs : List Item) → Among q xs → list_any (eq_by_cmp item_cmp q) xs ≡ true
among_any q [] at = absurd at
among_any q (x ∷ xs) (inl is) = ap (λ b. b || list_any (eq_by_cmp item_cmp q) xs) (ap (λ y. eq_by_cmp item_cmp q y) is ∙ alike_itself q)
among_any q (x ∷ xs) (inr at) = or_later (eq_by_cmp item_cmp q x) (among_any q xs at)

-- ---- sorted entries

not_both : (o : Ordering) → is_eq o ≡ true → T (is_lt o) → ⊥
not_both Less e h = cc
not_both Equal e h = h
not_both Greater e h = h

below_differs : (x y : Item) → T (is_lt (item_cmp x y)) → x ≢ y
below_differs x y below is = not_both (item_cmp x y) (ap (λ z. eq_by_cmp item_cmp x z) (sym is) ∙ alike_itself x) below

both_of : (a b : Bool) → T (a && b) → T a × T b
both_of true b h = (tt, h)
both_of false b h = absurd h

module _ {X : Type 0} where
  below_apart : (x : Item) (es : List (Item × X)) → T (below_all item_cmp x es) → AllByRecursion (λ y. x ≢ y) (map (λ e. e.0) es)
  below_apart x [] below = tt
  below_apart x (e ∷ es) below =
      let both = both_of (is_lt (item_cmp x e.0)) (below_all item_cmp x es) below in
      (below_differs x e.0 both.0, below_apart x es both.1)

  sorted_apart : (es : List (Item × X)) → T (is_sorted item_cmp es) → Apart (map (λ e. e.0) es)
  sorted_apart [] sorted = tt
  sorted_apart (e ∷ es) sorted =
      let both = both_of (below_all item_cmp e.0 es) (is_sorted item_cmp es) sorted in
      (below_apart e.0 es both.0, sorted_apart es both.1)

  -- the keys of a map differ
  pub keys_apart : (m : finite_map.FinMap item_cmp X) → Apart (finite_map.keys m)
  keys_apart m = sorted_apart (finite_map.entries m) (finite_map.entries_sorted m)

  found_among : (q : Item) (x : X) (es : List (Item × X)) → find item_cmp q es ≡ Some x → Among (q, x) es
  found_among q x [] is = cc
  found_among q x (e ∷ es) is = by (eq_by_cmp item_cmp q e.0) refl (found_among q x es) is
    where
      by : (b : Bool) → eq_by_cmp item_cmp q e.0 ≡ b → (find item_cmp q es ≡ Some x → Among (q, x) es)
          → cond b (Some e.1) (find item_cmp q es) ≡ Some x → Among (q, x) (e ∷ es)
      by true same later bound = let value : e.1 ≡ x = cc in inl (λ i. (sym (alike_is q e.0 same) i, value i))
      by false same later bound = inr (later bound)

  none_tied : (q : Item) (x : X) (k : Item) (es : List (Item × X)) → AllByRecursion (λ y. k ≢ y) (map (λ e. e.0) es) → Among (q, x) es
      → k ≢ q
  none_tied q x k [] all at = absurd at
  none_tied q x k (e ∷ es) all (inl is) = λ same. all.0 (same ∙ sym (ap (λ p. p.0) is))
  none_tied q x k (e ∷ es) all (inr at) = none_tied q x k es all.1 at

  among_found : (q : Item) (x : X) (es : List (Item × X)) → Apart (map (λ e. e.0) es) → Among (q, x) es → find item_cmp q es ≡ Some x
  among_found q x [] apart at = absurd at
  among_found q x (e ∷ es) apart (inl is) =
      ap (λ b. cond b (Some e.1) (find item_cmp q es)) (ap (λ p. eq_by_cmp item_cmp q p.0) is ∙ alike_itself q) ∙ ap (λ p. Some p.1) is
  among_found q x (e ∷ es) apart (inr at) =
      let other = none_tied q x e.0 es apart.0 at in
      ap (λ b. cond b (Some e.1) (find item_cmp q es)) (apart_not q e.0 (λ same. other (sym same))) ∙ among_found q x es apart.1 at

  -- what a map binds is among its entries, and the other way round
  pub bound_among : (m : finite_map.FinMap item_cmp X) (q : Item) (x : X) → finite_map.get m q ≡ Some x
      → Among (q, x) (finite_map.entries m)
  bound_among m q x is = found_among q x (finite_map.entries m) (sym (finite_map.get-entries m q) ∙ is)

  pub among_bound : (m : finite_map.FinMap item_cmp X) (q : Item) (x : X) → Among (q, x) (finite_map.entries m)
      → finite_map.get m q ≡ Some x
  among_bound m q x at = finite_map.get-entries m q ∙ among_found q x (finite_map.entries m) (keys_apart m) at

-- ---- sets

abbrev marked : List Item → List (Item × Unit {0})
marked xs = map (λ x. (x, tt)) xs

marked_keys : (xs : List Item) → map (λ e. e.0) (marked xs) ≡ xs
marked_keys [] = refl
marked_keys (x ∷ xs) = ap (λ ys. x ∷ ys) (marked_keys xs)

-- a set contains what is listed of it
contains_listed : (s : finite_set.FinSet item_cmp) (q : Item) → finite_set.contains s q ≡ list_any (eq_by_cmp item_cmp q) (members s)
contains_listed s q =
    let listed = marked (finite_set.items s) in
    let m : finite_map.FinMap item_cmp (Unit {0}) = finite_map.from_entries listed in
    finite_set.contains-items s q ∙ ap (list_any (eq_by_cmp item_cmp q)) (sym (marked_keys (finite_set.items s)))
    ∙ sym (is_some-find item_cmp q listed) ∙ ap is_some (sym (finite_map.get-from_entries items_total listed q))
    ∙ finite_map.contains_key-keys m q

pub contained_among : (s : finite_set.FinSet item_cmp) (q : Item) → finite_set.contains s q ≡ true → Among q (members s)
contained_among s q is = any_among q (members s) (sym (contains_listed s q) ∙ is)

pub among_contained : (s : finite_set.FinSet item_cmp) (q : Item) → Among q (members s) → finite_set.contains s q ≡ true
among_contained s q at = contains_listed s q ∙ among_any q (members s) at

pub members_apart : (s : finite_set.FinSet item_cmp) → Apart (members s)
members_apart s = keys_apart (finite_map.from_entries {X = Unit {0}} {R = item_cmp} (map (λ x. (x, tt)) (finite_set.items s)))

-- ---- how many there are

some_there : (s : finite_set.FinSet item_cmp) (x : Item) → finite_set.contains s x ≡ true → 0 < finite_set.len s
some_there s x is = elim (cases_eq (finite_set.len s) 0) [
  | inl none ↦ let empty = finite_set.empty_of_len s none in
      let not_there : finite_set.contains s x ≡ false = ap (λ t. finite_set.contains t x) empty ∙ finite_set.contains-empty item_cmp x in cc
  | inr some ↦ omega arith
]

still_there : (s : finite_set.FinSet item_cmp) (x : Item) (xs : List Item) → AllByRecursion (λ y. x ≢ y) xs
    → AllByRecursion (λ y. finite_set.contains s y ≡ true) xs
    → AllByRecursion (λ y. finite_set.contains (finite_set.remove s x) y ≡ true) xs
still_there s x [] apart all = tt
still_there s x (y ∷ ys) apart all = (
  finite_set.contains-remove items_total s x y
      ∙ ap₂ (λ a b. not a && b) (apart_not y x (λ same. apart.0 (sym same))) all.0,
  still_there s x ys apart.1 all.1,
)

few_contained : (xs : List Item) (s : finite_set.FinSet item_cmp) → Apart xs → AllByRecursion (λ x. finite_set.contains s x ≡ true) xs
    → length xs ≤ finite_set.len s
few_contained [] s apart all = omega arith
few_contained (x ∷ xs) s apart all =
    let less : finite_set.len (finite_set.remove s x) ≡ finite_set.len s - 1 =
    finite_set.len-remove items_total s x ∙ ap (λ b. cond b (finite_set.len s - 1) (finite_set.len s)) all.0 in
    let rest = few_contained xs (finite_set.remove s x) apart.1 (still_there s x xs apart.0 all.1) in
    let some = some_there s x all.0 in
    omega (arith, less, rest, some)

pub members_few : (s : finite_set.FinSet item_cmp) → length (members s) ≤ finite_set.len s
members_few s = few_contained (members s) s (members_apart s)
    (each_of (λ x. finite_set.contains s x ≡ true) (members s) (among_contained s))
