-- Sets of sorted items.
use Rattle.std.proofs.Common.{◌≡◌, List, [], ◌∷◌, map, Bool, true, false, cond, ◌||◌, refl, ap, ◌∙◌, sym, subst}
use Rattle.std.proofs.Common.{Option, Some, None}
use Rattle.std.specs.Ordering.{eq_by_cmp}
use Rattle.std.specs.List.{list_any}
use Rattle.std.specs.List.Sorted.{IsStrictlySortedBy}
use Rattle.std.specs.FinMap.{keys, from_entries, from_sorted, find, same_map, get-from_entries}
use Rattle.std.specs.FinMap.{get-from_sorted, entries-from_sorted}
use Rattle.std.specs.FinSet as finite_set
use Rattle.atoms.specs.Item.{item_cmp}
use Rattle.atoms.proofs.Items.{items_total, items_antisymmetric}
use Rattle.atoms.proofs.SortedLemmas.{rises}
use Rattle.atoms.specs.declared.item.Item.{Item}
use Rattle.meaning.specs.Words.{members}

abbrev as_entries : List Item → List (Item × Unit {0})
as_entries xs = map (λ x. (x, tt)) xs

as_entries-keys : (xs : List Item) → map (λ e. e.0) (as_entries xs) ≡ xs
as_entries-keys [] = refl
as_entries-keys (x ∷ xs) = ap (λ ys. x ∷ ys) (as_entries-keys xs)

abbrev marked : Bool → Option (Unit {0})
marked b = cond b (Some tt) None

marked_or : (a b : Bool) → cond a (Some tt) (marked b) ≡ marked (a || b)
marked_or true b = refl
marked_or false b = refl

find-as_entries : (xs : List Item) (q : Item) → find item_cmp q (as_entries xs) ≡ marked (list_any (eq_by_cmp item_cmp q) xs)
find-as_entries [] q = refl
find-as_entries (x ∷ xs) q = ap (cond (eq_by_cmp item_cmp q x) (Some tt)) (find-as_entries xs q) ∙ marked_or (eq_by_cmp item_cmp q x)
    (list_any (eq_by_cmp item_cmp q) xs)

-- the members of the set of sorted items are just these
pub members-sorted : (xs : List Item) → IsStrictlySortedBy item_cmp xs → members (finite_set.from_list xs) ≡ xs
members-sorted xs sorted =
    let s : finite_set.FinSet item_cmp = finite_set.from_list xs in
    let has : (q : Item) → list_any (eq_by_cmp item_cmp q) (finite_set.items s) ≡ list_any (eq_by_cmp item_cmp q) xs =
    λ q. sym (finite_set.contains-items s q) ∙ finite_set.contains-from_list items_total xs q in
    let there : IsStrictlySortedBy item_cmp (map (λ e. e.0) (as_entries xs)) = subst (IsStrictlySortedBy item_cmp)
    (sym (as_entries-keys xs)) sorted in
    ap keys (same_map items_total items_antisymmetric (from_entries (as_entries (finite_set.items s))) (from_sorted (as_entries xs)) (λ q.
    get-from_entries items_total (as_entries (finite_set.items s)) q ∙ find-as_entries (finite_set.items s) q ∙ ap marked (has q)
    ∙ sym (get-from_sorted item_cmp (as_entries xs) q (rises item_cmp (as_entries xs) there) ∙ find-as_entries xs q)))
    ∙ ap (map (λ e. e.0)) (entries-from_sorted item_cmp (as_entries xs) (rises item_cmp (as_entries xs) there))
    ∙ as_entries-keys xs
