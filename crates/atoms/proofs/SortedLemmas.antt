-- Maps of sorted entries.
use Rattle.std.proofs.Common.{◌≡◌, List, [], ◌∷◌, map, true, ◌&&◌, T, refl, ap, ◌∙◌, sym, subst, Ordering, Less}
use Rattle.std.specs.Ordering.{is_lt}
use Rattle.std.specs.Cmp.{IsTotalOrder}
use Rattle.std.specs.List.{AllByRecursion}
use Rattle.std.specs.List.Sorted.{IsStrictlySortedBy}
use Rattle.std.specs.FinMap.{IsAntisymmetric, entries, from_entries, from_sorted, is_sorted, same_map, get-from_entries}
use Rattle.std.specs.FinMap.{get-from_sorted, entries-from_sorted}
use Rattle.std.specs.FinMap.Entries.{below_all}

module _ {K X : Type 0} (R : K → K → Ordering) where
  below_is : (x : K) (es : List (K × X)) → AllByRecursion (λ y. R x y ≡ Less) (map (λ e. e.0) es) → below_all R x es ≡ true
  below_is x [] below = refl
  below_is x (e ∷ es) below = ap (λ r. is_lt r && below_all R x es) below.0 ∙ below_is x es below.1

  sorted_is : (es : List (K × X)) → IsStrictlySortedBy R (map (λ e. e.0) es) → is_sorted R es ≡ true
  unfolding IsStrictlySortedBy
  sorted_is [] sorted = refl
  sorted_is (e ∷ es) sorted = ap (λ b. b && is_sorted R es) (below_is e.0 es sorted.0) ∙ sorted_is es sorted.1

  pub rises : (es : List (K × X)) → IsStrictlySortedBy R (map (λ e. e.0) es) → T (is_sorted R es)
  rises es sorted = subst T (sym (sorted_is es sorted)) tt

  -- the map of sorted entries has just these
  pub entries-sorted : IsTotalOrder R → IsAntisymmetric R → (es : List (K × X)) → IsStrictlySortedBy R (map (λ e. e.0) es)
      → entries (from_entries {R = R} es) ≡ es
  entries-sorted total same es sorted =
      ap entries (same_map total same (from_entries es) (from_sorted es) (λ q. get-from_entries total es q
      ∙ sym (get-from_sorted R es q (rises es sorted))))
      ∙ entries-from_sorted R es (rises es sorted)
