-- Sets and directories once listed entries are put in.
use Rattle.std.proofs.Common.{◌≡◌, ◌≢◌, ◌⊎◌, inl, inr, ◌||◌, Bool, true, false, cond, List, [], ◌∷◌, map, Some, refl, sym, ap, subst, ◌∙◌}
use Rattle.std.specs.Ordering.{eq_by_cmp}
use Rattle.std.specs.List.{AllByRecursion}
use Rattle.std.proofs.lemmas.Bool.{or_cases}
use Rattle.std.specs.FinSet as finite_set
use Rattle.std.specs.FinMap as finite_map
use Rattle.atoms.specs.Item.{item_cmp}
use Rattle.atoms.specs.declared.item.Item.{Item}
use Rattle.atoms.proofs.Items.{alike_is, alike_itself, apart_not, items_total}
use Rattle.doc_tree.specs.Spelled.{bind_all, put_all}
use Rattle.carry_laws.proofs.Among.{Among, Apart}
use Rattle.carry_laws.proofs.ItemsOf.{or_later}

-- ---- sets

pub had_or_put : (xs : List Item) (s : finite_set.FinSet item_cmp) (q : Item) → finite_set.contains (put_all s xs) q ≡ true
    → Among q xs ⊎ (finite_set.contains s q ≡ true)
had_or_put [] s q is = inr is
had_or_put (x ∷ xs) s q is = elim (had_or_put xs (finite_set.insert s x) q is) [
  | inl at ↦ inl (inr at)
  | inr there ↦ elim (or_cases (eq_by_cmp item_cmp q x) (finite_set.contains s q)
      (sym (finite_set.contains-insert items_total s x q) ∙ there)) [
        | inl same ↦ inl (inl (sym (alike_is q x same)))
        | inr old ↦ inr old
      ]
]

still_had : (xs : List Item) (s : finite_set.FinSet item_cmp) (q : Item) → finite_set.contains s q ≡ true
    → finite_set.contains (put_all s xs) q ≡ true
still_had [] s q is = is
still_had (x ∷ xs) s q is = still_had xs (finite_set.insert s x) q
    (finite_set.contains-insert items_total s x q ∙ or_later (eq_by_cmp item_cmp q x) is)

pub put_there : (xs : List Item) (s : finite_set.FinSet item_cmp) (q : Item) → Among q xs → finite_set.contains (put_all s xs) q ≡ true
put_there [] s q at = absurd at
put_there (x ∷ xs) s q (inl is) = still_had xs (finite_set.insert s x) q (finite_set.contains-insert items_total s x q
    ∙ ap (λ b. b || finite_set.contains s q) (ap (λ y. eq_by_cmp item_cmp q y) is ∙ alike_itself q))
put_there (x ∷ xs) s q (inr at) = put_there xs (finite_set.insert s x) q at

-- ---- directories

pub had_or_bound : (es : List (Item × Item)) (m : finite_map.FinMap item_cmp Item) (k x : Item) → finite_map.get (bind_all m es) k ≡ Some x
    → Among (k, x) es ⊎ (finite_map.get m k ≡ Some x)
had_or_bound [] m k x is = inr is
had_or_bound (e ∷ es) m k x is = elim (had_or_bound es (finite_map.insert m e.0 e.1) k x is) [
  | inl at ↦ inl (inr at)
  | inr there ↦ by (eq_by_cmp item_cmp k e.0) refl (sym (finite_map.get-insert items_total m e.0 e.1 k) ∙ there)
]
  where
    by : (b : Bool) → eq_by_cmp item_cmp k e.0 ≡ b → cond b (Some e.1) (finite_map.get m k) ≡ Some x
        → Among (k, x) (e ∷ es) ⊎ (finite_map.get m k ≡ Some x)
    by true same bound = let value : e.1 ≡ x = cc in inl (inl (λ i. (sym (alike_is k e.0 same) i, value i)))
    by false same bound = inr bound

still_bound : (es : List (Item × Item)) (m : finite_map.FinMap item_cmp Item) (k x : Item) → AllByRecursion (λ y. k ≢ y) (map (λ e. e.0) es)
    → finite_map.get m k ≡ Some x → finite_map.get (bind_all m es) k ≡ Some x
still_bound [] m k x apart is = is
still_bound (e ∷ es) m k x apart is = still_bound es (finite_map.insert m e.0 e.1) k x apart.1
    (finite_map.get-insert items_total m e.0 e.1 k ∙ ap (λ b. cond b (Some e.1) (finite_map.get m k)) (apart_not k e.0 apart.0) ∙ is)

pub bound_there : (es : List (Item × Item)) (m : finite_map.FinMap item_cmp Item) (k x : Item) → Apart (map (λ e. e.0) es)
    → Among (k, x) es → finite_map.get (bind_all m es) k ≡ Some x
bound_there [] m k x apart at = absurd at
bound_there (e ∷ es) m k x apart (inl is) =
    let n = finite_map.insert m e.0 e.1 in
    subst (λ (p : Item × Item). finite_map.get (bind_all n es) p.0 ≡ Some p.1) is (still_bound es n e.0 e.1 apart.0
    (finite_map.get-insert items_total m e.0 e.1 e.0 ∙ ap (λ b. cond b (Some e.1) (finite_map.get m e.0)) (alike_itself e.0)))
bound_there (e ∷ es) m k x apart (inr at) = bound_there es (finite_map.insert m e.0 e.1) k x apart.1 at
