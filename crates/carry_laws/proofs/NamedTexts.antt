-- Objects whose items all have texts can be carried over under these texts.
use Rattle.std.proofs.Common.{◌≡◌, ◌≢◌, ℕ, zero, suc, ◌+◌, ◌<◌, inl, inr, true, false, List, [], ◌∷◌, length, drop, get_or, refl, sym, ap}
use Rattle.std.proofs.Common.{subst, ◌∙◌, arith}
use Rattle.std.specs.List.{AllByRecursion, IsDistinct}
use Rattle.std.specs.Str.{bytes_eq}
use Rattle.std.proofs.lemmas.List.{drop_all, drop_more}
use Rattle.std.proofs.lemmas.List.Elements.{All-contains}
use Rattle.std.proofs.lemmas.List.Sums.{AllPass-from_list_all}
use Rattle.std.proofs.lemmas.Slice.Eq.{bytes_eq-Decides}
use Rattle.atoms.specs.declared.item.Item.{Item}
use Rattle.atoms.proofs.Items.{one_item}
use Rattle.objects.specs.Entries.{State}
use Rattle.objects.specs.declared.kind.Value.{Value}
use Rattle.objects.specs.declared.kind.Value.TheVariants as value
use Rattle.batch.specs.Named.{AllNamedValues, HasText, IsNamedValue}
use Rattle.batch.specs.Names.{AreNames, Texts, is_name, names_of}
use Rattle.carry_laws.specs.Carrying.{HasItem, SomeHasItem, object_names}
use Rattle.carry_laws.specs.Laws.{NamedLaw}
use Rattle.carry_laws.proofs.Among.{Among, Apart, of_each}

-- ---- lists

differ : (text : List ℕ) (texts : List (List ℕ)) → AllByRecursion (λ other. bytes_eq text other ≡ false) texts
    → AllByRecursion (λ other. text ≢ other) texts
differ text [] all = tt
differ text (other ∷ texts) all = (
  λ same. let equal : bytes_eq text other ≡ true = (bytes_eq-Decides text other).1 same in
      let apart = all.0 in cc,
  differ text texts all.1,
)

pub distinct_apart : (texts : List (List ℕ)) → IsDistinct bytes_eq texts → Apart texts
unfolding IsDistinct
distinct_apart [] distinct = tt
distinct_apart (text ∷ texts) distinct = (differ text texts distinct.0, distinct_apart texts distinct.1)

module _ {A : Type 0} (d : A) where
  among_at : (xs : List A) (n : ℕ) → n < length xs → Among (get_or xs n d) xs
  among_at [] n below = absurd (omega arith)
  among_at (x ∷ xs) zero below = inl refl
  among_at (x ∷ xs) (suc n) below = inr (among_at xs n (omega arith))

  -- elements that differ are at one place each
  pub one_place : (xs : List A) (n m : ℕ) → Apart xs → n < length xs → m < length xs → get_or xs n d ≡ get_or xs m d → n ≡ m
  one_place [] n m apart below under same = absurd (omega arith)
  one_place (x ∷ xs) zero zero apart below under same = refl
  one_place (x ∷ xs) zero (suc m) apart below under same =
      absurd (of_each (λ y. x ≢ y) xs (get_or xs m d) apart.0 (among_at xs m (omega arith)) same)
  one_place (x ∷ xs) (suc n) zero apart below under same =
      absurd (of_each (λ y. x ≢ y) xs (get_or xs n d) apart.0 (among_at xs n (omega arith)) (sym same))
  one_place (x ∷ xs) (suc n) (suc m) apart below under same =
      ap suc (one_place xs n m apart.1 (omega arith) (omega arith) same)

-- ---- objects

pub names_from : (texts : Texts) (n : ℕ) (values : State) → n + length values ≡ length texts.objects
    → object_names (names_of texts) n values ≡ drop n texts.objects
names_from texts n [] size = sym (drop_all n texts.objects (omega arith))
names_from texts n (v ∷ values) size =
    ap (λ ts. get_or texts.objects n [] ∷ ts) (names_from texts (n + 1) values (omega arith))
    ∙ sym (drop_more texts.objects n [] (omega arith))

-- ---- items

pub value_has_text : (texts : Texts) (v : Value) (x : Item) → IsNamedValue texts v → HasItem v x → HasText texts x
value_has_text texts (value.Set s) x named has = named x has
value_has_text texts (value.Queue q) x named has = All-contains (HasText texts) q x named has
value_has_text texts (value.Directory d) x named (k, y, bound, inl is) = subst (HasText texts) (sym is) (named k y bound).0
value_has_text texts (value.Directory d) x named (k, y, bound, inr is) = subst (HasText texts) (sym is) (named k y bound).1
value_has_text texts v x named has = absurd has

has_text : (texts : Texts) (values : State) (x : Item) → AllNamedValues texts values → SomeHasItem values x → HasText texts x
has_text texts [] x named has = absurd has
has_text texts (v ∷ values) x named (inl has) = value_has_text texts v x named.0 has
has_text texts (v ∷ values) x named (inr has) = has_text texts values x named.1 has

pub named_objects_fit : NamedLaw
named_objects_fit version texts values objects items size named few fit =
    let same : object_names (names_of texts) 0 values ≡ texts.objects = names_from texts 0 values (omega arith) in
    let apart = distinct_apart texts.items items.1 in
    record {
      few = few;
      fit = fit;
      objects_named = subst (AreNames version) (sym same) objects.0;
      objects_apart = subst (IsDistinct bytes_eq) (sym same) objects.1;
      items_named = λ x has. AllPass-from_list_all (is_name version) texts.items items.0 x.0 [] (has_text texts values x named has);
      items_apart = λ x y has had e. one_item x y (one_place [] texts.items x.0 y.0 apart (has_text texts values x named has)
          (has_text texts values y named had) e);
    }
