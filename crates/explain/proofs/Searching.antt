-- Searching a list for the first element of which a property doesn't hold.
use Rattle.std.proofs.Common.{◌≡◌, ℕ, suc, ◌+◌, ◌<◌, ◌≤◌, List, [], ◌∷◌, ◌++◌, length, get_or, take, drop, Bool, true, false, cond, refl}
use Rattle.std.proofs.Common.{sym, ap, ◌∙◌, subst, append-nil, take-append-drop, drop-cons}
use Rattle.std.specs.List.{All}
use Rattle.std.proofs.lemmas.List.{take_more, take_all, map-append}
use Rattle.std.proofs.lemmas.List.Elements.{All-nil, All-append, All-cons, All-same, filter-append}
use Rattle.explain.specs.Why.{PlacedEntry, IsFirstWithout}
use Rattle.explain.specs.Places.{place_view, places_view}
use Rattle.explain.specs.declared.places.PlacedOperation.{PlacedOperation}
use Rattle.explain.proofs.Linked.{left_in}

-- the list at one of its places
split_at : (places : List PlacedOperation) (i : ℕ) (x : PlacedOperation) → i < length places → x ≡ get_or places i x
    → places ≡ take i places ++ x ∷ drop (suc i) places
split_at places i x lt is =
    sym (take-append-drop i places) ∙ ap (λ rest. take i places ++ rest) (drop-cons places i x lt)
    ∙ ap (λ y. take i places ++ y ∷ drop (suc i) places) (sym is)

split_view : (places : List PlacedOperation) (i : ℕ) (x : PlacedOperation) → i < length places → x ≡ get_or places i x
    → places_view places ≡ places_view (take i places) ++ place_view x ∷ places_view (drop (suc i) places)
split_view places i x lt is = ap places_view (split_at places i x lt is)
    ∙ map-append place_view (take i places) (x ∷ drop (suc i) places)

more_view : (places : List PlacedOperation) (i : ℕ) (x : PlacedOperation) → i < length places → x ≡ get_or places i x
    → places_view (take (i + 1) places) ≡ places_view (take i places) ++ place_view x ∷ []
more_view places i x lt is =
    ap places_view (take_more places i x lt ∙ ap (λ y. take i places ++ y ∷ []) (sym is))
    ∙ map-append place_view (take i places) (x ∷ [])

abbrev if_left : Bool → PlacedEntry → List PlacedEntry
if_left true p = p ∷ []
if_left false p = []

first_if : (stays : Bool) (p : PlacedEntry) (ps : List PlacedEntry) → cond stays (p ∷ ps) ps ≡ if_left stays p ++ ps
first_if true p ps = refl
first_if false p ps = refl

left_first : (p : PlacedEntry) (ps : List PlacedEntry) → left_in (p ∷ ps) ≡ if_left p.left p ++ left_in ps
left_first p ps = first_if p.left p (left_in ps)

module _ (P : PlacedEntry → Type 0) (places : List PlacedOperation) (i : ℕ) (x : PlacedOperation) (lt : i < length places)
    (is : x ≡ get_or places i x) where
  pub first_here : All P (places_view (take i places)) → ¬ P (place_view x) → IsFirstWithout P (places_view places) (place_view x)
  first_here clear fails = record {
    before = places_view (take i places);
    after = places_view (drop (suc i) places);
    is = split_view places i x lt is;
    clear = clear;
    without = fails;
  }

  pub later : All P (places_view (take i places)) → P (place_view x) → All P (places_view (take (i + 1) places))
  later clear holds = All-same P _ _ (more_view places i x lt is)
      (All-append P _ _ clear (All-cons P _ [] holds (All-nil P)))

  -- the same among those that are left
  left_split : (stays : Bool) → (place_view x).left ≡ stays
      → left_in (places_view places)
      ≡ left_in (places_view (take i places)) ++ (if_left stays (place_view x) ++ left_in (places_view (drop (suc i) places)))
  left_split stays same =
      ap left_in (split_view places i x lt is)
      ∙ filter-append (λ p. p.left) (places_view (take i places)) (place_view x ∷ places_view (drop (suc i) places))
      ∙ ap (λ ps. left_in (places_view (take i places)) ++ ps) (left_first (place_view x) (places_view (drop (suc i) places)))
      ∙ ap (λ b. left_in (places_view (take i places)) ++ (if_left b (place_view x) ++ left_in (places_view (drop (suc i) places)))) same

  left_more : (stays : Bool) → (place_view x).left ≡ stays
      → left_in (places_view (take (i + 1) places)) ≡ left_in (places_view (take i places)) ++ if_left stays (place_view x)
  left_more stays same =
      ap left_in (more_view places i x lt is)
      ∙ filter-append (λ p. p.left) (places_view (take i places)) (place_view x ∷ [])
      ∙ ap (λ ps. left_in (places_view (take i places)) ++ ps) (left_first (place_view x) [] ∙ append-nil _)
      ∙ ap (λ b. left_in (places_view (take i places)) ++ if_left b (place_view x)) same

  pub first_left_here : All P (left_in (places_view (take i places))) → (place_view x).left ≡ true → ¬ P (place_view x)
      → IsFirstWithout P (left_in (places_view places)) (place_view x)
  first_left_here clear same fails = record {
    before = left_in (places_view (take i places));
    after = left_in (places_view (drop (suc i) places));
    is = left_split true same;
    clear = clear;
    without = fails;
  }

  pub later_left : All P (left_in (places_view (take i places))) → (place_view x).left ≡ true → P (place_view x)
      → All P (left_in (places_view (take (i + 1) places)))
  later_left clear same holds = All-same P _ _ (left_more true same) (All-append P _ _ clear (All-cons P _ [] holds (All-nil P)))

  pub later_not_left : All P (left_in (places_view (take i places))) → (place_view x).left ≡ false
      → All P (left_in (places_view (take (i + 1) places)))
  later_not_left clear same = All-same P _ _ (left_more false same ∙ append-nil _) clear

pub none_at_end : (P : PlacedEntry → Type 0) (places : List PlacedOperation) (i : ℕ) → length places ≤ i
    → All P (places_view (take i places))
    → All P (places_view places)
none_at_end P places i le clear = subst (λ ps. All P (places_view ps)) (take_all i places le) clear

pub none_left_at_end : (P : PlacedEntry → Type 0) (places : List PlacedOperation) (i : ℕ) → length places ≤ i
    → All P (left_in (places_view (take i places))) → All P (left_in (places_view places))
none_left_at_end P places i le clear = subst (λ ps. All P (left_in (places_view ps))) (take_all i places le) clear
