-- A batch has one text of lines.
use Rattle.std.proofs.Common.{◌≡◌, ℕ, ◌+◌, ◌-◌, List, [], ◌∷◌, ◌++◌, length, refl, sym, ap, ◌∙◌, subst, arith}
use Rattle.std.specs.List.{All}
use Rattle.std.proofs.lemmas.List.Elements.{All-head, All-tail}
use Rattle.objects.specs.Entries.{State, CommuteForward}
use Rattle.meaning.specs.Trees.{Block}
use Rattle.meaning.specs.Words.{Naming}
use Rattle.meaning.proofs.Openings.{one_opening}
use Rattle.explain.specs.Why.{PlacedEntry, IsFirstWithout, IsConflict, WhyFrom, IsLast, IsEnded, placed_nets, why_line}
use Rattle.explain.specs.Laws.{DeterminedLaw}

unfoldable first_or : {A : Type 0} → A → List A → A
first_or d [] = d
first_or d (x ∷ xs) = x

unfoldable rest_of : {A : Type 0} → List A → List A
rest_of [] = []
rest_of (x ∷ xs) = xs

cons_head : {A : Type 0} (x y : A) (xs ys : List A) → x ∷ xs ≡ y ∷ ys → x ≡ y
unfolding first_or
cons_head x y xs ys is = ap (first_or x) is

cons_tail : {A : Type 0} (x y : A) (xs ys : List A) → x ∷ xs ≡ y ∷ ys → xs ≡ ys
unfolding rest_of
cons_tail x y xs ys is = ap rest_of is

-- the first element of two ways to divide a list is the same
same_first : {A : Type 0} (P : A → Type 0) (x y : A) (before after others rest : List A) → before ++ x ∷ after ≡ others ++ y ∷ rest
    → All P before → ¬ P x → All P others → ¬ P y → y ≡ x
same_first P x y [] after [] rest is clear fails clear_too fails_too = sym (cons_head _ _ _ _ is)
same_first P x y [] after (z ∷ others) rest is clear fails clear_too fails_too =
    absurd (fails (subst P (sym (cons_head _ _ _ _ is)) (All-head P z others clear_too)))
same_first P x y (z ∷ before) after [] rest is clear fails clear_too fails_too =
    absurd (fails_too (subst P (cons_head _ _ _ _ is) (All-head P z before clear)))
same_first P x y (z ∷ before) after (w ∷ others) rest is clear fails clear_too fails_too =
    same_first P x y before after others rest (cons_tail _ _ _ _ is) (All-tail P z before clear) fails
    (All-tail P w others clear_too) fails_too

one_first : {A : Type 0} (P : A → Type 0) (xs : List A) (x y : A) → IsFirstWithout P xs x → IsFirstWithout P xs y → y ≡ x
one_first P xs x y one other = same_first P x y one.before one.after other.before other.after (sym one.is ∙ other.is) one.clear
    one.without other.clear other.without

module _ (names : Naming) (start : State) (batch : List Block) where
  same_line : (b m round : ℕ) (late early late_too early_too : PlacedEntry) → IsConflict names start batch b m late early
      → IsConflict names start batch b m late_too early_too
      → why_line names round late_too early_too ≡ why_line names round late early
  same_line b m round late early late_too early_too one other =
      let same : late_too ≡ late = one_first _ _ late late_too one.late_is other.late_is in
      let early_is = subst (λ p. IsFirstWithout (λ q. CommuteForward p.entry q.entry) (placed_nets names start batch b b (m - b)) early_too)
      same other.early_is in
      ap (λ p. why_line names round p early_too) same ∙ ap (why_line names round late) (one_first _ _ early early_too one.early_is early_is)

  one_text : (b round : ℕ) (text other : List ℕ) → WhyFrom names start batch b round text → WhyFrom names start batch b round other
      → other ≡ text
  one_text b round _ _ (IsLast opens) (IsLast opens_too) = refl
  one_text b round _ _ (IsLast opens) (IsEnded {m = m} opens_too within conflict rest) =
      absurd (let same = one_opening start batch b (length batch) m opens opens_too in omega (arith, same, within))
  one_text b round _ _ (IsEnded {m = m} opens within conflict rest) (IsLast opens_too) =
      absurd (let same = one_opening start batch b (length batch) m opens_too opens in omega (arith, same, within))
  one_text b round _ _ (IsEnded {m = m} {late = late} {early = early} {text = text} opens within conflict rest)
      (IsEnded {m = n} {late = late_too} {early = early_too} {text = other} opens_too within_too conflict_too rest_too) =
      let same : n ≡ m = one_opening start batch b m n opens opens_too in
      let line_is = same_line b m round late early late_too early_too conflict
      (subst (λ k. IsConflict names start batch b k late_too early_too) same conflict_too) in
      ap (λ line. line ++ other) line_is
      ∙ ap (λ t. why_line names round late early ++ t)
      (one_text m (round + 1) text other rest (subst (λ k. WhyFrom names start batch k (round + 1) other) same rest_too))

pub determined : DeterminedLaw
determined names start batch text other why why_too = one_text names start batch 0 1 text other why why_too
