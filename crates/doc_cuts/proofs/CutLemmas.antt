-- A search for a cut, from one place to the next.
use Rattle.std.proofs.Common.{◌≡◌, ◌≤◌, ◌<◌, ◌+◌, ◌-◌, ◌==◌, ℕ, List, [], ◌∷◌, cond, length, take, drop, get_or, false, ◌⊎◌, inl, inr}
use Rattle.std.proofs.Common.{refl, sym, subst, ap, ◌∙◌, arith}
use Rattle.std.proofs.lemmas.Bool.{cases_lt}
use Rattle.std.proofs.lemmas.List.{drop_more, get_or-drop, length-drop, take_rest}
use Rattle.std.specs.Char.{is_ascii_whitespace}
use Rattle.memchr.specs.Find.{Nowhere, OccursAt}
use Rattle.doc_cuts.specs.Cuts.{IsCut, opens_array}

-- the first byte decides, where it is no white space
pub opens_step : (t : List ℕ) (i : ℕ) → i < length t
    → opens_array (drop i t) ≡ cond (is_ascii_whitespace (get_or t i 0)) (opens_array (drop (i + 1) t)) (get_or t i 0 == 91)
unfolding opens_array
opens_step t i h = ap opens_array (drop_more t i 0 h)

-- no text opens no array
pub opens_none : opens_array [] ≡ false
unfolding opens_array
opens_none = refl

-- what occurs in the rest of a text occurs in the text
pub shown : (t : List ℕ) (a j : ℕ) (n : List ℕ) → a ≤ length t → OccursAt (take (length t - a) (drop a t)) n j → OccursAt t n (a + j)
shown t a j n le there =
    let here = subst (λ l. OccursAt l n j) (take_rest t a) there in record {
      fits = omega (arith, here.fits, length-drop a t);
      reads = λ i less.
          (let e : a + j + i ≡ a + (j + i) = omega arith in
          ap (λ k. get_or t k 0) e ∙ sym (get_or-drop a t (j + i) 0) ∙ here.reads i less);
    }

-- what occurs in a text from a place on occurs in its rest
pub hidden : (t : List ℕ) (a k : ℕ) (n : List ℕ) → a ≤ k → a ≤ length t → OccursAt t n k
    → OccursAt (take (length t - a) (drop a t)) n (k - a)
hidden t a k n behind le here =
    subst (λ l. OccursAt l n (k - a)) (sym (take_rest t a)) (record {
      fits = omega (arith, here.fits, length-drop a t);
      reads = λ i less.
          (let e : a + (k - a + i) ≡ k + i = omega arith in
          get_or-drop a t (k - a + i) 0 ∙ ap (λ m. get_or t m 0) e ∙ here.reads i less);
    })

-- where no `],` is from a on and before the end of a part, no cut is
pub passed : (t : List ℕ) (from a end : ℕ) → a ≤ length t → Nowhere (IsCut t) from a
    → Nowhere (OccursAt (take (length t - a) (drop a t)) (93 ∷ 44 ∷ [])) 0 end → (k : ℕ) → from ≤ k → k < a + end → IsCut t k → ⊥
passed t from a end le before none k low high cut = by_side (cases_lt k a)
  where
    by_side : (k < a) ⊎ (a ≤ k) → ⊥
    by_side (inl less) = before k low less cut
    by_side (inr more) = none (k - a) (omega arith) (omega arith) (hidden t a k (93 ∷ 44 ∷ []) more le cut.0)
