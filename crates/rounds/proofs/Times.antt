-- How often a number is in a list.
use Rattle.std.proofs.Common.{◌≡◌, ◌≢◌, ℕ, zero, suc, ◌+◌, ◌<◌, ◌≤◌, ◌==◌, List, [], ◌∷◌, ◌++◌, length, get_or, refl, ap, ◌∙◌, arith}
use Rattle.std.proofs.lemmas.Bool.Decides.{nat_tests}
use native.Mathlib.Decide.{ℕ_discrete}
use Rattle.std.specs.List.{sum_by}
use Rattle.std.proofs.lemmas.List.Sums.{sum_by-cons}
use Rattle.claims.specs.Views.{bit, times}
use Rattle.claims.proofs.Lists.{times-append}

bit_same : (x : ℕ) → bit (x == x) ≡ 1
bit_same x = grind (arith, nat_tests)

bit_other : (x y : ℕ) → y ≢ x → bit (y == x) ≡ 0
bit_other x y h = grind (arith, nat_tests)

pub times_one : (x : ℕ) → times x (x ∷ []) ≡ 1
times_one x = omega (arith, bit_same x)

pub times_none : (x y : ℕ) → y ≢ x → times x (y ∷ []) ≡ 0
times_none x y h = omega (arith, bit_other x y h)

pub times_push : (x : ℕ) (ys : List ℕ) → times x (ys ++ x ∷ []) ≡ times x ys + 1
times_push x ys = omega (arith, times-append x ys (x ∷ []), times_one x)

pub times_push_other : (x y : ℕ) (ys : List ℕ) → y ≢ x → times x (ys ++ y ∷ []) ≡ times x ys
times_push_other x y ys h = omega (arith, times-append x ys (y ∷ []), times_none x y h)

-- a number that is read from a list is in it
pub times_read : (xs : List ℕ) (k d : ℕ) → k < length xs → 0 < times (get_or xs k d) xs
times_read [] k d lt = absurd (omega arith)
times_read (x ∷ xs) zero d lt = omega (arith, bit_same x)
times_read (x ∷ xs) (suc k) d lt = omega (arith, times_read xs k d (omega arith))

-- the numbers below i, and then i
pub below_push : (i : ℕ) (numbers more : List ℕ) → more ≡ numbers ++ i ∷ [] → ((j : ℕ) → j < i → times j numbers ≡ 1)
    → ((j : ℕ) → i ≤ j → times j numbers ≡ 0) → (j : ℕ) → j < i + 1 → times j more ≡ 1
below_push i numbers more pushed below beyond j lt = elim (ℕ_discrete i j) [
  | yes same ↦ let once = times_push j numbers in let none = beyond j (omega arith) in ap (times j) pushed
      ∙ (ap (λ n. times j (numbers ++ n ∷ [])) same ∙ (let one : times j (numbers ++ j ∷ []) ≡ 1 = omega arith in one))
  | no other ↦ ap (times j) pushed ∙ (times_push_other j i numbers other ∙ below j (omega arith))
]

pub beyond_push : (i : ℕ) (numbers more : List ℕ) → more ≡ numbers ++ i ∷ [] → ((j : ℕ) → i ≤ j → times j numbers ≡ 0) → (j : ℕ)
    → i + 1 ≤ j → times j more ≡ 0
beyond_push i numbers more pushed beyond j le = let other : i ≢ j = omega arith in ap (times j) pushed
    ∙ (times_push_other j i numbers other ∙ beyond j (omega arith))

-- as a sum over the list
pub times_sum : (x : ℕ) (ys : List ℕ) → times x ys ≡ sum_by (λ y. bit (y == x)) ys
times_sum x [] = refl
times_sum x (y ∷ ys) = omega (arith, sum_by-cons (λ z. bit (z == x)) y ys, times_sum x ys)
