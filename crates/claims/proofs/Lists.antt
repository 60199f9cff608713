-- How often a number is in a list of pieces.
use Rattle.std.proofs.Common.{◌≡◌, ℕ, zero, suc, ◌+◌, ◌<◌, eqb, false, List, [], ◌∷◌, ◌++◌, arith}
use Rattle.std.proofs.lemmas.Bool.Decides.{nat_tests}
use Rattle.std.specs.List.{All}
use Rattle.claims.specs.declared.view.SeatView.{SeatView}
use Rattle.claims.specs.Views.{bit, times, once_below, is_over}

-- the lists of two seats
pub times-append : (x : ℕ) (ys zs : List ℕ) → times x (ys ++ zs) ≡ times x ys + times x zs
times-append x [] zs = omega arith
times-append x (y ∷ ys) zs = omega (arith, times-append x ys zs)

-- a number at the head is there once
pub same_once : (x : ℕ) → bit (eqb x x) ≡ 1
same_once x = grind (arith, nat_tests)

-- a fact of each number in the list
pub all_of_times : (n : ℕ) (xs : List ℕ) → ((x : ℕ) → 0 < times x xs → x < n) → All (λ x. x < n) xs
all_of_times n [] below k d lt = absurd (omega arith)
all_of_times n (x ∷ xs) below zero d lt = below x (omega (arith, same_once x))
all_of_times n (x ∷ xs) below (suc k) d lt = all_of_times n xs (λ y h. below y (omega arith)) k d (omega arith)

-- a number that is counted once below n is below n
pub below_of_once : (x n : ℕ) → 0 < once_below x n → x < n
below_of_once x n h = grind (arith, nat_tests)

-- one number more
pub once_below_next : (x n : ℕ) → once_below x (n + 1) ≡ once_below x n + bit (eqb n x)
once_below_next x n = grind (arith, nat_tests)

-- a seat that is not over didn't get Done
pub none_done : (v : SeatView) → is_over v ≡ false → v.done ≡ 0
none_done v going = grind (arith, nat_tests)
