-- A seat that claims comes nearer to its last claim.
use Rattle.std.proofs.Common.{◌≡◌, ℕ, suc, ◌+◌, ◌<◌, ◌≤◌, max, List, [], ◌∷◌, ◌++◌, cond, ap, arith}
use Rattle.std.specs.List.{All}
use Rattle.claims.specs.declared.view.SeatView.{SeatView}
use Rattle.claims.specs.Views.{is_over, past, claims_left}
use Rattle.claims.specs.Steps.{with_piece}

-- one more piece
past-push : (xs : List ℕ) (k : ℕ) → past (xs ++ k ∷ []) ≡ max (past xs) (k + 1)
past-push [] k = omega arith
past-push (x ∷ xs) k = omega (arith, past-push xs k)

-- a list of smaller numbers ends no further
past-le : (xs : List ℕ) (k : ℕ) → All (λ j. j < k) xs → past xs ≤ k
past-le [] k below = omega arith
past-le (x ∷ xs) k below = omega (arith, below 0 0 (omega arith), past-le xs k (λ i d lt. below (suc i) d (omega arith)))

-- a piece above those that the seat has leaves it a claim less, at least
pub claims_left_falls : (pieces k : ℕ) (v w : SeatView) → k < pieces → All (λ j. j < k) v.drawn → w ≡ with_piece v k
    → claims_left pieces w < claims_left pieces v
claims_left_falls pieces k v w left below is = omega (
  arith,
  left,
  past-le v.drawn k below,
  ap (λ u. past u.drawn) is,
  past-push v.drawn k,
  ap {B = ℕ} (λ u. cond (is_over u) 0 1) is,
)
