-- The rule of a board: what holds of its three words and of the views of all seats between any two steps, in every interleaving.
-- No public contract names it.
use Rattle.std.specs.Prelude.{◌≡◌, ℕ, ◌+◌, ◌<◌, ◌≤◌, min, true, List, [], ◌∷◌, length, sum_by}
use Rattle.std.specs.List.{All, list_any}
use Rattle.atomic_table.specs.Table.{State}
use Rattle.claims.specs.declared.view.SeatView.{SeatView}
use Rattle.claims.specs.declared.view.Size.{Size}
use Rattle.claims.specs.Views.{most_pieces, most_seats, spent, bit, HoldsEachBelow, all_drawn, least}

pub record Kept (size : Size) (words : List ℕ) (views : List SeatView) : Type 0 where
  -- the words are NEXT, STOP and FIRST, in this order
  pub next : ℕ
  pub stop : ℕ
  pub first : ℕ
  pub words_are : words ≡ next ∷ stop ∷ first ∷ []
  -- the board is no larger than `open` allows, so NEXT never wraps: it is at most as many as pieces and seats together
  pub small : (size.pieces ≤ most_pieces) × (size.seats ≤ most_seats)
  -- the shares add up to the number of seats, so a view that has them all is the only one that is not spent
  pub shares : sum_by (λ v. v.shares) views ≡ size.seats
  -- a view without a share is one that a join left
  pub idle : All (λ v. v.shares ≡ 0 → v ≡ spent) views
  -- each other view knows the number of pieces
  pub sized : All (λ v. 0 < v.shares → v.pieces ≡ size.pieces) views
  -- the seats' lists together hold the numbers below the smaller of NEXT and the number of pieces, each once
  pub once : HoldsEachBelow (min next size.pieces) (all_drawn views)
  -- they are as many
  pub count : length (all_drawn views) ≡ min next size.pieces
  -- NEXT counts the draws: those that gave a piece, and those that gave Done
  pub draws : next ≡ length (all_drawn views) + sum_by (λ v. v.done) views
  -- no view got Done more often than it has shares, as a seat claims no more once it is over
  pub few_done : All (λ v. v.done ≤ v.shares) views
  -- where a seat got Done, NEXT has passed the number of pieces
  pub passed : All (λ v. 0 < v.done → size.pieces < next) views
  -- STOP is 1 where some seat raised, else 0
  pub raised : stop ≡ bit (list_any (λ v. v.raised) views)
  -- where a seat got Stopped, STOP is 1
  pub stopped : All (λ v. v.stopped ≡ true → stop ≡ 1) views
  -- FIRST is the least low of all seats, or the number of pieces
  pub lowest : first ≡ least (λ v. v.low) size.pieces views
  -- no seat got a bound below FIRST, which only falls
  pub told : All (λ v. first ≤ v.told) views

-- the rule as the table takes it, which has no slots
abbrev pub Holds : Size → State (Unit {0}) SeatView → Type 0
Holds size s = Kept size s.words s.views
