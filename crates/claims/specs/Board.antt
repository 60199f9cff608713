-- What a claim returns, and what the seats of a board know together.
use Rattle.std.specs.Prelude.{◌≡◌, ℕ, ◌<◌, ◌≤◌, List, true, false, Bool, min, length}
use Rattle.std.specs.List.{All, list_any}
use Rattle.claims.specs.declared.view.SeatView.{SeatView}
use Rattle.claims.specs.declared.claim.Claim.{Claim}
use Rattle.claims.specs.declared.claim.Claim.TheVariants.{Piece, Done, Stopped}
use Rattle.claims.specs.Views.{all_drawn, least}
use Rattle.claims.specs.Steps.{with_piece, told_done, told_stopped}

-- what the result of a claim says of the seat before and after: a piece is there, is above each that the seat had, and
-- joins its list. Nothing else changes
abbrev pub Answers : ℕ → SeatView → Claim → SeatView → Type 0
Answers pieces v (Piece k) w = (k < pieces) × All (λ j. j < k) v.drawn × (w ≡ with_piece v k)
Answers pieces v Done w = w ≡ told_done v
Answers pieces v Stopped w = w ≡ told_stopped v

-- the result makes the seat over
abbrev pub is_last : Claim → Bool
is_last (Piece k) = false
is_last Done = true
is_last Stopped = true

-- v is the view of one seat that has taken in seats with these views
pub record Together (pieces : ℕ) (views : List SeatView) (v : SeatView) : Type 0 where
  pub shares : v.shares ≡ length views
  pub drawn : v.drawn ≡ all_drawn views
  pub raised : v.raised ≡ list_any (λ u. u.raised) views
  pub low : min pieces v.low ≡ least (λ u. u.low) pieces views
  -- it got Done or Stopped where one of them did, and a bound no greater
  pub each : All (λ u. (u.done ≤ v.done) × (u.stopped ≡ true → v.stopped ≡ true) × (v.told ≤ u.told)) views
