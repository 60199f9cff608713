-- Seats before and after their first claim, and what is given of them. No public contract names it.
use Rattle.std.specs.Prelude.{◌≡◌, ℕ, ◌+◌, ◌≤◌, List, length}
use Rattle.std.specs.List.{All}
use Rattle.claims.specs.declared.claim.Claim.{Claim}
use Rattle.claims.specs.Views.{fresh, is_over}
use Rattle.claims.specs.Seated.{Seated, Opened, IsSeatOf}
use Rattle.claims.specs.Board.{Answers, is_last}

-- the seat is this board's, and has taken no step
abbrev pub IsNewSeat : Opened → Seated → Type 0
IsNewSeat board seat = IsSeatOf board seat × (seat.view ≡ fresh 1 board.pieces)

-- the seat is this board's, and its first claim, its only step, gave this
pub record HasClaimed (board : Opened) (seat : Seated) (claim : Claim) : Type 0 where
  pub own : IsSeatOf board seat
  pub answer : Answers board.pieces (fresh 1 board.pieces) claim seat.view
  pub over : is_over seat.view ≡ is_last claim

-- each seat of the board may be worked at after its first claim
abbrev pub CanWork : Opened → (Seated → Claim → Type 0) → Type 0
CanWork board can = (seat : Seated) (claim : Claim) → HasClaimed board seat claim → can seat claim

-- what work gives of some seat and the result of its first claim
pub record IsGivenBy {X : Type 0} (gives : Seated → Claim → X → Type 0) (x : X) : Type 0 where
  pub seat : Seated
  pub claim : Claim
  pub given : gives seat claim x

-- these seats have still to claim, and there is room for what is given of them beside what was given of others
pub record AreNext {X : Type 0} (board : Opened) (gives : Seated → Claim → X → Type 0) (seats : List Seated) (given : List X)
    (capacity : ℕ) : Type 0 where
  pub new : All (IsNewSeat board) seats
  pub room : length given + length seats ≤ capacity
  pub each : All (IsGivenBy gives) given
