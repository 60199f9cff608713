-- What a seat that seeks the least failing piece knows. No public contract names it.
use Rattle.std.specs.Prelude.{◌≡◌, ℕ, ◌<◌, ◌≤◌, ◌⊎◌, Bool, true, false, List}
use Rattle.std.specs.List.{All}
use Rattle.claims.specs.declared.view.SeatView.{SeatView}
use Rattle.claims.specs.Views.{is_over}
use Rattle.claims.specs.Seated.{Seated, Opened, IsSeatOf}

-- the test, which may give this of each piece, may pass it or fail it
abbrev pub Passing : (ℕ → Bool → Type 0) → ℕ → Type 0
Passing tells piece = tells piece true

abbrev pub Failing : (ℕ → Bool → Type 0) → ℕ → Type 0
Failing tells piece = tells piece false

-- the piece passes, or it is at or above a number that the seat lowered to, or that it got
abbrev pub Judged : (ℕ → Type 0) → SeatView → ℕ → Type 0
Judged passing v j = passing j ⊎ ((v.low ≤ j) ⊎ (v.told ≤ j))

-- the seat lowered to nothing, or to a piece that fails
abbrev pub LowFails : (ℕ → Type 0) → ℕ → SeatView → Type 0
LowFails failing pieces v = (v.low ≡ pieces) ⊎ ((v.low < pieces) × failing v.low)

-- each piece that the seat drew is judged
pub record Sought (passing failing : ℕ → Type 0) (board : Opened) (seat : Seated) : Type 0 where
  pub own : IsSeatOf board seat
  pub judged : All (Judged passing seat.view) seat.view.drawn
  pub low : LowFails failing board.pieces seat.view
  pub raised : seat.view.raised ≡ false

-- seats that have sought and are over
abbrev pub AreBack : (ℕ → Type 0) → (ℕ → Type 0) → Opened → List Seated → Type 0
AreBack passing failing board seats = All (λ s. Sought passing failing board s × (is_over s.view ≡ true)) seats

-- only `low` and `told` changed
abbrev pub LowAndTold : SeatView → SeatView → Type 0
LowAndTold v w = w ≡ record v { low = w.low; told = w.told }
