-- Seats and boards as contracts see them.
use Rattle.std.specs.Prelude.{◌≡◌, ℕ, List, map}
use Rattle.atomic_table.specs.Seated.{TableId}
use Rattle.claims.specs.declared.view.SeatView.{SeatView}

-- a seat: which board it is of, and what it knows
pub record Seated : Type 0 where
  pub board : TableId
  pub view : SeatView

-- a board: which one it is, how many pieces it has, and for how many seats it was opened
pub record Opened : Type 0 where
  pub id : TableId
  pub pieces : ℕ
  pub seats : ℕ

-- the seat is this board's
abbrev pub IsSeatOf : Opened → Seated → Type 0
IsSeatOf board seat = (seat.board ≡ board.id) × (seat.view.pieces ≡ board.pieces)

abbrev pub views_of : List Seated → List SeatView
views_of seats = map (λ s. s.view) seats
