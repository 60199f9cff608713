-- What each step gives the seat that takes it. A step is one atomic exchange on one word:
--     draw       NEXT rises by 1. Where it held a number below the number of pieces, the seat has drawn that piece, else it gets Done
--     look       STOP is read. Where it is 1, the seat gets Stopped
--     raise      STOP becomes 1. The seat has raised
--     lower k    FIRST becomes the smaller of itself and k. The seat's low does too
--     bound      FIRST is read. The seat got it
use Rattle.std.specs.Prelude.{◌≡◌, ◌≢◌, ℕ, ◌+◌, ◌<◌, ◌≤◌, min, true, [], ◌∷◌, ◌++◌}
use Rattle.std.specs.List.{All}
use Rattle.atomic_table.specs.Table.{Me, Step}
use Rattle.claims.specs.declared.view.SeatView.{SeatView}

-- the seat has drawn this piece besides
abbrev pub with_piece : SeatView → ℕ → SeatView
with_piece v piece = record v { drawn = v.drawn ++ piece ∷ [] }

-- it got Done once more
abbrev pub told_done : SeatView → SeatView
told_done v = record v { done = v.done + 1 }

abbrev pub told_stopped : SeatView → SeatView
told_stopped v = record v { stopped = true }

abbrev pub having_raised : SeatView → SeatView
having_raised v = record v { raised = true }

-- its low is the smaller of low and k
abbrev pub lowered : SeatView → ℕ → SeatView
lowered v k = record v { low = min v.low k }

abbrev pub told_bound : SeatView → ℕ → SeatView
told_bound v bound = record v { told = bound }

-- a seat as the table sees it: its view, and the slots that it holds, of which there are none
abbrev pub Holder : Type 0
Holder = Me (Unit {0}) SeatView

-- of the step, the seat before it, the number that the word held, and the seat after it
abbrev pub Tells : Type 1
Tells = Step (Unit {0}) → Holder → ℕ → Holder → Type 0

abbrev pub Draws : Tells
Draws step me found after =
    (after.1 ≡ me.1)
    × (found < me.0.pieces → (after.0 ≡ with_piece me.0 found) × All (λ k. k < found) me.0.drawn)
    × (me.0.pieces ≤ found → after.0 ≡ told_done me.0)

-- a seat that raised finds STOP raised
abbrev pub Looks : Tells
Looks step me found after =
    (found ≡ 1 → after ≡ (told_stopped me.0, me.1)) × (found ≢ 1 → after ≡ me) × (me.0.raised ≡ true → found ≡ 1)

abbrev pub Raises : Tells
Raises step me found after = after ≡ (having_raised me.0, me.1)

abbrev pub Lowers : Tells
Lowers step me found after = after ≡ (lowered me.0 step.first, me.1)

-- FIRST is at most what the seat got before, and at most its low
abbrev pub Bounds : Tells
Bounds step me found after = (after ≡ (told_bound me.0 found, me.1)) × (found ≤ me.0.told) × (found ≤ me.0.low) × (found ≤ me.0.pieces)
