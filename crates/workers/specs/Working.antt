-- What pieces give, and what a worker brings back.
use Rattle.std.specs.Prelude.{◌≡◌, ℕ, ◌<◌, true, false, List, [], ◌∷◌, ◌++◌, Option, None, Some, Result, Ok}
use Rattle.serial.specs.declared.NoMemory.{NoMemory}
use Rattle.claims.specs.declared.view.SeatView.{SeatView}
use Rattle.claims.specs.Views.{is_over, HoldsEachBelow}
use Rattle.claims.specs.Seated.{Opened, IsSeatOf}
use Rattle.workers.specs.declared.work.WorkerState.{WorkerState}
use Rattle.workers.specs.declared.work.Worked.{Worked}

-- a state with no workspace and no items
pub record IsNewState {D X : Type 0} (state : WorkerState D X) : Type 0 where
  pub unspaced : state.workspace ≡ None
  pub empty : state.items.items ≡ []

-- doing a piece at this state, if there is one, may leave the other
pub record IsLeft {D X : Type 0} (done : WorkerState D X → Result (WorkerState D X) NoMemory → Type 0) (state : Option (WorkerState D X))
    (after : WorkerState D X) : Type 0 where
  pub before : WorkerState D X
  pub was : state ≡ Some before
  pub made : done before (Ok after)

-- each piece can be done at a new state, and at one that a piece left. What a piece gives is added there
pub record CanGiveAll {D X : Type 0} (pieces : ℕ) (can : ℕ → WorkerState D X → Type 0)
    (done : ℕ → WorkerState D X → Result (WorkerState D X) NoMemory → Type 0) : Type 0 where
  pub first : (k : ℕ) (state : WorkerState D X) → k < pieces → IsNewState state → can k state
  pub next : (j k : ℕ) (state after : WorkerState D X) → j < pieces → k < pieces → done j state (Ok after) → can k after
  pub adds : (k : ℕ) (state after : WorkerState D X) → k < pieces → done k state (Ok after)
      → (own : List X) × (after.items.items ≡ state.items.items ++ own)

-- the items at a state, if there is one
abbrev pub given_at : {D X : Type 0} → Option (WorkerState D X) → List X
given_at None = []
given_at (Some state) = state.items.items

-- the items of a piece are those that doing it adds at some state
pub record Gives {D X : Type 0} (done : ℕ → WorkerState D X → Result (WorkerState D X) NoMemory → Type 0) (piece : ℕ)
    (items : List X) : Type 0 where
  pub before : WorkerState D X
  pub after : WorkerState D X
  pub made : done piece before (Ok after)
  pub is : after.items.items ≡ before.items.items ++ items

-- the items of the piece were added to a list
abbrev pub IsAdded : {X : Type 0} → (ℕ → List X → Type 0) → ℕ → List X → List X → Type 0
IsAdded {X} giving piece before after = (own : List X) × (after ≡ before ++ own) × giving piece own

-- the items that these pieces give, one piece after the other
abbrev pub AreGiven : {X : Type 0} → (ℕ → List X → Type 0) → List ℕ → List X → Type 0
AreGiven giving [] items = items ≡ []
AreGiven {X} giving (k ∷ ks) items = (own : List X) × (rest : List X) × (items ≡ own ++ rest) × giving k own × AreGiven giving ks rest

-- the items that the pieces below this number give, each piece once, in any order
pub record AreGivenOnce {X : Type 0} (giving : ℕ → List X → Type 0) (pieces : ℕ) (items : List X) : Type 0 where
  pub order : List ℕ
  pub once : HoldsEachBelow pieces order
  pub given : AreGiven giving order items

-- the seat is the board's and over, and where it didn't raise, the items are those of the pieces that it drew
pub record HasWorked {X : Type 0} (giving : ℕ → List X → Type 0) (board : Opened) (worked : Worked X) : Type 0 where
  pub own : IsSeatOf board worked.seat
  pub over : is_over worked.seat.view ≡ true
  pub given : worked.seat.view.raised ≡ false → AreGiven giving worked.seat.view.drawn worked.items.items

-- only raised changed
abbrev pub RaisedOnly : SeatView → SeatView → Type 0
RaisedOnly v w = w ≡ record v { raised = w.raised }
