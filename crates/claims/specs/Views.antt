-- What a seat knows of its board, and words over the views of all seats.
use Rattle.std.specs.Prelude.{◌≡◌, ℕ, ◌+◌, ◌-◌, ◌==◌, nat_lt, min, max, Bool, false, if◌then◌else◌, ◌||◌, List, [], ◌∷◌, ◌++◌, map}
use Rattle.std.specs.List.{concat}
use Rattle.claims.specs.declared.view.SeatView.{SeatView}

-- the most pieces, and the most seats, that a board has
abbrev pub most_pieces : ℕ
most_pieces = 1000000

abbrev pub most_seats : ℕ
most_seats = 64

-- the view of a seat with so many shares that has taken no step, on a board of so many pieces
abbrev pub fresh : ℕ → ℕ → SeatView
fresh shares pieces = record {
  shares = shares;
  pieces = pieces;
  drawn = [];
  done = 0;
  stopped = false;
  raised = false;
  low = pieces;
  told = pieces;
}

-- the view that a join leaves. It has drawn nothing and done nothing, and its `low` and `told` are below no number
-- of pieces, so it counts in nothing
abbrev pub spent : SeatView
spent = record { shares = 0; pieces = 0; drawn = []; done = 0; stopped = false; raised = false; low = most_pieces; told = most_pieces }

-- the view after one share was cut off
abbrev pub one_share_less : SeatView → SeatView
one_share_less v = record v { shares = v.shares - 1 }

-- one view of two
abbrev pub joined_views : SeatView → SeatView → SeatView
joined_views v w = record {
  shares = v.shares + w.shares;
  pieces = v.pieces;
  drawn = v.drawn ++ w.drawn;
  done = v.done + w.done;
  stopped = v.stopped || w.stopped;
  raised = v.raised || w.raised;
  low = min v.low w.low;
  told = min v.told w.told;
}

-- the seat got Done or Stopped
abbrev pub is_over : SeatView → Bool
is_over v = nat_lt 0 v.done || v.stopped

-- one more than the greatest number of the list, or 0
abbrev pub past : List ℕ → ℕ
past [] = 0
past (x ∷ xs) = max (x + 1) (past xs)

-- how many claims the seat can still make at most: one for each piece above those that it has, and one that makes it over
abbrev pub claims_left : ℕ → SeatView → ℕ
claims_left pieces v = (pieces - past v.drawn) + (if is_over v then 0 else 1)

abbrev pub bit : Bool → ℕ
bit b = if b then 1 else 0

-- how often x is in the list
abbrev pub times : ℕ → List ℕ → ℕ
times x [] = 0
times x (y ∷ ys) = bit (y == x) + times x ys

-- 1 for a number below n, else 0
abbrev pub once_below : ℕ → ℕ → ℕ
once_below x n = bit (nat_lt x n)

-- the list holds each number below n once, and no other number
abbrev pub HoldsEachBelow : ℕ → List ℕ → Type 0
HoldsEachBelow n xs = (x : ℕ) → times x xs ≡ once_below x n

-- the pieces that these seats drew, one seat after the other
abbrev pub all_drawn : List SeatView → List ℕ
all_drawn views = concat (map (λ v. v.drawn) views)

-- the least of n and the f of each view
abbrev pub least : (SeatView → ℕ) → ℕ → List SeatView → ℕ
least f n [] = n
least f n (v ∷ vs) = min (f v) (least f n vs)
