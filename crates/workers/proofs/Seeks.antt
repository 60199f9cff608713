-- What seats that seek the least failing piece know once they are back.
use Rattle.std.proofs.Common.{◌≡◌, ◌⊎◌, ℕ, zero, suc, ◌<◌, ◌≤◌, min, Bool, true, List, [], ◌∷◌, ◌++◌, length, get_or, sym, refl, ap, ◌∙◌}
use Rattle.std.proofs.Common.{subst, inl, ⊎_elim, arith}
use Rattle.std.proofs.lemmas.List.Elements.{All-append, All-nil, All-tail}
use native.Mathlib.Decide.{dec_le}
use Rattle.std.specs.List.{All, list_any}
use Rattle.claims.specs.Views.{fresh, HoldsEachBelow, all_drawn, least}
use Rattle.claims.specs.Seated.{Seated, Opened, IsSeatOf, views_of}
use Rattle.claims.specs.Steps.{with_piece}
use Rattle.workers.specs.Seating.{IsNewSeat}
use Rattle.workers.specs.Testing.{Judged, LowFails, Sought, AreBack, LowAndTold}
use Rattle.workers.proofs.Boards.{none_raised, all_pieces, in_list, in_some, once_some}

-- what holds of two numbers holds of the lesser
min_either : (Q : ℕ → Type 0) (m n : ℕ) → Q m → Q n → Q (min m n)
min_either Q m n left right = elim (dec_le m n) [
  | yes le ↦ let e : m ≡ min m n = omega arith in subst Q e left
  | no gt ↦ let e : n ≡ min m n = omega arith in subst Q e right
]

-- the least of some numbers is one of them
attained : (Q : ℕ → Type 0) (pieces : ℕ) (seats : List Seated) → Q pieces → All (λ s. Q s.view.low) seats
    → Q (least (λ v. v.low) pieces (views_of seats))
attained Q pieces [] start each = start
attained Q pieces (s ∷ seats) start each =
    min_either Q s.view.low (least (λ v. v.low) pieces (views_of seats)) (each 0 s (omega arith))
    (attained Q pieces seats start (All-tail (λ u. Q u.view.low) s seats each))

-- the least is at most each
least_below : (pieces : ℕ) (seats : List Seated) → All (λ s. least (λ v. v.low) pieces (views_of seats) ≤ s.view.low) seats
least_below pieces [] k d lt = absurd (omega arith)
least_below pieces (s ∷ seats) zero d lt = omega arith
least_below pieces (s ∷ seats) (suc k) d lt = omega (arith, least_below pieces seats k d (omega arith))

-- a seat that has taken no step
sought_new : (passing failing : ℕ → Type 0) (board : Opened) (seat : Seated) → IsNewSeat board seat → Sought passing failing board seat
sought_new passing failing board seat (own, unused) = record {
  own = own;
  judged = subst (λ v. All (Judged passing v) v.drawn) (sym unused) (All-nil (Judged passing (fresh 1 board.pieces)));
  low = subst (LowFails failing board.pieces) (sym unused) (inl refl);
  raised = ap (λ v. v.raised) unused;
}

-- all seats are the board's
pub back_own : (passing failing : ℕ → Type 0) (board : Opened) (unused back : List Seated) → All (IsNewSeat board) unused
    → AreBack passing failing board back → All (IsSeatOf board) (unused ++ back)
back_own passing failing board unused back new each = All-append (IsSeatOf board) unused back (λ k d lt. (new k d lt).0)
    (λ k d lt. (each k d lt).0.own)

-- Seats that have sought, after those that didn't claim.
module _ (passing failing : ℕ → Type 0) (board : Opened) (unused back : List Seated) (first : ℕ) (new : All (IsNewSeat board) unused)
    (each : AreBack passing failing board back) (is : first ≡ least (λ v. v.low) board.pieces (views_of (unused ++ back))) where
  abbrev seats : List Seated
  seats = unused ++ back

  all_sought : All (Sought passing failing board) seats
  all_sought = All-append (Sought passing failing board) unused back (λ k d lt. sought_new passing failing board (get_or unused k d)
      (new k d lt)) (λ k d lt. (each k d lt).0)

  -- the least number that a seat lowered to fails
  pub found : first < board.pieces → failing first
  found lt =
      let Q : ℕ → Type 0 = λ n. (n ≡ board.pieces) ⊎ ((n < board.pieces) × failing n) in
      ⊎_elim (λ (e : first ≡ board.pieces). absurd (omega arith)) (λ (e : (first < board.pieces) × failing first). e.1)
      (subst Q (sym is) (attained Q board.pieces seats (inl refl) (λ k d below. (all_sought k d below).low)))

  -- each piece below it passes: it was judged by the seat that drew it, and no seat lowered to, or got, a number at or below it
  pub all_pass : (drawn : ℕ) (stopped : Bool) → stopped ≡ list_any (λ v. v.raised) (views_of seats) → 0 < length back
      → HoldsEachBelow drawn (all_drawn (views_of seats))
      → All (λ s. 0 < s.view.done → drawn ≡ board.pieces) seats → All (λ s. s.view.stopped ≡ true → stopped ≡ true) seats
      → All (λ s. first ≤ s.view.told) seats → first ≤ board.pieces
      → (k : ℕ) → k < first → passing k
  all_pass drawn stopped raised some once done halted told within k lt =
      let quiet = none_raised seats (λ i d below. (all_sought i d below).raised) in
      let all : drawn ≡ board.pieces = all_pieces board.pieces drawn stopped unused back some (λ i d below. (each i d below).1)
      (raised ∙ quiet) done halted in
      in_some (passing k) seats k
      (λ i d below here. ⊎_elim (λ (e : passing k). e)
      (λ (e : ((get_or seats i d).view.low ≤ k) ⊎ ((get_or seats i d).view.told ≤ k)). ⊎_elim
      (λ low. absurd (omega (arith, is, least_below board.pieces seats i d below))) (λ heard. absurd (omega (arith, told i d below))) e)
      (in_list (Judged passing (get_or seats i d).view) (get_or seats i d).view.drawn k (all_sought i d below).judged here))
      (omega (arith, once k, once_some k drawn (omega arith)))

-- so has one as it was dealt
pub sought_none : (passing failing : ℕ → Type 0) (board : Opened)
    → Sought passing failing board (record { board = board.id; view = fresh 1 board.pieces })
sought_none passing failing board = sought_new passing failing board (record { board = board.id; view = fresh 1 board.pieces })
    ((refl, refl), refl)

-- one element more
all_push : (Q : ℕ → Type 0) (xs : List ℕ) (k : ℕ) → All Q xs → Q k → All Q (xs ++ k ∷ [])
all_push Q [] k each here zero d lt = here
all_push Q [] k each here (suc i) d lt = absurd (omega arith)
all_push Q (x ∷ xs) k each here zero d lt = each 0 x (omega arith)
all_push Q (x ∷ xs) k each here (suc i) d lt = all_push Q xs k (All-tail Q x xs each) here i d (omega arith)

-- a piece more is drawn and judged
pub sought_next : (passing failing : ℕ → Type 0) (board : Opened) (before mid after : Seated) (k : ℕ) → Sought passing failing board before
    → mid.view ≡ with_piece before.view k → IsSeatOf board after → LowAndTold mid.view after.view
    → ((j : ℕ) → Judged passing mid.view j → Judged passing after.view j) → Judged passing after.view k
    → (LowFails failing board.pieces mid.view → LowFails failing board.pieces after.view) → Sought passing failing board after
sought_next passing failing board before mid after k was drew own same kept judged low = record {
  own = own;
  judged = subst (All (Judged passing after.view)) (sym (ap (λ v. v.drawn) same ∙ ap (λ v. v.drawn) drew))
      (all_push (Judged passing after.view) before.view.drawn k
      (λ i d lt. kept (get_or before.view.drawn i d) (subst (λ v. Judged passing v (get_or before.view.drawn i d)) (sym drew)
      (was.judged i d lt))) judged);
  low = low (subst (LowFails failing board.pieces) (sym drew) was.low);
  raised = ap (λ v. v.raised) same ∙ (ap (λ v. v.raised) drew ∙ was.raised);
}
