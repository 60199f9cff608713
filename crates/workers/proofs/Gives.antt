-- What the items of some pieces are, and what workers have given once they are back.
use Rattle.std.proofs.Common.{◌≡◌, ℕ, zero, suc, ◌<◌, Bool, true, false, true≢false, ◌||◌, List, [], ◌∷◌, ◌++◌, length, map}
use Rattle.std.proofs.Common.{sym, refl, ap, ◌∙◌, subst, append_assoc, append-nil, arith}
use Rattle.std.proofs.lemmas.Bool.{or_parts}
use Rattle.std.proofs.lemmas.List.Elements.{All-append, All-tail}
use Rattle.std.proofs.lemmas.List.{length-map, append_cancel_left}
use Rattle.std.specs.List.{All, list_any, flat_map}
use Rattle.std.specs.declared.vec.Vec.{Vec}
use Rattle.std.specs.declared.alloc.Global.{Global}
use Rattle.serial.specs.declared.NoMemory.{NoMemory}
use Rattle.std.specs.Prelude.{Option, None, Some, IfSome, IsSome, Result, Ok, IfOk}
use Rattle.std.proofs.lemmas.Option.{IfSome_then}
use Rattle.std.proofs.lemmas.Result.{IfOk-weaker}
use Rattle.claims.specs.Views.{is_over, HoldsEachBelow, all_drawn}
use Rattle.claims.specs.declared.view.SeatView.{SeatView}
use Rattle.claims.specs.Steps.{with_piece}
use Rattle.claims.specs.Seated.{Seated, Opened, IsSeatOf, views_of}
use Rattle.workers.specs.declared.work.WorkerState.{WorkerState}
use Rattle.workers.specs.declared.work.Worked.{Worked}
use Rattle.workers.specs.Seating.{IsNewSeat}
use Rattle.workers.specs.Working.{IsLeft, CanGiveAll, given_at, Gives, IsAdded, AreGiven, AreGivenOnce, HasWorked}
use Rattle.workers.specs.Working.{RaisedOnly}
use Rattle.workers.proofs.Boards.{all_pieces}

module _ {X : Type 0} (giving : ℕ → List X → Type 0) where
  -- the items of some pieces, and then of others
  pub given_append : (ks js : List ℕ) (xs ys : List X) → AreGiven giving ks xs → AreGiven giving js ys
      → AreGiven giving (ks ++ js) (xs ++ ys)
  given_append [] js xs ys none given = subst (AreGiven giving js) (ap (λ zs. zs ++ ys) (sym none)) given
  given_append (k ∷ ks) js xs ys (own, rest, is, here, more) given =
      (own, rest ++ ys, ap (λ zs. zs ++ ys) is ∙ append_assoc own rest ys, here, given_append ks js rest ys more given)

  -- one piece more
  pub given_push : (ks : List ℕ) (k : ℕ) (xs own : List X) → AreGiven giving ks xs → giving k own
      → AreGiven giving (ks ++ k ∷ []) (xs ++ own)
  given_push ks k xs own given here = given_append ks (k ∷ []) xs own given (own, [], sym (append-nil own), here, refl)

  -- the seats of workers, none of which raised
  abbrev pub seats_of : List (Worked X) → List Seated
  seats_of = map (λ w. w.seat)

  -- where the seats together did not raise, none did
  none_raised : (all : List (Worked X)) → list_any (λ v. v.raised) (views_of (seats_of all)) ≡ false
      → All (λ w. w.seat.view.raised ≡ false) all
  none_raised [] none k d lt = absurd (omega arith)
  none_raised (w ∷ all) none zero d lt = (or_parts w.seat.view.raised (list_any (λ v. v.raised) (views_of (seats_of all))) none).0
  none_raised (w ∷ all) none (suc k) d lt =
      none_raised all (or_parts w.seat.view.raised (list_any (λ v. v.raised) (views_of (seats_of all))) none).1 k d (omega arith)

  -- a fact of each worker is one of each seat
  each_seat : (P : Seated → Type 0) (all : List (Worked X)) → All (λ w. P w.seat) all → All P (seats_of all)
  each_seat P [] each k d lt = absurd (omega arith)
  each_seat P (w ∷ all) each zero d lt = each 0 w (omega arith)
  each_seat P (w ∷ all) each (suc k) d lt = each_seat P all (All-tail (λ u. P u.seat) w all each) k d (omega arith)

  -- each seat is the board's
  pub all_own : (board : Opened) (all : List (Worked X)) → All (HasWorked giving board) all → All (IsSeatOf board) (seats_of all)
  all_own board all each = each_seat (IsSeatOf board) all (λ k d lt. (each k d lt).own)

  -- their items are those of all pieces that they drew
  all_given : (all : List (Worked X)) → All (λ w. AreGiven giving w.seat.view.drawn w.items.items) all
      → AreGiven giving (all_drawn (views_of (seats_of all))) (flat_map (λ w. w.items.items) all)
  all_given [] each = refl
  all_given (w ∷ all) each =
      given_append w.seat.view.drawn (all_drawn (views_of (seats_of all))) w.items.items (flat_map (λ u. u.items.items) all)
      (each 0 w (omega arith))
      (all_given all (All-tail (λ u. AreGiven giving u.seat.view.drawn u.items.items) w all each))

  -- seats that didn't claim drew nothing
  drawn_same : (board : Opened) (unused seats : List Seated) → All (IsNewSeat board) unused
      → all_drawn (views_of (unused ++ seats)) ≡ all_drawn (views_of seats)
  drawn_same board [] seats new = refl
  drawn_same board (s ∷ unused) seats new = ap (λ v. v.drawn ++ all_drawn (views_of (unused ++ seats))) (new 0 s (omega arith)).1
      ∙ drawn_same board unused seats (All-tail (IsNewSeat board) s unused new)

  -- nor did they raise
  raised_same : (board : Opened) (unused seats : List Seated) → All (IsNewSeat board) unused
      → list_any (λ v. v.raised) (views_of (unused ++ seats)) ≡ list_any (λ v. v.raised) (views_of seats)
  raised_same board [] seats new = refl
  raised_same board (s ∷ unused) seats new =
      ap (λ v. v.raised || list_any (λ u. u.raised) (views_of (unused ++ seats))) (new 0 s (omega arith)).1
      ∙ raised_same board unused seats (All-tail (IsNewSeat board) s unused new)

  -- all seats are the board's
  pub seats_own : (board : Opened) (unused : List Seated) (all : List (Worked X)) → All (IsNewSeat board) unused
      → All (HasWorked giving board) all → All (IsSeatOf board) (unused ++ seats_of all)
  seats_own board unused all new each =
      All-append (IsSeatOf board) unused (seats_of all) (λ k d lt. (new k d lt).0) (all_own board all each)

  -- where no worker raised, all pieces were given once
  pub given_once : (board : Opened) (unused : List Seated) (all : List (Worked X)) (seats : List Seated) (items : List X) (drawn : ℕ)
      (stopped : Bool)
      → seats ≡ unused ++ seats_of all → items ≡ flat_map (λ w. w.items.items) all → All (IsNewSeat board) unused
      → All (HasWorked giving board) all → 0 < length all → stopped ≡ false → stopped ≡ list_any (λ v. v.raised) (views_of seats)
      → HoldsEachBelow drawn (all_drawn (views_of seats)) → All (λ s. 0 < s.view.done → drawn ≡ board.pieces) seats
      → All (λ s. s.view.stopped ≡ true → stopped ≡ true) seats → AreGivenOnce giving board.pieces items
  given_once board unused all seats items drawn stopped of_seats of_items new each some quiet raised once done told =
      let calm : All (λ w. w.seat.view.raised ≡ false) all = none_raised all (sym (raised_same board unused (seats_of all) new)
      ∙ ap (λ ss. list_any (λ v. v.raised) (views_of ss)) (sym of_seats) ∙ sym raised ∙ quiet) in
      let over : All (λ s. is_over s.view ≡ true) (seats_of all) =
      each_seat (λ s. is_over s.view ≡ true) all (λ k d lt. (each k d lt).over) in
      let seated : 0 < length (seats_of all) = omega (arith, some, length-map all (λ w. w.seat)) in
      let whole = all_pieces board.pieces drawn stopped unused (seats_of all) seated over quiet
      (subst (All (λ s. 0 < s.view.done → drawn ≡ board.pieces)) of_seats done)
      (subst (All (λ s. s.view.stopped ≡ true → stopped ≡ true)) of_seats told) in
      let same = ap (λ ss. all_drawn (views_of ss)) of_seats ∙ drawn_same board unused (seats_of all) new in
      record {
        order = all_drawn (views_of (seats_of all));
        once = subst (λ n. HoldsEachBelow n (all_drawn (views_of (seats_of all)))) whole (subst (HoldsEachBelow drawn) same once);
        given = subst (AreGiven giving (all_drawn (views_of (seats_of all)))) (sym of_items)
            (all_given all (λ k d lt. (each k d lt).given (calm k d lt)));
      }

-- the items of a seat, unless it raised
abbrev pub SeatGave : {X : Type 0} → (ℕ → List X → Type 0) → SeatView → List X → Type 0
SeatGave giving v items = v.raised ≡ false → AreGiven giving v.drawn items

-- the piece that the seat drew was done, unless the seat raised
pub given_next : {X : Type 0} (giving : ℕ → List X → Type 0) (v mid w : SeatView) (k : ℕ) (xs ys : List X)
    → mid ≡ with_piece v k → SeatGave giving v xs → RaisedOnly mid w
    → (w.raised ≡ false → (mid.raised ≡ false) × IsAdded giving k xs ys) → SeatGave giving w ys
given_next giving v mid w k xs ys drew given same done calm =
    let (quiet, added) = done calm in
    let (own, is, here) = added in
    let before = given (sym (ap (λ u. u.raised) drew) ∙ quiet) in
    let drawn = ap (λ u. u.drawn) same ∙ ap (λ u. u.drawn) drew in
    subst (λ ks. AreGiven giving ks ys) (sym drawn)
    (subst (AreGiven giving (v.drawn ++ k ∷ [])) (sym is) (given_push giving v.drawn k xs own before here))

-- items of pieces, of which more is known
pub given_weaker : {X : Type 0} (giving more : ℕ → List X → Type 0) → ((k : ℕ) (own : List X) → giving k own → more k own)
    → (ks : List ℕ) (items : List X) → AreGiven giving ks items → AreGiven more ks items
given_weaker giving more each [] items none = none
given_weaker giving more each (k ∷ ks) items (own, rest, is, here, others) =
    (own, rest, is, each k own here, given_weaker giving more each ks rest others)

-- doing a piece at a state adds what the piece gives
left_adds : {D X : Type 0} (pieces : ℕ) (can : ℕ → WorkerState D X → Type 0)
    (done : ℕ → WorkerState D X → Result (WorkerState D X) NoMemory → Type 0) → CanGiveAll pieces can done → (k : ℕ) → k < pieces
    → (state : Option (WorkerState D X)) (after : WorkerState D X) → IsLeft (done k) state after
    → IsAdded (Gives done) k (given_at state) after.items.items
left_adds pieces can done rule k lt state after left =
    let (own, is) = rule.adds k left.before after lt left.made in
    subst (λ b. IsAdded (Gives done) k (given_at b) after.items.items) (sym left.was)
    (own, is, record { before = left.before; after = after; made = left.made; is = is })

-- where the seat didn't raise, a state was left, and what the piece gave is added there
pub added_at : {D X : Type 0} (pieces : ℕ) (can : ℕ → WorkerState D X → Type 0)
    (done : ℕ → WorkerState D X → Result (WorkerState D X) NoMemory → Type 0) → CanGiveAll pieces can done → (k : ℕ) → k < pieces
    → (state next : Option (WorkerState D X)) → IfSome next (λ after. IsLeft (done k) state after) → IsSome next
    → IsAdded (Gives done) k (given_at state) (given_at next)
added_at pieces can done rule k lt state None left some = absurd (true≢false (sym some))
added_at pieces can done rule k lt state (Some after) left some = left_adds pieces can done rule k lt state after left

-- each piece can be done at this state, if there is one
abbrev pub IsReady : {D X : Type 0} → ℕ → (ℕ → WorkerState D X → Type 0) → Option (WorkerState D X) → Type 0
IsReady {D} {X} pieces can state = IfSome state (λ (b : WorkerState D X). (k : ℕ) → k < pieces → can k b)

-- so it is at one that a piece left
pub ready_next : {D X : Type 0} (pieces : ℕ) (can : ℕ → WorkerState D X → Type 0)
    (done : ℕ → WorkerState D X → Result (WorkerState D X) NoMemory → Type 0) → CanGiveAll pieces can done → (j : ℕ) → j < pieces
    → (state next : Option (WorkerState D X)) → IfSome next (λ after. IsLeft (done j) state after) → IsReady pieces can next
ready_next pieces can done rule j below state next left =
    IfSome_then next left (λ after is k lt. rule.next j k is.before after below lt is.made)

-- what is known of what each piece adds is known of what all pieces give
pub given_by : {D X E : Type 0} (done : ℕ → WorkerState D X → Result (WorkerState D X) NoMemory → Type 0) (n : ℕ)
    (more : ℕ → List X → Type 0)
    (r : Result (Vec X Global) E) → IfOk r (λ items. AreGivenOnce (Gives done) n items.items)
    → ((k : ℕ) (before after : WorkerState D X) → done k before (Ok after) → IsAdded more k before.items.items after.items.items)
    → IfOk r (λ items. AreGivenOnce more n items.items)
given_by done n more r all each = IfOk-weaker r _ _
    (λ items given. record {
      order = given.order;
      once = given.once;
      given = given_weaker (Gives done) more
          (λ k own here.
          let (added, is, gave) = each k here.before here.after here.made in
          subst (more k) (append_cancel_left here.before.items.items added own (sym is ∙ here.is)) gave)
          given.order items.items given.given;
    }) all
