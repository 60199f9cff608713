-- Seats that are joined, one after the other, and what is known once all are.
use Rattle.std.proofs.Common.{◌≡◌, ◌≢◌, ℕ, zero, suc, ◌<◌, ◌≤◌, min, true, ◌||◌, List, [], ◌∷◌, ◌++◌, length, get_or, set, sym, refl, ap}
use Rattle.std.proofs.Common.{◌∙◌, subst, ⊎_elim, arith}
use Rattle.std.proofs.Math.Bool.{or-false}
use Rattle.std.proofs.lemmas.Bool.{or_left, or_right}
use Rattle.std.proofs.lemmas.List.{append-nil}
use Rattle.std.proofs.lemmas.List.Elements.{All-cons}
use Rattle.std.specs.List.{All, list_any}
use mathlib.Core.Option.{some}
use lib.ListN.{get_elem?}
use Rattle.atomic_table.specs.Seated.{TableId}
use Rattle.atomic_table.proofs.Lists.{at_set}
use Rattle.claims.specs.declared.view.SeatView.{SeatView}
use Rattle.claims.specs.declared.view.Size.{Size}
use Rattle.claims.specs.Views.{joined_views, spent, bit, HoldsEachBelow, once_below, times, all_drawn, least}
use Rattle.claims.specs.Rule.{Kept}
use Rattle.claims.specs.Seated.{Seated, views_of}
use Rattle.claims.specs.Board.{Together}
use Rattle.claims.proofs.Counted.{Counted, counted}
use Rattle.claims.proofs.Folds.{total, most, total_set, total_ge, total_idle, most_at, most_idle, least_at, least_idle}

-- what a view that has taken in u says of it
abbrev Covers : SeatView → SeatView → Type 0
Covers v u = (u.done ≤ v.done) × (u.stopped ≡ true → v.stopped ≡ true) × (v.told ≤ u.told)

-- a fact of each view, made weaker
all_map : (P Q : SeatView → Type 0) (views : List SeatView) → ((u : SeatView) → P u → Q u) → All P views → All Q views
all_map P Q views weaker h k d lt = weaker (get_or views k d) (h k d lt)

-- one seat alone
pub alone : (pieces : ℕ) (v : SeatView) → v.shares ≡ 1 → Together pieces (v ∷ []) v
alone pieces v share = record {
  shares = share;
  drawn = sym (append-nil v.drawn);
  raised = sym (or-false v.raised);
  low = omega arith;
  each = All-cons (Covers v) v [] (omega arith, (λ h. h), omega arith) (λ k d lt. absurd (omega arith));
}

-- one seat more
pub with_one : (pieces : ℕ) (views : List SeatView) (v w : SeatView) → v.shares ≡ 1 → Together pieces views w
    → Together pieces (v ∷ views) (joined_views v w)
with_one pieces views v w share t = record {
  shares = omega (arith, t.shares, share);
  drawn = ap (λ l. v.drawn ++ l) t.drawn;
  raised = ap (λ b. v.raised || b) t.raised;
  low = omega (arith, t.low);
  each = All-cons (Covers (joined_views v w)) v views (omega arith, or_left v.stopped w.stopped, omega arith)
      (all_map (Covers w) (Covers (joined_views v w)) views
      (λ u h. (omega (arith, h.0), (λ s. or_right v.stopped w.stopped (h.1 s)), omega (arith, h.2))) t.each);
}

-- seats that are taken off the end of a list, one after the other
pub popped_views : (seats : List Seated) (seat : Seated) (tail : List SeatView) → views_of (seats ++ seat ∷ []) ++ tail ≡ views_of seats
    ++ seat.view ∷ tail
popped_views [] seat tail = refl
popped_views (s ∷ seats) seat tail = ap (λ l. s.view ∷ l) (popped_views seats seat tail)

pub popped_all : (P : Seated → Type 0) (seats : List Seated) (seat : Seated) → All P (seats ++ seat ∷ []) → All P seats × P seat
popped_all P [] seat h = ((λ k d lt. absurd (omega arith)), h 0 seat (omega arith))
popped_all P (s ∷ seats) seat h = let r = popped_all P seats seat (λ k d lt. h (suc k) d (omega arith)) in
    (All-cons P s seats (h 0 s (omega arith)) r.0, r.1)

-- a fact of each view is one of each seat
pub all_views : (P : SeatView → Type 0) (seats : List Seated) → All P (views_of seats) → All (λ s. P s.view) seats
all_views P [] h k d lt = absurd (omega arith)
all_views P (s ∷ seats) h zero d lt = h 0 s.view (omega arith)
all_views P (s ∷ seats) h (suc k) d lt = all_views P seats (λ j e below. h (suc j) e (omega arith)) k d (omega arith)

-- there are as many views as seats
pub length_views : (seats : List Seated) → length (views_of seats) ≡ length seats
length_views [] = refl
length_views (s ∷ seats) = ap suc (length_views seats)

-- a view that has taken in those of all seats is the only one that is not spent
module _ (size : Size) (words : List ℕ) (views : List SeatView) (rule : Kept size words views) (id : ℕ) (v : SeatView)
    (at : get_elem? views id ≡ some v) (joined : List SeatView) (t : Together size.pieces joined v)
    (all : length joined ≡ size.seats) where
  k : Counted size words views
  k = counted size words views rule

  -- each other view is spent
  idle : (i : ℕ) (u : SeatView) → get_elem? (set views id spent) i ≡ some u → u ≡ spent
  idle i u there =
      let none : total (λ w. w.shares) (set views id spent) ≡ 0 = omega (
        arith,
        total_set (λ w. w.shares) views id v spent at,
        k.shares,
        t.shares,
        all,
      ) in
      ⊎_elim (λ (e : (i ≡ id) × (spent ≡ u)). sym e.1)
      (λ (e : (i ≢ id) × (get_elem? views i ≡ some u)). (k.each i u e.1).idle
      (omega (arith, total_ge (λ w. w.shares) (set views id spent) i u there, none)))
      (at_set views id i spent u there)

  -- so a total, the greatest and the least are those of this view alone
  total_alone : (f : SeatView → ℕ) → f spent ≡ 0 → total f views ≡ f v
  total_alone f e = omega (
    arith,
    total_set f views id v spent at,
    total_idle f (set views id spent) (λ i u there. ap f (idle i u there)
        ∙ e),
  )

  most_alone : (f : SeatView → ℕ) → f spent ≡ 0 → most f views ≡ f v
  most_alone f e = omega (arith, most_at f views id v spent at e, most_idle f (set views id spent) (λ i u there. ap f (idle i u there) ∙ e))

  least_alone : (f : SeatView → ℕ) (n : ℕ) → n ≤ f spent → least f n views ≡ min (f v) n
  least_alone f n e = omega (
    arith,
    least_at f n views id v spent at e,
    least_idle f n (set views id spent)
        (λ i u there. let same = ap f (idle i u there) in omega arith),
  )

  -- the three words, by their places
  next_is : get_or words 0 0 ≡ k.next
  next_is = ap (λ ws. get_or ws 0 0) k.words_are

  stop_is : get_or words 1 0 ≡ k.stop
  stop_is = ap (λ ws. get_or ws 1 0) k.words_are

  first_is : get_or words 2 0 ≡ k.first
  first_is = ap (λ ws. get_or ws 2 0) k.words_are

  -- what the words say of all seats, clause by clause of `gather`
  pub gathers_once : HoldsEachBelow (min (get_or words 0 0) size.pieces) (all_drawn joined)
  gathers_once x = ap (times x) (sym t.drawn) ∙ sym (total_alone (λ u. times x u.drawn) refl) ∙ k.once x
      ∙ ap (λ n. once_below x (min n size.pieces)) (sym next_is)

  pub gathers_done : All (λ u. 0 < u.done → min (get_or words 0 0) size.pieces ≡ size.pieces) joined
  gathers_done = all_map (Covers v) (λ u. 0 < u.done → min (get_or words 0 0) size.pieces ≡ size.pieces) joined
      (λ u h some_done. let over = (k.each id v at).passed (omega (arith, h.0)) in omega (arith, next_is)) t.each

  pub gathers_raised : get_or words 1 0 ≡ bit (list_any (λ u. u.raised) joined)
  gathers_raised = stop_is ∙ k.raised ∙ most_alone (λ u. bit u.raised) refl ∙ ap bit t.raised

  pub gathers_stopped : All (λ u. u.stopped ≡ true → get_or words 1 0 ≡ 1) joined
  gathers_stopped = all_map (Covers v) (λ u. u.stopped ≡ true → get_or words 1 0 ≡ 1) joined (λ u h was. stop_is
      ∙ (k.each id v at).stopped (h.1 was)) t.each

  pub gathers_first : get_or words 2 0 ≡ least (λ u. u.low) size.pieces joined
  gathers_first = omega (arith, first_is, k.lowest, least_alone (λ u. u.low) size.pieces k.small.0, t.low)

  pub gathers_told : All (λ u. get_or words 2 0 ≤ u.told) joined
  gathers_told = all_map (Covers v) (λ u. get_or words 2 0 ≤ u.told) joined
      (λ u h. omega (arith, first_is, (k.each id v at).told, h.2))
      t.each

module _ (seats rest : List Seated) (seat : Seated) (popped : seats ≡ rest ++ seat ∷ []) where
  -- what a pop leaves
  pub after_pop : (tail : List SeatView) → views_of seats ++ tail ≡ views_of rest ++ seat.view ∷ tail
  after_pop tail = ap (λ l. views_of l ++ tail) popped ∙ popped_views rest seat tail

  pub others_own : (id : TableId) → All (λ s. s.board ≡ id) seats → All (λ s. s.board ≡ id) rest × (seat.board ≡ id)
  others_own id own = popped_all (λ s. s.board ≡ id) rest seat (subst (All (λ s. s.board ≡ id)) popped own)
