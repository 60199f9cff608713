-- What is known of seats that claim one after the other, and of what is given of them.
use Rattle.std.proofs.Common.{◌≡◌, ℕ, zero, suc, ◌+◌, ◌<◌, nat_eq, false, true≢false, arith}
use Rattle.std.proofs.Common.{List, [], ◌∷◌, ◌++◌, length, get_or, sym, ap, subst, length-append}
use Rattle.std.specs.Prelude.{Some, Result, Ok, Err, IfOk}
use Rattle.std.specs.declared.vec.Vec.{Vec}
use Rattle.std.specs.declared.alloc.Global.{Global}
use Rattle.std.proofs.lemmas.List.Elements.{All-push, All-pop}
use Rattle.std.specs.List.{All}
use Rattle.claims.specs.declared.claim.Claim.{Claim}
use Rattle.claims.specs.declared.claim.Claim.TheVariants.{Piece}
use Rattle.claims.specs.declared.view.SeatView.{SeatView}
use Rattle.claims.specs.Steps.{with_piece}
use Rattle.claims.specs.Views.{is_over}
use Rattle.claims.specs.Seated.{Seated, Opened, IsSeatOf}
use Rattle.claims.specs.Board.{Answers, is_last}
use Rattle.workers.specs.Seating.{IsNewSeat, HasClaimed, IsGivenBy}

-- of new seats the last is new, and so are the others
pub new_but_last : (board : Opened) (seats others : List Seated) (seat : Seated) → seats ≡ others ++ seat ∷ [] → All (IsNewSeat board) seats
    → All (IsNewSeat board) others × IsNewSeat board seat
new_but_last board seats others seat is each = All-pop (IsNewSeat board) seats others (Some seat) is each

-- and the others are one fewer
pub one_fewer : (seats others : List Seated) (seat : Seated) → seats ≡ others ++ seat ∷ [] → length seats ≡ length others + 1
one_fewer seats others seat is = omega (arith, ap length is, length-append others (seat ∷ []))

-- a number that is not 0
pub not_none : (n : ℕ) → nat_eq n 0 ≡ false → 0 < n
not_none zero is = absurd (true≢false is)
not_none (suc n) is = omega arith

-- a new seat that claims has claimed first
pub first_claim : (board : Opened) (before after : Seated) (claim : Claim) → IsNewSeat board before → IsSeatOf board after
    → Answers board.pieces before.view claim after.view → is_over after.view ≡ is_last claim → HasClaimed board after claim
first_claim board before after claim (_, unused) own answer over = record {
  own = own;
  answer = subst (λ v. Answers board.pieces v claim after.view) unused answer;
  over = over;
}

-- a seat that got a piece drew it
pub drew : (pieces : ℕ) (v w : SeatView) (claim : Claim) (k : ℕ) → claim ≡ Piece k → Answers pieces v claim w → w ≡ with_piece v k
drew pieces v w claim k is answer = (subst (λ a. Answers pieces v a w) is answer).2

-- one seat more
pub given_more : {X : Type 0} (gives : Seated → Claim → X → Type 0) (before after : List X) (seat : Seated) (claim : Claim) (x : X)
    → after ≡ before ++ x ∷ [] → All (IsGivenBy gives) before → gives seat claim x → All (IsGivenBy gives) after
given_more gives before after seat claim x is each here =
    subst (All (IsGivenBy gives)) (sym is)
    (All-push (IsGivenBy gives) before x each (record { seat = seat; claim = claim; given = here }))

-- what is known of all that is given of one seat is known of each
pub each_given : {X Y E : Type 0} (gives : Seated → Claim → X → Type 0) (Q : X → Type 0) (r : Result (Vec X Global × Y) E)
    → IfOk r (λ p. All (IsGivenBy gives) p.0.items) → ((seat : Seated) (claim : Claim) (x : X) → gives seat claim x → Q x)
    → IfOk r (λ p. All Q p.0.items)
each_given gives Q (Ok p) each known = λ k d lt. let by = each k d lt in known by.seat by.claim (get_or p.0.items k d) by.given
each_given gives Q (Err e) each known = tt
