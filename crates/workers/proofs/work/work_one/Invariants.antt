use Rattle.std.proofs.Common.{◌≡◌}
use Rattle.claims.specs.declared.view.SeatView.{SeatView}
use Rattle.claims.specs.Views.{is_over, claims_left}
use Rattle.claims.specs.Seated.{IsSeatOf}
use Rattle.claims.specs.Board.{Answers, is_last}
use Rattle.workers.specs.Working.{given_at, Gives}
use Rattle.workers.proofs.Gives.{IsReady, SeatGave}
use Rattle.workers.proofs.work.work_one.Given as goal

-- each piece can be done at the state, where the items are those of the seat before its last claim
abbrev pub invariant-claiming : goal.invariant-claiming
invariant-claiming g l = record {
  own : IsSeatOf l.board l.seat;
  over : is_over l.seat.view ≡ is_last l.claim;
  before : SeatView;
  answer : Answers l.board.pieces before l.claim l.seat.view;
  ready : IsReady l.board.pieces (λ k b. g.F.Fn.pre l.give (k, (b, tt))) l.state;
  given : SeatGave (Gives (λ k b. g.F.Fn.post l.give (k, (b, tt)))) before (given_at l.state);
}

abbrev pub decreases-claiming : goal.decreases-claiming
decreases-claiming g l = claims_left l.board.pieces l.seat.view
