use Rattle.std.proofs.Common.{◌≡◌}
use Rattle.claims.specs.Views.{is_over, claims_left}
use Rattle.claims.specs.Seated.{Seated, IsSeatOf}
use Rattle.claims.specs.Board.{Answers, is_last}
use Rattle.workers.specs.Testing.{Passing, Failing, Sought}
use Rattle.workers.proofs.least.seek.Given as goal

-- each piece is judged that the seat drew before its last claim
abbrev pub invariant-claiming : goal.invariant-claiming
invariant-claiming g l = record {
  own : IsSeatOf l.board l.seat;
  over : is_over l.seat.view ≡ is_last l.claim;
  before : Seated;
  answer : Answers l.board.pieces before.view l.claim l.seat.view;
  sought : Sought (Passing (λ k b. g.F.Fn.post l.passes (k, tt) b)) (Failing (λ k b. g.F.Fn.post l.passes (k, tt) b)) l.board before;
}

abbrev pub decreases-claiming : goal.decreases-claiming
decreases-claiming g l = claims_left l.board.pieces l.seat.view
