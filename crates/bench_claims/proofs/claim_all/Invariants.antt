use Rattle.claims.specs.Views.{claims_left}
use Rattle.claims.specs.Seated.{IsSeatOf}
use Rattle.bench_claims.proofs.claim_all.Given as goal

abbrev pub invariant-claiming : goal.invariant-claiming
invariant-claiming g l = IsSeatOf l.board l.seat

abbrev pub decreases-claiming : goal.decreases-claiming
decreases-claiming g l = claims_left l.board.pieces l.seat.view
