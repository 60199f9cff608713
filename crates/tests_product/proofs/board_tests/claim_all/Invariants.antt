use Rattle.claims.specs.Views.{claims_left}
use Rattle.claims.specs.Seated.{IsSeatOf}
use Rattle.tests_product.proofs.board_tests.claim_all.Given as goal

abbrev pub invariant-claiming : goal.invariant-claiming
invariant-claiming l = IsSeatOf l.board l.seat

abbrev pub decreases-claiming : goal.decreases-claiming
decreases-claiming l = claims_left l.board.pieces l.seat.view
