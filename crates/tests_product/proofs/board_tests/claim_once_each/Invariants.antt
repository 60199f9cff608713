use Rattle.std.proofs.Common.{◌≡◌, length}
use Rattle.std.specs.List.{All}
use Rattle.claims.specs.Seated.{IsSeatOf}
use Rattle.tests_product.proofs.board_tests.claim_once_each.Given as goal

abbrev pub invariant-loop-seat : goal.invariant-loop-seat
invariant-loop-seat g l = (length l.after.items ≡ length l.yielded) × All (λ s. IsSeatOf l.board s) l.after.items
