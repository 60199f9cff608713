use Rattle.std.proofs.Common.{◌≡◌, ◌<◌, ◌≤◌, true, length, sym, subst, arith}
use Rattle.std.specs.List.{All, list_any}
use Rattle.claims.proofs.Folds.{least_start}
use Rattle.claims.specs.Seated.{IsSeatOf, views_of}
use Rattle.claims.specs.Views.{HoldsEachBelow, all_drawn, least}
use Rattle.workers.proofs.Boards.{some_dealt}
use Rattle.workers.specs.Testing.{Passing, Failing}
use Rattle.workers.proofs.Seeks.{back_own, found, all_pass}
use Rattle.workers.proofs.least.first_failing.Goals as goal

pub gather-tally-requires-clause-own : goal.gather-tally-requires-clause-own
gather-tally-requires-clause-own g c =
    subst (All (IsSeatOf c.in_ok-board.board)) (sym c.in_ok-append.ensures.items)
    (back_own (Passing (λ k b. g.F.Fn.post c.args.passes.now (k, tt) b)) (Failing (λ k b. g.F.Fn.post c.args.passes.now (k, tt) b))
    c.in_ok-board.board c.in_ok-back.seats.items c.in_ok-back.back.items c.in_ok-back.ensures.unused c.in_ok-back.ensures.back)

pub returns-clause-within : goal.returns-clause-within
returns-clause-within g c = omega (
  arith,
  c.gather-tally.ensures.first,
  least_start (λ v. v.low) c.in_ok-board.board.pieces
      (views_of c.append.new.self.items),
  c.in_ok-board.ensures.size.0,
)

pub returns-clause-least : goal.returns-clause-least
returns-clause-least g c =
    let told = c.gather-tally.ensures in
    let tally = c.gather-tally.result in
    let board = c.in_ok-board.board in
    let all = c.in_ok-append.ensures.items in
    let some : 0 < length c.in_ok-back.back.items = c.in_ok-back.ensures.some
    (some_dealt c.seats_for.result _ c.in_ok-board.seats.items c.in_ok-board.ensures.dealt c.seats_for.ensures.some.0) in
    let within : tally.first ≤ board.pieces =
    omega (arith, told.first, least_start (λ v. v.low) board.pieces (views_of c.append.new.self.items)) in
    all_pass (Passing (λ k b. g.F.Fn.post c.args.passes.now (k, tt) b)) (Failing (λ k b. g.F.Fn.post c.args.passes.now (k, tt) b))
    board c.in_ok-back.seats.items c.in_ok-back.back.items tally.first c.in_ok-back.ensures.unused c.in_ok-back.ensures.back
    (subst (λ ss. tally.first ≡ least (λ v. v.low) board.pieces (views_of ss)) all told.first)
    tally.drawn tally.stopped (subst (λ ss. tally.stopped ≡ list_any (λ v. v.raised) (views_of ss)) all told.raised) some
    (subst (λ ss. HoldsEachBelow tally.drawn (all_drawn (views_of ss))) all told.once)
    (subst (All (λ s. 0 < s.view.done → tally.drawn ≡ board.pieces)) all told.done)
    (subst (All (λ s. s.view.stopped ≡ true → tally.stopped ≡ true)) all told.stopped)
    (subst (All (λ s. tally.first ≤ s.view.told)) all told.told) within

pub returns-clause-fails : goal.returns-clause-fails
returns-clause-fails g c lt =
    found (Passing (λ k b. g.F.Fn.post c.args.passes.now (k, tt) b)) (Failing (λ k b. g.F.Fn.post c.args.passes.now (k, tt) b))
    c.in_ok-board.board c.in_ok-back.seats.items c.in_ok-back.back.items c.gather-tally.result.first c.in_ok-back.ensures.unused
    c.in_ok-back.ensures.back
    (subst (λ ss. c.gather-tally.result.first ≡ least (λ v. v.low) c.in_ok-board.board.pieces (views_of ss)) c.in_ok-append.ensures.items
    c.gather-tally.ensures.first)
    (subst (λ n. c.gather-tally.result.first < n) (sym c.in_ok-board.ensures.size.0) lt)
