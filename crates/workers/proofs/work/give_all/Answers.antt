use Rattle.std.proofs.Common.{◌<◌, length, subst, rules}
use Rattle.workers.specs.Working.{Gives, AreGivenOnce}
use Rattle.workers.proofs.Boards.{some_dealt}
use Rattle.workers.proofs.Gives.{seats_own, given_once}
use Rattle.workers.proofs.work.give_all.Goals as goal

pub gather-tally-requires-clause-own : goal.gather-tally-requires-clause-own
gather-tally-requires-clause-own g c = rw c.in_ok-seats.ensures.seats
    (seats_own (Gives (λ k b. g.F.Fn.post c.args.give.now (k, (b, tt)))) c.in_ok-board.board c.in_ok-all.unused.items c.in_ok-all.all.items
    c.in_ok-all.ensures.unused c.in_ok-all.ensures.worked)

pub returns : goal.returns
returns g c =
    let told = c.gather-tally.ensures in
    let some : 0 < length c.in_ok-all.all.items = c.in_ok-all.ensures.some
    (some_dealt c.seats_for.result _ c.in_ok-board.seats.items c.in_ok-board.ensures.dealt c.seats_for.ensures.some.0) in
    let IsOf = Gives (λ k b. g.F.Fn.post c.args.give.now (k, (b, tt))) in
    subst (λ n. AreGivenOnce IsOf n c.in_ok-seats.items.items) c.in_ok-board.ensures.size.0
    (given_once IsOf c.in_ok-board.board c.in_ok-all.unused.items c.in_ok-all.all.items c.in_ok-seats.seats.items c.in_ok-seats.items.items
    c.gather-tally.result.drawn c.gather-tally.result.stopped c.in_ok-seats.ensures.seats c.in_ok-seats.ensures.items
    c.in_ok-all.ensures.unused c.in_ok-all.ensures.worked some c.if-tally.false told.raised told.once told.done told.stopped)

pub returns-then-tally : goal.returns-then-tally
returns-then-tally g c = search rules
