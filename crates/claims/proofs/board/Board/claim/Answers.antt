use Rattle.std.proofs.Common.{◌≡◌, ap, ◌∙◌, rules, arith}
use Rattle.claims.specs.Views.{is_over}
use Rattle.claims.proofs.Lists.{none_done}
use Rattle.claims.proofs.Moves.{looks, draws}
use Rattle.claims.proofs.board.Board.claim.Goals as goal

pub load-stopped-requires : goal.load-stopped-requires
load-stopped-requires c = (search rules, omega arith, looks _ _ _ _ _ (omega arith))

pub fetch_add-found-requires : goal.fetch_add-found-requires
fetch_add-found-requires c =
    let same : c.load-stopped.new.seat.me ≡ c.seat.inside.token.me = c.load-stopped.ensures.2.1 c.if-stopped.false in
    let share : c.load-stopped.new.seat.me.0.shares ≡ 1 = ap (λ m. m.0.shares) same ∙ c.seat.invariant.1 in
    let new : c.load-stopped.new.seat.me.0.done ≡ 0 = none_done c.load-stopped.new.seat.me.0 (ap (λ m. is_over m.0) same
    ∙ ap (λ s. is_over s.view) c.seat.view_is ∙ c.requires.going) in
    (search rules, omega arith, draws _ _ _ _ _ (omega arith) new)

pub invariant_of-seat-then-found-from : goal.invariant_of-seat-then-found-from
invariant_of-seat-then-found-from c = search rules

pub returns-then-found-from-clause-answer : goal.returns-then-found-from-clause-answer
returns-then-found-from-clause-answer c = search rules
