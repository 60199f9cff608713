use Rattle.std.proofs.Common.{rules, arith, ◌≡◌, ◌+◌, ◌<◌, ◌∙◌, false, nat_eq, [], ◌∷◌, length, refl, sym, ap, subst, length-append}
use Rattle.std.proofs.lemmas.List.{append-nil}
use Rattle.std.specs.List.{All}
use Rattle.std.specs.Vec.{vec_len, vec_capacity}
use Rattle.claims.specs.Views.{is_over}
use Rattle.workers.specs.Seating.{IsNewSeat}
use Rattle.workers.proofs.Given.{new_but_last, one_fewer, not_none, first_claim, given_more}
use Rattle.workers.proofs.cascade.+cascade.Goals as goal

-- ---- no seat is left

pub returns-in_default-clause-room : goal.returns-in_default-clause-room
returns-in_default-clause-room g t c = refl

pub returns-in_default-clause-count : goal.returns-in_default-clause-count
returns-in_default-clause-count g t c =
    let none = c.in_default.ensures.items ∙ append-nil c.pop.new.self.items in
    ap (λ ss. length c.args.all.items + length ss) (sym none)

pub returns-in_default-clause-some : goal.returns-in_default-clause-some
returns-in_default-clause-some g t c = λ some. absurd (omega (arith, some, c.in_default.ensures.cases.0, c.args.seats.ok.0))

pub returns-in_default-clause-each : goal.returns-in_default-clause-each
returns-in_default-clause-each g t c = c.requires.next.each

pub returns-in_default-clause-unused : goal.returns-in_default-clause-unused
returns-in_default-clause-unused g t c = subst (All (IsNewSeat c.args.board.now))
    (c.in_default.ensures.items ∙ append-nil c.pop.new.self.items) c.requires.next.new

-- ---- a seat claims

pub claim-first-requires-clause-board : goal.claim-first-requires-clause-board
claim-first-requires-clause-board g t c =
    let popped = new_but_last c.args.board.now c.args.seats.items c.pop.new.self.items c.in-Some.seat
    c.in-Some.ensures.items c.requires.next.new in
    popped.1.0

pub claim-first-requires-clause-going : goal.claim-first-requires-clause-going
claim-first-requires-clause-going g t c =
    let popped = new_but_last c.args.board.now c.args.seats.items c.pop.new.self.items c.in-Some.seat
    c.in-Some.ensures.items c.requires.next.new in
    ap is_over popped.1.1

-- ---- no other seat claims

pub give_last-requires : goal.give_last-requires
give_last-requires g t c =
    let popped = new_but_last c.args.board.now c.args.seats.items c.pop.new.self.items c.in-Some.seat
    c.in-Some.ensures.items c.requires.next.new in
    let claimed = first_claim c.args.board.now c.in-Some.seat c.claim-first.new.seat c.claim-first.result
    popped.1 c.claim-first.ensures.board c.claim-first.ensures.answer c.claim-first.ensures.over in
    let can = c.requires.can c.claim-first.new.seat c.claim-first.result claimed in
    let fewer = one_fewer c.args.seats.items c.pop.new.self.items c.in-Some.seat c.in-Some.ensures.items in
    let room : length c.args.all.items < vec_capacity c.args.all = omega (arith, c.requires.next.room, fewer) in
    search (rules, can, room)

pub returns-then-not-has_piece-clause-room : goal.returns-then-not-has_piece-clause-room
returns-then-not-has_piece-clause-room g t c = c.give_last.ensures.room

pub returns-then-not-has_piece-clause-count : goal.returns-then-not-has_piece-clause-count
returns-then-not-has_piece-clause-count g t c = omega (
  arith,
  c.give_last.ensures.more,
  ap length c.give_last.ensures.left,
  one_fewer c.args.seats.items c.pop.new.self.items c.in-Some.seat c.in-Some.ensures.items,
)

pub returns-then-not-has_piece-clause-some : goal.returns-then-not-has_piece-clause-some
returns-then-not-has_piece-clause-some g t c = λ _. omega (arith, c.give_last.ensures.more)

pub returns-then-not-has_piece-clause-each : goal.returns-then-not-has_piece-clause-each
returns-then-not-has_piece-clause-each g t c = c.give_last.ensures.each

pub returns-then-not-has_piece-clause-unused : goal.returns-then-not-has_piece-clause-unused
returns-then-not-has_piece-clause-unused g t c =
    let popped = new_but_last c.args.board.now c.args.seats.items c.pop.new.self.items c.in-Some.seat
    c.in-Some.ensures.items c.requires.next.new in
    subst (All (IsNewSeat c.args.board.now)) (sym c.give_last.ensures.left) popped.0

-- ---- the other seats claim in a thread of their own

pub side_by_side-last-requires-after_bounds : goal.side_by_side-last-requires-after_bounds
side_by_side-last-requires-after_bounds g t c κs within =
    let popped = new_but_last c.args.board.now c.args.seats.items c.pop.new.self.items c.in-Some.seat
    c.in-Some.ensures.items c.requires.next.new in
    let claimed = first_claim c.args.board.now c.in-Some.seat c.claim-first.new.seat c.claim-first.result
    popped.1 c.claim-first.ensures.board c.claim-first.ensures.answer c.claim-first.ensures.over in
    let others = popped.0 in
    let can = c.requires.can c.claim-first.new.seat c.claim-first.result claimed in
    search (rules, others, can) parts 16

pub others-returns : goal.others-returns
others-returns g t c = let ran = c.seat_by_seat.ensures in (ran.room, ran.count, ran.each, ran.unused, ran.some)

pub fn::seat_by_seat::others+FnOnce::call_once-returns : goal.fn::seat_by_seat::others+FnOnce::call_once-returns
fn::seat_by_seat::others+FnOnce::call_once-returns g t c = c.others.ensures

pub push_reserved-requires : goal.push_reserved-requires
push_reserved-requires g t c = omega (
  arith,
  c.requires.next.room,
  c.side_by_side-last.ensures.second.0,
  c.side_by_side-last.ensures.second.1,
  c.side_by_side-last.result.1.0.ok.0,
  one_fewer c.args.seats.items c.pop.new.self.items c.in-Some.seat c.in-Some.ensures.items,
)

pub returns-clause-room : goal.returns-clause-room
returns-clause-room g t c = c.push_reserved.ensures.capacity ∙ c.side_by_side-last.ensures.second.0

pub returns-clause-count : goal.returns-clause-count
returns-clause-count g t c = omega (
  arith,
  ap length c.push_reserved.ensures.items,
  length-append c.side_by_side-last.result.1.0.items (c.side_by_side-last.result.0 ∷ []),
  c.side_by_side-last.ensures.second.1,
  one_fewer c.args.seats.items c.pop.new.self.items c.in-Some.seat c.in-Some.ensures.items,
)

pub returns-clause-some : goal.returns-clause-some
returns-clause-some g t c = λ _.
    let left : nat_eq (vec_len c.pop.new.self) 0 ≡ false = sym c.is_empty.ensures ∙ c.if-is_empty.false in
    let more : 0 < length c.pop.new.self.items = omega (arith, not_none _ left, c.pop.new.self.ok.0) in
    omega (
      arith,
      ap length c.push_reserved.ensures.items,
      length-append c.side_by_side-last.result.1.0.items (c.side_by_side-last.result.0 ∷ []),
      c.side_by_side-last.ensures.second.4 more,
    )

pub returns-clause-each : goal.returns-clause-each
returns-clause-each g t c =
    given_more (λ s k x. g.F.Fn.post c.args.work.now (s, (k, tt)) x) c.side_by_side-last.result.1.0.items c.push_reserved.new.self.items
    c.claim-first.new.seat c.claim-first.result c.side_by_side-last.result.0
    c.push_reserved.ensures.items c.side_by_side-last.ensures.second.2 c.side_by_side-last.ensures.first

pub returns-clause-unused : goal.returns-clause-unused
returns-clause-unused g t c = c.side_by_side-last.ensures.second.3
