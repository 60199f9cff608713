use Rattle.std.proofs.Common.{◌≡◌, ◌+◌, ◌-◌, ◌<◌, false, length, set, refl, ap, subst, arith}
use Rattle.std.proofs.lemmas.List.{get_or_read}
use Rattle.rounds.proofs.Settling.{AreExchanged, none_exchanged, one_exchanged, none_freed, one_freed, all_freed}
use Rattle.rounds.proofs.window.Window.move_up.Goals as goal

pub loop-place-init : goal.loop-place-init
loop-place-init c = none_exchanged c.args.count c.args.self.now

pub loop-place-preserved : goal.loop-place-preserved
loop-place-preserved c =
    let old = c.args.self.now in
    let window = c.loop-place.self in
    let place = c.loop-place.place in
    let so_far = c.loop-place.invariant in
    let before = c.loop-place-test.true in
    let size = c.len.ensures in
    let half = c.requires.half in
    let flags = c.requires.flags in
    let sizes = so_far.flags in
    let there : c.args.count + place < length window.valid.items = omega arith in
    one_exchanged c.args.count place old window _ (omega arith) (omega arith) flags so_far refl c.swap.ensures.items
    (ap (set window.valid.items place)
    (get_or_read window.valid.items (c.args.count + place) c.index.result.now there c.index.ensures false))

pub loop-place-2-init : goal.loop-place-2-init
loop-place-2-init c =
    let over = c.loop-place-test.false in
    let within = c.loop-place.auto.place-end in
    let all : c.loop-place.place ≡ c.len.result - c.args.count = omega arith in
    none_freed c.args.count (c.len.result - c.args.count) c.args.self.now c.loop-place.self
    (subst (λ n. AreExchanged c.args.count n c.args.self.now c.loop-place.self) all c.loop-place.invariant)

pub loop-place-2-preserved : goal.loop-place-2-preserved
loop-place-2-preserved c =
    let before = c.loop-place-2-test.true in
    let size = c.len-place-end.ensures in
    let so_far = c.loop-place-2.invariant in
    let now_flags = so_far.flags in
    let flags = c.loop-place.invariant.flags in
    one_freed c.args.count (c.len.result - c.args.count) c.loop-place-2.place c.args.self.now c.loop-place-2.self _
    c.loop-place-2.auto.place (omega arith) so_far refl refl refl

pub returns : goal.returns
returns c =
    let over = c.loop-place-2-test.false in
    let size = c.len-place-end.ensures in
    let so_far = c.loop-place-2.invariant in
    let now_flags = so_far.flags in
    let flags = c.loop-place.invariant.flags in
    let all = c.len.ensures in
    let inside = c.requires.inside in
    all_freed c.args.count (c.len.result - c.args.count) c.loop-place-2.place c.args.self.now c.loop-place-2.self (omega arith)
    c.requires.flags (omega arith) so_far
