use Rattle.std.proofs.Common.{refl, subst, arith}
use Rattle.std.proofs.lemmas.List.{take_all}
use Rattle.rounds.specs.Windows.{AreStale}
use Rattle.rounds.proofs.Fallen.{none_stale, stale_more}
use Rattle.rounds.proofs.window.Window.forget.Goals as goal

pub loop-number-init : goal.loop-number-init
loop-number-init c = none_stale c.args.self.now

pub loop-number-preserved : goal.loop-number-preserved
loop-number-preserved c =
    let so_far = c.loop-number.invariant in
    let numbers = c.args.numbers.now in
    let at = c.loop-number.number-index in
    let within = c.requires.within at 0 c.loop-number-test.true in
    let low = within.0 in
    let high = within.1 in
    let first = so_far.first in
    let flags = c.requires.flags in
    let size = so_far.flags in
    stale_more numbers at c.args.self.now c.loop-number.self _ c.loop-number-test.true (omega arith) (omega arith) so_far refl refl refl

pub returns : goal.returns
returns c =
    let numbers = c.args.numbers.now in
    let over = c.loop-number-test.false in
    let within = c.loop-number.auto.number-index-end in
    subst (λ ns. AreStale ns c.args.self.now c.loop-number.self) (take_all c.loop-number.number-index numbers (omega arith))
    c.loop-number.invariant
