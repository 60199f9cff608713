use Rattle.std.proofs.Common.{◌≡◌, ◌+◌, refl, sym, ap, ◌∙◌, subst, arith}
use Rattle.std.proofs.lemmas.Bool.{false≢true}
use Rattle.objects.specs.Entries.{kinds}
use Rattle.intentions.specs.Levels.{Intentions as View}
use Rattle.speculate.proofs.Room.{kinds_at}
use Rattle.rounds.specs.Workspaces.{IsReadyOn}
use Rattle.rounds.specs.Passes.{CanBeMade}
use Rattle.rounds.specs.Windows.{IsWindowAt, HasGrown, IsListedTo, IsChecked}
use Rattle.rounds.proofs.Room.{made_at}
use Rattle.rounds.proofs.Listing.{still_listed, grown_on, grown_before}
use Rattle.rounds.proofs.Passing.{checked_on, checked_conflict, all_seen}
use Rattle.rounds.proofs.WindowLemmas.{freed_grown}
use Rattle.rounds.proofs.seek.check_in_turn.Goals as goal

pub make_at-requires-clause-can : goal.make_at-requires-clause-can
make_at-requires-clause-can g c κs within =
    let number = c.loop-number.number in
    let shown = ap (λ (v : View). v.snapshot) c.loop-number.invariant.ready.opened in
    let from = c.loop-number.invariant.listed.from in
    let lt = c.loop-number-test.true in
    let end = c.requires.places.1 in
    let all = c.requires.window.within in
    subst (λ s. CanBeMade c.args.job.now.batch.now s number) (sym (shown ∙ c.requires.opening))
    (made_at c.args.job.now.batch.now c.args.opened (omega arith) number (omega arith) (omega arith))

pub make_at-requires-clause-same_kinds : goal.make_at-requires-clause-same_kinds
make_at-requires-clause-same_kinds g c κs within =
    let shown = ap (λ (v : View). v.snapshot) c.loop-number.invariant.ready.opened in
    let from = c.loop-number.invariant.listed.from in
    let lt = c.loop-number-test.true in
    let end = c.requires.places.1 in
    let all = c.requires.window.within in
    ap kinds (shown ∙ c.requires.opening) ∙ kinds_at c.args.job.now.batch.now c.args.opened (omega arith)

pub check_next-requires-clause-passes : goal.check_next-requires-clause-passes
check_next-requires-clause-passes g c so = absurd (false≢true so)

pub returns-then-not-stands-clause-grown : goal.returns-then-not-stands-clause-grown
returns-then-not-stands-clause-grown g c =
    let same = (c.in_ok-stands.ensures.same c.if-not-stands.true).0 in
    subst (HasGrown c.args.block.start c.args.window.now) (sym same)
    (grown_on c.args.block.start c.args.window.now c.loop-number.window c.make_at.new.self c.loop-number.invariant.grown
    (grown_before c.args.block.start c.loop-number.number c.loop-number.window c.make_at.new.self c.loop-number.auto.number
    c.in_ok-make_at.ensures.grown))

pub returns-then-not-stands-clause-seen : goal.returns-then-not-stands-clause-seen
returns-then-not-stands-clause-seen g c =
    let batch = c.args.job.now.batch.now in
    let number = c.loop-number.number in
    let window = c.make_at.new.self in
    let nets = c.loop-number.nets in
    let shown = ap (λ (v : View). v.snapshot) c.loop-number.invariant.ready.opened in
    let low = c.loop-number-test.true in
    let end = c.requires.places.1 in
    let all = c.loop-number.invariant.all in
    let same = c.in_ok-make_at.ensures.reached in
    let first = c.in_ok-make_at.ensures.grown.first in
    let begun = c.loop-number.invariant.grown.first in
    let so_far = still_listed batch c.args.opened number c.loop-number.window window nets (λ some. omega arith)
    c.in_ok-make_at.ensures.grown c.loop-number.invariant.listed in
    checked_conflict batch c.args.opened number c.loop-number.workspace.view.snapshot window c.check_next.new.window nets
    c.check_next.new.nets
    (shown ∙ c.requires.opening) c.in_ok-make_at.ensures.window (omega arith) c.in_ok-make_at.ensures.valid so_far c.len-upto.result
    c.args.block.end low c.len-upto.ensures
    (subst (IsChecked number nets c.check_next.new.nets window c.check_next.new.window) c.if-not-stands.true c.in_ok-stands.ensures)

pub loop-number-preserved : goal.loop-number-preserved
loop-number-preserved g c =
    let batch = c.args.job.now.batch.now in
    let from = c.args.block.start in
    let number = c.loop-number.number in
    let window = c.make_at.new.self in
    let new = c.check_next.new.window in
    let nets = c.loop-number.nets in
    let shown = ap (λ (v : View). v.snapshot) c.loop-number.invariant.ready.opened in
    let low = c.loop-number-test.true in
    let end = c.requires.places.1 in
    let all = c.loop-number.invariant.all in
    let same = c.in_ok-make_at.ensures.reached in
    let first = c.in_ok-make_at.ensures.grown.first in
    let begun = c.loop-number.invariant.grown.first in
    let so_far = still_listed batch c.args.opened number c.loop-number.window window nets (λ some. omega arith)
    c.in_ok-make_at.ensures.grown c.loop-number.invariant.listed in
    let checked = subst (IsChecked number nets c.check_next.new.nets window new) c.if-not-stands.false c.in_ok-stands.ensures in
    let freed = checked.freed refl in
    let on = checked_on batch c.args.opened number c.loop-number.workspace.view.snapshot window new nets c.check_next.new.nets
    (shown ∙ c.requires.opening) c.in_ok-make_at.ensures.window (omega arith) c.in_ok-make_at.ensures.valid so_far checked in
    record {
      window = subst (λ s. IsWindowAt batch (number + 1) s new) shown on.0;
      grown = grown_on from c.args.window.now c.loop-number.window new c.loop-number.invariant.grown
          (grown_on from c.loop-number.window window new
          (grown_before from number c.loop-number.window window c.loop-number.auto.number c.in_ok-make_at.ensures.grown)
          (freed_grown from number window new c.loop-number.auto.number freed));
      all = freed.runs ∙ (c.in_ok-make_at.ensures.reached ∙ c.loop-number.invariant.all);
      listed = on.1;
      ready = subst (λ s. IsReadyOn s c.make_at.new.workspace) shown c.in_ok-make_at.ensures.ready;
    }

pub returns-clause-seen : goal.returns-clause-seen
returns-clause-seen g c =
    let over = c.loop-number-test.false in
    let batch = c.args.job.now.batch.now in
    let window = c.loop-number.window in
    let is : c.loop-number.number ≡ c.args.block.end = omega arith in
    all_seen batch c.args.opened c.args.block.end c.len-upto-2.result window c.loop-number.nets
    (subst (λ s. IsWindowAt batch c.args.block.end s window) c.requires.opening
    (subst (λ n. IsWindowAt batch n c.args.workspace.now.view.snapshot window) is c.loop-number.invariant.window))
    (subst (λ n. IsListedTo batch c.args.opened n window c.loop-number.nets) is c.loop-number.invariant.listed) c.len-upto-2.ensures
