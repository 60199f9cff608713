use Rattle.std.proofs.Common.{◌≡◌, ◌<◌, ◌≤◌, ℕ, length, get_or, refl, sym, ap, ◌∙◌, subst, arith}
use Rattle.std.proofs.lemmas.List.{get_or_default}
use native.Mathlib.Decide.{dec_le}
use Rattle.objects.specs.Entries.{kinds}
use Rattle.intentions.specs.Levels.{Intentions as View}
use Rattle.speculate.proofs.Room.{kinds_at}
use Rattle.rounds.specs.Workspaces.{IsReadyOn}
use Rattle.rounds.specs.Passes.{CanBeMade}
use Rattle.rounds.specs.Windows.{IsValid, IsWindowAt}
use Rattle.rounds.proofs.Room.{made_at}
use Rattle.rounds.proofs.Listing.{grown_on, not_grown}
use Rattle.rounds.proofs.window.Window.make_in_turn.Goals as goal

pub loop-number-init : goal.loop-number-init
loop-number-init g c = record {
  window = c.requires.window;
  grown = not_grown c.args.from c.args.self.now;
  all = refl;
  valid = λ k d lt. absurd (omega arith);
  ready = record { opened = c.in_ok-workspace.ensures.opened; unlabelled = c.in_ok-workspace.ensures.unlabelled };
}

pub make_at-requires-clause-window : goal.make_at-requires-clause-window
make_at-requires-clause-window g c κs within =
    let shown = ap (λ (v : View). v.snapshot) c.loop-number.invariant.ready.opened in
    subst (λ s. IsWindowAt c.args.job.now.batch.now c.args.from s c.loop-number.self) (sym shown) c.loop-number.invariant.window

pub make_at-requires-clause-number : goal.make_at-requires-clause-number
make_at-requires-clause-number g c κs within =
    let place = c.requires.places c.loop-number.number-index 0 c.loop-number-test.true in
    let below = place.1 in
    let all = c.loop-number.invariant.all in
    let first = c.loop-number.invariant.grown.first in
    let few = c.requires.window.within in
    (place.0, omega arith)

pub make_at-requires-clause-few : goal.make_at-requires-clause-few
make_at-requires-clause-few g c κs within =
    let below = (c.requires.places c.loop-number.number-index 0 c.loop-number-test.true).1 in
    let few = c.requires.window.within in
    omega (arith, below, few, c.args.job.now.batch.now.is_batch.few_transactions)

pub make_at-requires-clause-can : goal.make_at-requires-clause-can
make_at-requires-clause-can g c κs within =
    let shown = ap (λ (v : View). v.snapshot) c.loop-number.invariant.ready.opened in
    let number = get_or c.args.numbers.now c.loop-number.number-index 0 in
    let place = c.requires.places c.loop-number.number-index 0 c.loop-number-test.true in
    let low = place.0 in
    let below = place.1 in
    let few = c.requires.window.within in
    let opening = c.requires.opening in
    let early = opening.low in
    subst (λ s. CanBeMade c.args.job.now.batch.now s number) (sym (shown ∙ opening.is))
    (made_at c.args.job.now.batch.now opening.opened opening.within number (omega arith) (omega arith))

pub make_at-requires-clause-same_kinds : goal.make_at-requires-clause-same_kinds
make_at-requires-clause-same_kinds g c κs within =
    let shown = ap (λ (v : View). v.snapshot) c.loop-number.invariant.ready.opened in
    ap kinds (shown ∙ c.requires.opening.is) ∙ kinds_at c.args.job.now.batch.now c.requires.opening.opened c.requires.opening.within

pub loop-number-preserved : goal.loop-number-preserved
loop-number-preserved g c =
    let from = c.args.from in
    let so_far = c.loop-number.invariant in
    let shown = ap (λ (v : View). v.snapshot) so_far.ready.opened in
    let at = c.loop-number.number-index in
    let numbers = c.args.numbers.now in
    let window = c.make_at.new.self in
    let made = c.in_ok-make_at.ensures in
    let low : (k d : ℕ) → k < length numbers → c.loop-number.self.first ≤ get_or numbers k d = λ k d lt.
    let place = c.requires.places k d lt in
    let begun = so_far.window.begun in
    let later = place.0 in
    omega arith in
    let last = c.loop-number-test.true in
    record {
      window = subst (λ s. IsWindowAt c.args.job.now.batch.now from s window) shown made.window;
      grown = grown_on from c.args.self.now c.loop-number.self window so_far.grown made.grown;
      all = made.reached ∙ so_far.all;
      valid = λ k d lt. elim (dec_le at k) [
        | yes le ↦
            let last : at ≡ k = omega arith in
            subst (λ j. IsValid window (get_or numbers j d)) last
            (subst (IsValid window) (get_or_default numbers at 0 d c.loop-number-test.true) made.valid)
        | no less ↦ made.grown.still (get_or numbers k d) (low k d (omega arith)) (so_far.valid k d (omega arith))
      ];
      ready = subst (λ s. IsReadyOn s c.make_at.new.workspace) shown made.ready;
    }

pub returns-clause-valid : goal.returns-clause-valid
returns-clause-valid g c k d lt =
    let over = c.loop-number-test.false in
    c.loop-number.invariant.valid k d (omega arith)
