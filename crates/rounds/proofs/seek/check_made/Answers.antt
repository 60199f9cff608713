use Rattle.std.proofs.Common.{◌≡◌, ◌≢◌, refl, sym, ap, ◌∙◌, subst, arith, rules, length}
use Rattle.std.proofs.lemmas.Bool.Decides.{nat_tests}
use Rattle.std.proofs.Math.Seq.{take-length}
use Rattle.rounds.specs.PendingRuns.{Passes}
use Rattle.rounds.specs.Views.{opening_state}
use Rattle.rounds.specs.Windows.{run_at, IsWindowAt, HasGrown, IsListedTo, IsChecked}
use Rattle.rounds.proofs.Listing.{grown_on, not_grown}
use Rattle.rounds.proofs.Passing.{checked_on, checked_conflict, all_seen, front_kept, no_longer, still_passing}
use Rattle.rounds.proofs.WindowLemmas.{freed_grown, freed_flag}
use Rattle.rounds.proofs.seek.check_made.Goals as goal
use Rattle.rounds.proofs.seek.check_made.Goals.{then-upto-before, else-upto-before}

pub loop-number-init : goal.loop-number-init
loop-number-init g c = record {
  window = c.requires.window;
  grown = not_grown c.args.block.start c.args.window.now;
  all = refl;
  listed = c.requires.listed;
  valid = c.requires.valid;
  kept = take-length c.args.nets.now;
  passing = c.requires.passing;
}

pub check_next-requires-clause-passes : goal.check_next-requires-clause-passes
check_next-requires-clause-passes g c so d = elim c.if-upto-before.branch [
  | then-upto-before w ↦
      let number = c.loop-number.number in
      let first = c.args.nets.now in
      let nets = c.loop-number.nets in
      let as_long : c.len-upto.result ≡ c.len-before.result = search rules in
      let same : nets ≡ first = no_longer first nets c.loop-number.invariant.kept
      (sym c.len-upto.ensures ∙ (as_long ∙ c.len-before.ensures)) in
      subst (λ es. Passes es (run_at c.loop-number.window number d)) (sym same)
      (c.loop-number.invariant.passing number d (omega arith) (sym w.is_set-passes.ensures ∙ (sym w.passes-is ∙ so)))
  | else-upto-before w ↦
      let yes = sym w.passes-is ∙ so in
      let no = w.if-upto-before.false in
      absurd (grind (arith, nat_tests))
]

pub returns-then-not-stands-clause-grown : goal.returns-then-not-stands-clause-grown
returns-then-not-stands-clause-grown g c =
    let same = (c.in_ok-stands.ensures.same c.if-not-stands.true).0 in
    subst (HasGrown c.args.block.start c.args.window.now) (sym same) c.loop-number.invariant.grown

pub returns-then-not-stands-clause-reached : goal.returns-then-not-stands-clause-reached
returns-then-not-stands-clause-reached g c =
    let same = (c.in_ok-stands.ensures.same c.if-not-stands.true).0 in
    ap (λ w. length w.runs.items) same ∙ c.loop-number.invariant.all

pub returns-then-not-stands-clause-seen : goal.returns-then-not-stands-clause-seen
returns-then-not-stands-clause-seen g c =
    let batch = c.args.job.now.batch.now in
    let number = c.loop-number.number in
    let window = c.loop-number.window in
    let nets = c.loop-number.nets in
    let low = c.loop-number-test.true in
    let end = c.requires.places.1 in
    let so_far = c.loop-number.invariant in
    let all = so_far.all in
    let begun = so_far.grown.first in
    checked_conflict batch c.args.opened number (opening_state batch c.args.opened) window c.check_next.new.window nets
    c.check_next.new.nets refl so_far.window (omega arith) (so_far.valid number (omega arith) low) so_far.listed c.len-upto.result
    c.args.block.end low c.len-upto.ensures
    (subst (IsChecked number nets c.check_next.new.nets window c.check_next.new.window) c.if-not-stands.true c.in_ok-stands.ensures)

pub loop-number-preserved : goal.loop-number-preserved
loop-number-preserved g c =
    let batch = c.args.job.now.batch.now in
    let from = c.args.block.start in
    let number = c.loop-number.number in
    let window = c.loop-number.window in
    let new = c.check_next.new.window in
    let nets = c.loop-number.nets in
    let more = c.check_next.new.nets in
    let low = c.loop-number-test.true in
    let end = c.requires.places.1 in
    let so_far = c.loop-number.invariant in
    let all = so_far.all in
    let begun = so_far.window.begun in
    let first = so_far.grown.first in
    let checked = subst (IsChecked number nets more window new) c.if-not-stands.false c.in_ok-stands.ensures in
    let freed = checked.freed refl in
    let on = checked_on batch c.args.opened number (opening_state batch c.args.opened) window new nets more refl so_far.window
    (omega arith) (so_far.valid number (omega arith) low) so_far.listed checked in
    record {
      window = on.0;
      grown = grown_on from c.args.window.now window new so_far.grown (freed_grown from number window new c.loop-number.auto.number freed);
      all = freed.runs ∙ so_far.all;
      listed = on.1;
      valid = λ i later before. freed_flag number window new i freed ∙ so_far.valid i (omega arith) before;
      kept = front_kept c.args.nets.now nets more so_far.kept checked.kept;
      passing = λ i d later set.
          let other : i ≢ number = omega arith in
          still_passing c.args.nets.now number window new freed i d (omega arith) other (so_far.passing i d (omega arith) set);
    }

pub returns-clause-seen : goal.returns-clause-seen
returns-clause-seen g c =
    let over = c.loop-number-test.false in
    let batch = c.args.job.now.batch.now in
    let window = c.loop-number.window in
    let is : c.loop-number.number ≡ c.args.block.end = omega arith in
    all_seen batch c.args.opened c.args.block.end c.len-upto-2.result window c.loop-number.nets
    (subst (λ n. IsWindowAt batch n (opening_state batch c.args.opened) window) is c.loop-number.invariant.window)
    (subst (λ n. IsListedTo batch c.args.opened n window c.loop-number.nets) is c.loop-number.invariant.listed) c.len-upto-2.ensures
