use Rattle.std.proofs.Common.{◌≡◌, length, sym, ap, ◌∙◌, subst, arith}
use Rattle.std.proofs.lemmas.List.{length-map}
use Rattle.meaning.specs.Batch.{state_at}
use Rattle.intentions.specs.Levels.{Intentions as View}
use Rattle.batch.specs.Views.{block_view}
use Rattle.rounds.specs.Workspaces.{IsReadyOn}
use Rattle.rounds.specs.Views.{start_of, blocks_of}
use Rattle.rounds.specs.Windows.{IsWindowAt, IsListedTo}
use Rattle.rounds.specs.declared.check.FirstConflict.{FirstConflict}
use Rattle.rounds.proofs.Firsts.{all_taken}
use Rattle.rounds.proofs.Listing.{grown_on, grown_before, not_grown, none_listed, still_listed, opens_at_conflict, opens_at_end}
use Rattle.rounds.proofs.seek.seek_in.Goals as goal

pub looking-init : goal.looking-init
looking-init g c = record {
  window = c.requires.window;
  grown = not_grown c.args.opened c.args.window.now;
  listed = none_listed c.args.job.now.batch.now c.args.opened c.args.window.now c.args.nets.now c.requires.window.begun c.requires.none;
  ready = c.requires.ready;
  within = let going = c.requires.going in omega arith;
  reached = λ some. absurd (omega arith);
  some = c.requires.some;
}

pub reach-requires-clause-window : goal.reach-requires-clause-window
reach-requires-clause-window g c =
    let shown = ap (λ (v : View). v.snapshot) c.looking.invariant.ready.opened in
    subst (λ s. IsWindowAt c.args.job.now.batch.now c.looking.from s c.looking.window) (sym (c.objects.ensures ∙ shown))
    c.looking.invariant.window

pub check-requires-clause-opening : goal.check-requires-clause-opening
check-requires-clause-opening g c κs within = ap (λ (v : View). v.snapshot) c.looking.invariant.ready.opened ∙ c.requires.opening

pub check-requires-clause-window : goal.check-requires-clause-window
check-requires-clause-window g c κs within =
    subst (λ s. IsWindowAt c.args.job.now.batch.now c.looking.from s c.reach.new.self) c.objects.ensures c.in_ok-reach.ensures.window

pub check-requires-clause-listed : goal.check-requires-clause-listed
check-requires-clause-listed g c κs within =
    still_listed c.args.job.now.batch.now c.args.opened c.looking.from c.looking.window c.reach.new.self c.looking.nets
    c.looking.invariant.reached c.in_ok-reach.ensures.grown c.looking.invariant.listed

pub returns-then-seen-end-clause-seen : goal.returns-then-seen-end-clause-seen
returns-then-seen-end-clause-seen g c =
    let batch = c.args.job.now.batch.now in
    let opened = c.args.opened in
    let blocks : length (blocks_of batch) ≡ length batch.transactions.items = length-map batch.transactions.items block_view in
    let seen = c.in_ok-seen.seen in
    let saw = c.in_ok-seen.ensures.seen in
    let all = c.in_ok-seen.ensures.reached in
    let first = c.in_ok-seen.ensures.grown.first in
    let inside = saw.within in
    let within = saw.pending.within in
    let end = c.in_ok-reach.ensures.reached in
    record {
      opening = opens_at_conflict (start_of batch) (blocks_of batch) opened seen.first saw.listed.from (omega arith) saw.listed.keep
          (saw.conflict c.if-seen-end.true);
      pending = saw.pending;
      upto = saw.upto;
      listed = saw.listed;
      reached = omega arith;
    }

pub looking-preserved : goal.looking-preserved
looking-preserved g c =
    let batch = c.args.job.now.batch.now in
    let opened = c.args.opened in
    let window = c.check.new.window in
    let nets = c.check.new.nets in
    let so_far = c.looking.invariant in
    let shown = ap (λ (v : View). v.snapshot) so_far.ready.opened in
    let saw = c.in_ok-seen.ensures.seen in
    let over = c.if-seen-end.false in
    let within = saw.within in
    let last : c.in_ok-seen.seen.first ≡ c.min-end.result = omega arith in
    let blocks : length (blocks_of batch) ≡ length batch.transactions.items = length-map batch.transactions.items block_view in
    record {
      window = subst (λ s. IsWindowAt batch c.min-end.result s window) (sym c.requires.opening)
          (subst (λ n. IsWindowAt batch n (state_at (start_of batch) (blocks_of batch) opened) window) last saw.pending);
      grown = grown_on opened c.args.window.now c.looking.window window so_far.grown (grown_before opened c.looking.from c.looking.window
          window so_far.listed.from (grown_on c.looking.from c.looking.window c.reach.new.self window c.in_ok-reach.ensures.grown
          c.in_ok-seen.ensures.grown));
      listed = subst (λ n. IsListedTo batch opened n window nets) last (subst (IsListedTo batch opened c.in_ok-seen.seen.first window)
          (all_taken nets c.in_ok-seen.seen.upto (saw.all last)) saw.listed);
      ready = subst (λ s. IsReadyOn s c.check.new.workspace) shown c.in_ok-seen.ensures.ready;
      within = let end = c.min-end.ensures in let count = c.len-count.ensures in omega arith;
      reached = λ some.
          let all = c.in_ok-seen.ensures.reached in
          let first = c.in_ok-seen.ensures.grown.first in
          let end = c.in_ok-reach.ensures.reached in
          omega arith;
      some = let twice = c.saturating_mul-block.ensures in let some = so_far.some in omega arith;
    }

pub returns-clause-seen : goal.returns-clause-seen
returns-clause-seen g c =
    let batch = c.args.job.now.batch.now in
    let opened = c.args.opened in
    let blocks : length (blocks_of batch) ≡ length batch.transactions.items = length-map batch.transactions.items block_view in
    let so_far = c.looking.invariant in
    let over = c.looking-test.false in
    let count = c.len-count.ensures in
    let within = so_far.within in
    let nets = c.looking.nets in
    let seen : FirstConflict = record { first = c.looking.from; upto = c.len-upto.result } in
    record {
      opening = opens_at_end (start_of batch) (blocks_of batch) opened c.looking.from (omega arith) so_far.listed.keep;
      pending = subst (λ s. IsWindowAt batch c.looking.from s c.looking.window) c.requires.opening so_far.window;
      upto = let size = c.len-upto.ensures in omega arith;
      listed = subst (IsListedTo batch opened c.looking.from c.looking.window) (sym (all_taken nets c.len-upto.result c.len-upto.ensures))
          so_far.listed;
      reached = so_far.reached (let going = c.requires.going in omega arith);
    }
