use Rattle.std.proofs.Common.{◌≡◌, ℕ, ◌+◌, ◌-◌, ◌<◌, ◌++◌, length, get_or, take, refl, sym, ap, ◌∙◌, subst, arith}
use Rattle.std.proofs.lemmas.List.{take_all}
use Rattle.meaning.specs.Batch.{state_at}
use Rattle.rounds.specs.Views.{start_of, blocks_of}
use Rattle.rounds.specs.declared.pending_run.PendingRun.{PendingRun}
use Rattle.rounds.specs.PendingRuns.{all_left, HoldsPast}
use Rattle.rounds.specs.Windows.{run_at, IsListedTo}
use Rattle.rounds.proofs.Firsts.{front_taken, front_within}
use Rattle.rounds.proofs.Listing.{listed_past, keeps_where_holds}
use Rattle.rounds.proofs.WindowLemmas.{between_at, later_window}
use Rattle.rounds.proofs.seek.check_block.Goals as goal

pub returns : goal.returns
returns g c =
    let batch = c.args.job.now.batch.now in
    let opened = c.args.opened in
    let from = c.args.block.start in
    let end = c.args.block.end in
    let window = c.args.window.now in
    let state = state_at (start_of batch) (blocks_of batch) opened in
    let block = c.between-runs.result.now in
    let past = c.args.nets.now in
    let nets = c.check_at_once.new.nets in
    let seen = c.in_ok-first.field-0 in
    let saw = c.in_ok-first.ensures.seen in
    let low = c.requires.places.0 in
    let high = c.requires.places.1 in
    let between = between_at window from end c.requires.window.begun low high in
    let size : length block ≡ end - from = ap length c.between-runs.ensures ∙ between.0 in
    let same : (k : ℕ) (d : PendingRun) → k < length block → get_or block k d ≡ run_at window (from + k) d =
    λ k d lt. ap (λ rs. get_or rs k d) c.between-runs.ensures ∙ between.1 k d (omega arith) in
    let within = saw.within in
    let listed = listed_past batch opened from state window refl c.requires.window past block same
    (λ k lt. c.requires.valid (from + k) (omega arith) (omega arith)) c.requires.listed seen.first saw.within saw.clear in
    let front = front_taken past block seen.first seen.upto nets c.in_ok-first.ensures.nets saw.upto in
    record {
      seen = record {
        within = omega arith;
        pending = later_window batch from (from + seen.first) state window (omega arith) c.requires.window;
        upto = front_within past block seen.first seen.upto nets c.in_ok-first.ensures.nets saw.upto;
        listed = subst (IsListedTo batch opened (from + seen.first) window) (sym front) listed;
        conflict = λ lt keeps. saw.conflict (omega arith) (λ d. subst (HoldsPast (past ++ all_left (take seen.first block)))
            (sym (same seen.first d (omega arith)))
            ((keeps_where_holds batch opened from state window refl c.requires.window (from + seen.first) d
            (past ++ all_left (take seen.first block)) (omega arith) listed
            (c.requires.valid (from + seen.first) (omega arith) lt)).1 keeps));
        all = λ is. saw.upto ∙ (ap (λ rs. length (past ++ all_left rs)) (take_all seen.first block (omega arith))
            ∙ sym (ap length c.in_ok-first.ensures.nets));
      };
    }
