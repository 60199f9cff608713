use Rattle.std.proofs.Common.{◌≡◌, ◌⊎◌, suc, ◌+◌, false, true, ◌++◌, length, take, map, refl, sym, ap, ◌∙◌, subst, arith}
use Rattle.std.proofs.lemmas.List.{length-map}
use Rattle.objects.specs.Entries.{after, AreLegal}
use Rattle.intentions.specs.Levels.{AllHaveRoom}
use Rattle.meaning.specs.Rounds.{Rounds}
use Rattle.meaning.proofs.Openings.{comes_on}
use Rattle.batch.specs.Views.{block_view}
use Rattle.rounds.specs.Views.{start_of, blocks_of}
use Rattle.rounds.specs.PendingRuns.{own_nets, AreSpanned}
use Rattle.rounds.specs.Windows.{flag_at, Stands}
use Rattle.rounds.specs.declared.pending_run.PendingRun.{PendingRun}
use Rattle.rounds.proofs.Rounding.{commits, moved_on, falls, kept_at, renewed_window, renewed_within, renewed_between, committed_on}
use Rattle.rounds.proofs.WindowLemmas.{settled_flag, settled_window}
use Rattle.rounds.proofs.openings.round.Goals as goal

pub seek-requires-clause-going : goal.seek-requires-clause-going
seek-requires-clause-going g c κs within =
    omega (arith, length-map c.args.job.now.batch.now.transactions.items block_view, c.requires.going)

pub commit-requires-clause-spans : goal.commit-requires-clause-spans
commit-requires-clause-spans g c κs within =
    let batch = c.args.job.now.batch.now in
    let seen = c.in_ok-seen.seen in
    let saw = c.in_ok-seen.ensures.seen in
    let opened = c.args.at.now.committed in
    let state = c.args.at.now.objects in
    subst (AreSpanned (blocks_of batch) opened) (sym c.between-runs.ensures)
    (commits batch opened seen.first state c.seek.new.window (take seen.upto c.seek.new.reused.nets) c.requires.at.objects
    c.requires.at.within saw.pending saw.reached saw.listed).2

pub commit-requires-clause-legal : goal.commit-requires-clause-legal
commit-requires-clause-legal g c κs within =
    let batch = c.args.job.now.batch.now in
    let seen = c.in_ok-seen.seen in
    let saw = c.in_ok-seen.ensures.seen in
    let opened = c.args.at.now.committed in
    let state = c.args.at.now.objects in
    subst (λ rs. AreLegal state (own_nets (blocks_of batch) opened rs)) (sym c.between-runs.ensures)
    (commits batch opened seen.first state c.seek.new.window (take seen.upto c.seek.new.reused.nets) c.requires.at.objects
    c.requires.at.within saw.pending saw.reached saw.listed).0

pub commit-requires-clause-room : goal.commit-requires-clause-room
commit-requires-clause-room g c κs within =
    let batch = c.args.job.now.batch.now in
    let seen = c.in_ok-seen.seen in
    let saw = c.in_ok-seen.ensures.seen in
    let opened = c.args.at.now.committed in
    let state = c.args.at.now.objects in
    subst (λ rs. AllHaveRoom state (own_nets (blocks_of batch) opened rs)) (sym c.between-runs.ensures)
    (commits batch opened seen.first state c.seek.new.window (take seen.upto c.seek.new.reused.nets) c.requires.at.objects
    c.requires.at.within saw.pending saw.reached saw.listed).1

pub keep_after-requires-clause-falls : goal.keep_after-requires-clause-falls
keep_after-requires-clause-falls g c κs within d valid =
    let batch = c.args.job.now.batch.now in
    let seen = c.in_ok-seen.seen in
    let saw = c.in_ok-seen.ensures.seen in
    falls batch c.args.at.now.committed seen.first c.args.at.now.objects c.seek.new.window (take seen.upto c.seek.new.reused.nets)
    c.requires.at.objects c.requires.at.within saw.pending saw.reached saw.listed saw.opening d valid

pub renew-requires-clause-number : goal.renew-requires-clause-number
renew-requires-clause-number g c told =
    let batch = c.args.job.now.batch.now in
    let start = start_of batch in
    let blocks = blocks_of batch in
    let seen = c.in_ok-seen.seen in
    let saw = c.in_ok-seen.ensures.seen in
    let opened = c.args.at.now.committed in
    let state = c.args.at.now.objects in
    let listed = take seen.upto c.seek.new.reused.nets in
    let window = c.seek.new.window in
    let next = moved_on batch opened seen.first state window listed c.requires.at.objects c.requires.at.within saw.pending
    saw.reached saw.listed c.commit.new.objects
    (c.in_ok-commit.ensures ∙ ap (λ rs. after state (own_nets blocks opened rs)) c.between-runs.ensures) in
    renewed_within batch opened seen.first state window listed c.requires.at.objects c.requires.at.within saw.pending
    saw.reached saw.listed c.commit.new.objects c.keep_after.new.self next c.in_ok-keep_after.ensures
    c.repeats-again.result c.repeats-again.ensures.valid told

pub returns-clause-at : goal.returns-clause-at
returns-clause-at g c =
    let batch = c.args.job.now.batch.now in
    let start = start_of batch in
    let blocks = blocks_of batch in
    let count = c.len.ensures in
    let size : length blocks ≡ length batch.transactions.items = length-map batch.transactions.items block_view in
    let all : c.len.result ≡ length blocks = omega arith in
    let seen = c.in_ok-seen.seen in
    let saw = c.in_ok-seen.ensures.seen in
    let opened = c.args.at.now.committed in
    let state = c.args.at.now.objects in
    let listed = take seen.upto c.seek.new.reused.nets in
    let window = c.seek.new.window in
    let kept = c.keep_after.new.self in
    let renewed = c.renew.new.self in
    let new = c.shorten.new.self in
    let inside = saw.opening.within in
    let on = comes_on start blocks opened seen.first (omega (arith, count, all, c.requires.going)) saw.opening in
    let next = moved_on batch opened seen.first state window listed c.requires.at.objects c.requires.at.within saw.pending
    saw.reached saw.listed c.commit.new.objects
    (c.in_ok-commit.ensures ∙ ap (λ rs. after state (own_nets blocks opened rs)) c.between-runs.ensures) in
    let still = renewed_window batch opened seen.first state window listed c.requires.at.objects c.requires.at.within saw.pending
    saw.reached saw.listed c.commit.new.objects kept next c.in_ok-keep_after.ensures c.repeats-again.result renewed c.renew.ensures
    c.repeats-again.ensures.valid c.repeats-again.ensures.repeats in
    let done = c.in_ok-settle.ensures in
    let rounds = c.args.at.now.rounds in
    let few = c.requires.at.few_rounds in
    record {
      within = omega arith;
      objects = next;
      window = settled_window batch opened seen.first c.len.result renewed c.settle.new.self new c.args.at.now.records
          c.settle.new.records all done c.shorten.ensures (omega arith) c.commit.new.objects still;
      cleared = c.clear.ensures;
      committed = committed_on batch opened seen.first state window listed c.requires.at.objects c.requires.at.within saw.pending
          saw.reached saw.listed c.commit.new.objects kept next c.in_ok-keep_after.ensures c.args.at.now.records
          c.settle.new.records c.requires.at.committed (done.pushed
          ∙ ap (λ rs. c.args.at.now.records.items ++ map (λ (r : PendingRun). r.tree) rs)
          (renewed_between batch opened seen.first state window listed c.requires.at.objects c.requires.at.within saw.pending
          saw.reached saw.listed c.commit.new.objects kept next c.in_ok-keep_after.ensures c.repeats-again.result renewed
          c.renew.ensures));
      few_rounds = omega arith;
      all_rounds = λ more from.
          let same : rounds + suc more ≡ (rounds + 1) + more = omega arith in
          subst (Rounds start blocks) same (c.requires.at.all_rounds (suc more) (
            omega (arith, count, all, c.requires.going),
            seen.first,
            saw.opening,
            from,
          ));
    }

pub returns-clause-on : goal.returns-clause-on
returns-clause-on g c =
    let batch = c.args.job.now.batch.now in
    let size : length (blocks_of batch) ≡ length batch.transactions.items = length-map batch.transactions.items block_view in
    comes_on (start_of batch) (blocks_of batch) c.args.at.now.committed c.in_ok-seen.seen.first
    (omega (arith, size, c.requires.going)) c.in_ok-seen.ensures.seen.opening

pub returns-clause-round : goal.returns-clause-round
returns-clause-round g c none =
    let batch = c.args.job.now.batch.now in
    let start = start_of batch in
    let blocks = blocks_of batch in
    let count = c.len.ensures in
    let size : length blocks ≡ length batch.transactions.items = length-map batch.transactions.items block_view in
    let all : c.len.result ≡ length blocks = omega arith in
    let seen = c.in_ok-seen.seen in
    let saw = c.in_ok-seen.ensures.seen in
    let opened = c.args.at.now.committed in
    let state = c.args.at.now.objects in
    let listed = take seen.upto c.seek.new.reused.nets in
    let window = c.seek.new.window in
    let kept = c.keep_after.new.self in
    let renewed = c.renew.new.self in
    let new = c.shorten.new.self in
    let inside = saw.opening.within in
    let on = comes_on start blocks opened seen.first (omega (arith, count, all, c.requires.going)) saw.opening in
    let next = moved_on batch opened seen.first state window listed c.requires.at.objects c.requires.at.within saw.pending
    saw.reached saw.listed c.commit.new.objects
    (c.in_ok-commit.ensures ∙ ap (λ rs. after state (own_nets blocks opened rs)) c.between-runs.ensures) in
    let still = renewed_window batch opened seen.first state window listed c.requires.at.objects c.requires.at.within saw.pending
    saw.reached saw.listed c.commit.new.objects kept next c.in_ok-keep_after.ensures c.repeats-again.result renewed c.renew.ensures
    c.repeats-again.ensures.valid c.repeats-again.ensures.repeats in
    let same : renewed ≡ kept = c.renew.ensures.same (c.repeats-again.ensures.tried none) in
    let done = c.in_ok-settle.ensures in
    let begun = c.requires.at.window.begun in
    record {
      next = saw.opening;
      on = omega arith;
      one = refl;
      kept = λ i low valid.
          let flag = settled_flag batch opened seen.first c.len.result renewed c.settle.new.self new
          c.args.at.now.records c.settle.new.records all done c.shorten.ensures (omega arith) c.commit.new.objects still
          i low ∙ ap (λ w. flag_at w i) same in
          subst (λ f. ((f ≡ true) × Stands batch opened seen.first i) ⊎ ((f ≡ false) × (¬ Stands batch opened seen.first i))) (sym flag)
          (kept_at batch opened seen.first state window listed c.requires.at.objects c.requires.at.within saw.pending saw.reached
          saw.listed c.commit.new.objects kept next c.in_ok-keep_after.ensures i low
          (c.in_ok-seen.ensures.grown.still i (omega arith) valid));
    }
