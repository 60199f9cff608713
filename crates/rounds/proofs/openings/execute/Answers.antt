use Rattle.std.proofs.Common.{◌≡◌, ◌≤◌, ◌+◌, ◌-◌, ℕ, false, length, get_or, refl, ap, sym, subst, arith}
use Rattle.std.proofs.lemmas.List.{length-map}
use Rattle.std.specs.declared.vec.Vec.{Vec}
use Rattle.std.specs.declared.alloc.Global.{Global}
use Rattle.rounds.specs.Views.{blocks_of}
use Rattle.batch.specs.Views.{block_view}
use Rattle.rounds.proofs.Ends.{end_counts, is_outcome}
use Rattle.rounds.specs.Openings.{AreCounts}
use Rattle.rounds.specs.Windows.{IsOpening, AreCountsAt, AreCountsOn}
use Rattle.rounds.proofs.Counts.{none_counted, round_counted}
use Rattle.rounds.proofs.openings.execute.Goals as goal

pub opening-init : goal.opening-init
opening-init g c =
    let batch = c.args.batch.now in
    let blocks : length (blocks_of batch) ≡ length batch.transactions.items = length-map batch.transactions.items block_view in
    let first = c.in_ok-at.ensures.first in
    let counts = c.in_ok-counts.counts.items in
    record {
      at = c.in_ok-at.ensures.opening;
      counts = subst (λ b. AreCountsAt batch b c.in_ok-at.at.rounds c.in_ok-at.at.window counts) (sym first.0)
          (subst (λ n. AreCountsAt batch 0 n c.in_ok-at.at.window counts) (sym first.1)
          (none_counted batch c.in_ok-at.at.window counts (let counted = c.in_ok-counts.ensures.0 in let len = c.len.ensures in omega arith)
          c.in_ok-counts.ensures.1 (λ i. ap (λ v. get_or v (i - c.in_ok-at.at.window.first) false) c.in_ok-at.ensures.none)));
    }

pub opening-preserved : goal.opening-preserved
opening-preserved g c =
    let batch = c.of-job.result.batch.now in
    let same = c.of-job.ensures.batch in
    let middle = c.make_rest.new.at in
    let new = c.round.new.at in
    let counts = c.make_rest.new.counts.items in
    record {
      at = subst (λ b. IsOpening b new) same c.in_ok-round.ensures.at;
      counts = subst (λ b. AreCountsOn b new new.rounds counts) same
          (round_counted batch middle new counts (c.in_ok-round.ensures.round refl) c.in_ok-make_rest.ensures.valid
          (subst (λ n. AreCountsOn batch middle (n + 1) counts) (sym c.in_ok-make_rest.ensures.rounds)
          c.in_ok-make_rest.ensures.counts));
    }

pub opening-smaller : goal.opening-smaller
opening-smaller g c =
    let going = c.opening-test.true in
    let count = c.len-in-opening.ensures in
    let same = c.in_ok-make_rest.ensures.same in
    let on = c.in_ok-round.ensures.on in
    omega arith

pub returns-clause-answer : goal.returns-clause-answer
returns-clause-answer g c =
    let batch = c.args.batch.now in
    let blocks : length (blocks_of batch) ≡ length batch.transactions.items = length-map batch.transactions.items block_view in
    let over = c.opening-test.false in
    let count = c.len-in-opening.ensures in
    let done : length (blocks_of batch) ≤ c.opening.at.committed = omega arith in
    is_outcome batch c.opening.at c.opening.invariant.at done c.outcome_of.result c.outcome_of.ensures.records
    c.outcome_of.ensures.objects c.outcome_of.ensures.rounds

pub returns-clause-runs : goal.returns-clause-runs
returns-clause-runs g c =
    let batch = c.args.batch.now in
    let blocks : length (blocks_of batch) ≡ length batch.transactions.items = length-map batch.transactions.items block_view in
    let over = c.opening-test.false in
    let count = c.len-in-opening.ensures in
    let done : length (blocks_of batch) ≤ c.opening.at.committed = omega arith in
    subst (λ (v : Vec ℕ Global). AreCounts batch v.items) (sym c.outcome_of.ensures.runs)
    (end_counts batch c.opening.at c.opening.invariant.at done c.opening.counts.items c.opening.invariant.counts)
