use Rattle.std.proofs.Common.{◌≡◌, ◌≤◌, length, subst, arith}
use Rattle.std.proofs.lemmas.List.{length-map}
use Rattle.rounds.specs.Views.{blocks_of}
use Rattle.rounds.specs.Windows.{IsOpening}
use Rattle.batch.specs.Views.{block_view}
use Rattle.rounds.proofs.Ends.{is_outcome}
use Rattle.rounds.proofs.openings.execute_ahead.Goals as goal

pub opening-init : goal.opening-init
opening-init g c = c.in_ok-at.ensures.opening

pub opening-preserved : goal.opening-preserved
opening-preserved g c =
    c.drop_later.ensures.at c.args.batch.now (subst (λ b. IsOpening b c.round.new.at) c.of-job.ensures.batch c.in_ok-round.ensures.at)

pub opening-smaller : goal.opening-smaller
opening-smaller g c =
    let going = c.opening-test.true in
    let count = c.len.ensures in
    let on = c.in_ok-round.ensures.on in
    let same = c.drop_later.ensures.same in
    omega arith

pub returns : goal.returns
returns g c =
    let batch = c.args.batch.now in
    let blocks : length (blocks_of batch) ≡ length batch.transactions.items = length-map batch.transactions.items block_view in
    let over = c.opening-test.false in
    let count = c.len.ensures in
    let done : length (blocks_of batch) ≤ c.opening.at.committed = omega arith in
    is_outcome batch c.opening.at c.opening.invariant done c.outcome_of.result c.outcome_of.ensures.records
    c.outcome_of.ensures.objects c.outcome_of.ensures.rounds
