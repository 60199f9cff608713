use Rattle.std.proofs.Common.{◌<◌, ◌-◌, [], sym, subst, length, arith}
use Rattle.batch.specs.Views.{block_view}
use Rattle.intentions.specs.Levels.{shown_values as state_of_view}
use Rattle.batch.specs.Running.{CanRunHere}
use Rattle.speculate.proofs.Transactions.{transaction_can_run}
use Rattle.speculate.proofs.transaction.run_in.Goals as goal

pub run_block-requires-after_bounds : goal.run_block-requires-after_bounds
run_block-requires-after_bounds g c κs within =
    let batch = c.args.maker.now.batch.now in
    let state = c.args.view.now.snapshot in
    let below : c.args.number - 1 < length batch.transactions.items = omega (arith, c.requires.first, c.requires.last) in
    let can = transaction_can_run batch.objects batch.names batch.transactions.items (c.args.number - 1) state
    c.index-block.result.now batch.is_batch c.requires.same_kinds c.requires.room below c.index-block.ensures in
    rw c.requires.unlabelled (subst (λ v. CanRunHere (block_view c.index-block.result.now) [] (state_of_view v))
    (sym c.take_run-listed.ensures.opened) can)
