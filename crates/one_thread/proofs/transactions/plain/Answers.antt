use Rattle.std.proofs.Common.{◌∙◌, refl}
use Rattle.one_thread.proofs.Answered.{part_answered-start, part_answered-can_run, part_answered-none_left, part_answered-more}
use Rattle.one_thread.proofs.Answered.{part_answered-all, few_at_end}
use Rattle.one_thread.proofs.transactions.plain.Goals as goal

pub loop-block-init : goal.loop-block-init
loop-block-init c = rw c.in_ok-records.ensures.items
    (part_answered-start c.args.batch.now _ (rw (c.new-workspace.ensures, c.in_ok-copy.ensures) refl))

pub run_transaction-requires-clause-can : goal.run_transaction-requires-clause-can
run_transaction-requires-clause-can c =
    part_answered-can_run c.args.batch.now _ c.deref-block-items.ensures.value _ _ _ _ c.loop-block.invariant c.loop-block-test.true
    c.block-item.is

pub run_transaction-requires-clause-settled : goal.run_transaction-requires-clause-settled
run_transaction-requires-clause-settled c =
    part_answered-none_left c.args.batch.now _ c.deref-block-items.ensures.value _ _ _ _ c.loop-block.invariant c.loop-block-test.true
    c.block-item.is

pub loop-block-preserved : goal.loop-block-preserved
loop-block-preserved c =
    rw c.in_ok-push.ensures.items (part_answered-more c.args.batch.now _ c.deref-block-items.ensures.value _ _ _ _ c.loop-block.invariant
    c.loop-block-test.true c.block-item.is _ _ c.in_ok-run_transaction.ensures.shows c.in_ok-run_transaction.ensures.settles)

pub returns-clause-records : goal.returns-clause-records
returns-clause-records c = (part_answered-all c.args.batch.now _ c.deref-block-items.ensures.value _ _ _ c.loop-block.invariant
    c.loop-block.auto.block-index-end c.loop-block-test.false).0

pub returns-clause-objects : goal.returns-clause-objects
returns-clause-objects c = c.into_objects.ensures
    ∙ (part_answered-all c.args.batch.now _ c.deref-block-items.ensures.value _ _ _ c.loop-block.invariant
    c.loop-block.auto.block-index-end c.loop-block-test.false).1

pub returns-clause-few_objects : goal.returns-clause-few_objects
returns-clause-few_objects c = few_at_end c.args.batch.now c.into_objects.result (c.into_objects.ensures
    ∙ (part_answered-all c.args.batch.now _ c.deref-block-items.ensures.value _ _ _ c.loop-block.invariant
    c.loop-block.auto.block-index-end c.loop-block-test.false).1)
