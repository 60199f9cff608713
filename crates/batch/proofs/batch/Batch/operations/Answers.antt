use Rattle.std.proofs.Common.{arith}
use Rattle.batch.proofs.CountLemmas.{rest_of_blocks-start, rest_of_blocks-more, rest_of_blocks-end}
use Rattle.batch.proofs.batch.Batch.operations.Goals as goal

pub loop-block-init : goal.loop-block-init
loop-block-init c = rw c.deref-block-items.ensures.value (let all = rest_of_blocks-start c.args.self.now.transactions.items in
    omega (arith, all))

pub operations_in-count-requires : goal.operations_in-count-requires
operations_in-count-requires c =
    let more = rest_of_blocks-more c.loop-block.block-index _ _ c.loop-block-test.true c.block-item.is in
    omega (arith, more, c.loop-block.invariant, c.args.self.now.is_batch.few_operations)

pub overflow_add-count : goal.overflow_add-count
overflow_add-count c =
    let more = rest_of_blocks-more c.loop-block.block-index _ _ c.loop-block-test.true c.block-item.is in
    omega (arith, more, c.loop-block.invariant, c.args.self.now.is_batch.few_operations, c.operations_in-count.ensures)

pub loop-block-preserved : goal.loop-block-preserved
loop-block-preserved c =
    let more = rest_of_blocks-more c.loop-block.block-index _ _ c.loop-block-test.true c.block-item.is in
    omega (arith, more, c.loop-block.invariant, c.operations_in-count.ensures)

pub returns : goal.returns
returns c = let ended = rest_of_blocks-end _ _ c.loop-block-test.false in omega (arith, c.loop-block.invariant, ended)
