use Rattle.std.proofs.Common.{◌≡◌, ◌+◌, map}
use Rattle.meaning.specs.Running.{all_operations}
use Rattle.batch.specs.Views.{block_view}
use Rattle.batch.proofs.CountLemmas.{rest_of_blocks}
use Rattle.batch.proofs.batch.Batch.operations.Given as goal

abbrev pub invariant-loop-block : goal.invariant-loop-block
invariant-loop-block l = l.count + rest_of_blocks l.block-index l.block-items ≡ all_operations (map block_view l.fn.self.transactions.items)
