-- The parts of a batch, as the meaning sees them.
use Rattle.std.specs.Prelude.{List, map}
use Rattle.objects.specs.Entries.{State}
use Rattle.meaning.specs.Trees.{Block}
use Rattle.batch.specs.Views.{block_view}
use Rattle.batch.specs.declared.batch.Batch.{Batch}

abbrev pub start_of : Batch → State
start_of batch = batch.objects

abbrev pub blocks_of : Batch → List Block
blocks_of batch = map block_view batch.transactions.items
