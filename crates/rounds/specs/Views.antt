-- A batch as the meaning sees it.
use Rattle.std.specs.Prelude.{ℕ, List, [], map}
use Rattle.objects.specs.Entries.{State}
use Rattle.meaning.specs.Records.{Taken}
use Rattle.meaning.specs.OneThread.{Execution, one}
use Rattle.meaning.specs.Batch.{block_at, state_at}
use Rattle.meaning.specs.Trees as meant
pub use Rattle.batch.specs.Parts.{start_of, blocks_of}
use Rattle.batch.specs.Views.{block_view}
use Rattle.batch.specs.declared.batch.Batch.{Batch}
use Rattle.batch.specs.declared.tree.Block.{Block}

-- what one thread does with a transaction on a state
abbrev pub meaning : Batch → ℕ → State → Execution Taken
meaning batch number state = one (block_at (blocks_of batch) number) [] state

-- blocks as the meaning sees them
abbrev pub views_of : List Block → List meant.Block
views_of blocks = map block_view blocks

-- the state at the opening after so many transactions
abbrev pub opening_state : Batch → ℕ → State
opening_state batch opened = state_at (start_of batch) (blocks_of batch) opened
