-- How often each transaction is run.
use Rattle.std.specs.Prelude.{◌≡◌, ℕ, ◌<◌, List, length, slice_index_or}
use Rattle.meaning.specs.Rounds.{Count}
use Rattle.rounds.specs.Views.{start_of, blocks_of}
use Rattle.batch.specs.declared.batch.Batch.{Batch}

-- the counts say how often each transaction is run
pub record AreCounts (batch : Batch) (counts : List ℕ) : Type 0 where
  pub all : length counts ≡ length (blocks_of batch)
  pub each : (i : ℕ) → i < length (blocks_of batch) → Count (start_of batch) (blocks_of batch) i (slice_index_or counts i 0)
