-- There is room for every run of a batch.
use Rattle.std.proofs.Common.{ℕ, ◌<◌, ◌≤◌, length, arith}
use Rattle.std.proofs.lemmas.List.{length-map}
use Rattle.meaning.specs.Batch.{state_at}
use Rattle.batch.specs.Views.{block_view}
use Rattle.batch.specs.declared.batch.Batch.{Batch}
use Rattle.speculate.proofs.Room.{room_at}
use Rattle.rounds.specs.Views.{start_of, blocks_of}
use Rattle.rounds.specs.Passes.{CanBeMade}

-- every transaction from an opening on can be run on the opening's state
pub made_at : (batch : Batch) (b : ℕ) → b ≤ length (blocks_of batch) → (i : ℕ) → b ≤ i → i < length (blocks_of batch)
    → CanBeMade batch (state_at (start_of batch) (blocks_of batch) b) i
made_at batch b within i le lt =
    let size = length-map batch.transactions.items block_view in
    record { within = omega arith; room = room_at batch b within i le }
