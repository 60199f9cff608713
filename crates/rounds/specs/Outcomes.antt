-- What an outcome says of its batch.
use Rattle.std.specs.Prelude.{◌≡◌, ◌≤◌, length, map}
use Rattle.objects.specs.Entries.{after}
use Rattle.meaning.specs.Batch.{all_shown, final_state, nets}
use Rattle.meaning.specs.Rounds.{Rounds}
use Rattle.meaning.specs.declared.limits.TheConstants.{MAX_OBJECTS}
use Rattle.batch.specs.Views.{record_view}
use Rattle.batch.specs.declared.batch.Batch.{Batch}
use Rattle.batch.specs.declared.answer.Outcome.{Outcome}
use Rattle.rounds.specs.Views.{start_of, blocks_of}

-- it is what one thread does, in the defined number of rounds
pub record IsOutcomeOf (batch : Batch) (outcome : Outcome) : Type 0 where
  -- each transaction's replies, branches and outcomes are those of one thread
  pub records : map record_view outcome.records.items ≡ all_shown (start_of batch) (blocks_of batch)
  -- so are the objects at the end
  pub objects : outcome.objects ≡ final_state (start_of batch) (blocks_of batch)
  -- they are no more than a document may have
  pub few_objects : length outcome.objects ≤ MAX_OBJECTS
  -- they are what the transactions leave, without anything that was aborted
  pub net : outcome.objects ≡ after (start_of batch) (nets (start_of batch) (blocks_of batch) 0 (length (blocks_of batch)))
  -- the number of rounds is the defined one, and at most the number of transactions
  pub rounds : Rounds (start_of batch) (blocks_of batch) outcome.rounds
  pub few : outcome.rounds ≤ length (blocks_of batch)
