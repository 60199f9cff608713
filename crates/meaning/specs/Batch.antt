-- What one thread does with a batch: its transactions by number, each on the state that those before it leave.
use Rattle.std.specs.Prelude.{ℕ, zero, suc, List, [], ◌∷◌, ◌++◌, length, slice_index_or}
use Rattle.objects.specs.Entries.{State}
use Rattle.objects.specs.declared.entry.Entry.{Entry}
use Rattle.meaning.specs.declared.end.End.TheVariants.{Ended, Aborted}
use Rattle.meaning.specs.Trees.{Block, NoStep}
use Rattle.meaning.specs.Records.{Taken, net}
use Rattle.meaning.specs.Shown.{Shown, shown}
use Rattle.meaning.specs.OneThread.{Execution, Ran, record_of, outcome_of, one}

-- a transaction that aborts leaves the state as it was
abbrev pub settled : State → Execution Taken → State
settled before (Ran taken Ended labels state) = state
settled before (Ran taken (Aborted reason) labels state) = before

abbrev pub net_of : Execution Taken → List Entry
net_of run = net (record_of run) (outcome_of run)

abbrev pub shown_of : Execution Taken → Shown
shown_of run = shown (record_of run) (outcome_of run)

abbrev pub block_at : List Block → ℕ → Block
block_at batch i = slice_index_or batch i NoStep

-- `start` is the state before the batch. Transactions are counted from 0
module _ (start : State) (batch : List Block) where
  -- the state after the first i transactions
  unfoldable pub state_at : ℕ → State
  state_at zero = start
  state_at (suc i) = settled (state_at i) (one (block_at batch i) [] (state_at i))

  -- transaction i, run on the state after the first b
  abbrev pub alone : ℕ → ℕ → Execution Taken
  alone i b = one (block_at batch i) [] (state_at b)

  -- the one-thread run of transaction i
  abbrev pub answer : ℕ → Execution Taken
  answer i = alone i i

  -- what the count transactions from number b on leave, one after the other
  unfoldable pub nets : ℕ → ℕ → List Entry
  nets b zero = []
  nets b (suc count) = net_of (answer b) ++ nets (suc b) count

  -- what the runs of count transactions from number i on leave, each made on the state after the first b
  unfoldable pub run_nets : ℕ → ℕ → ℕ → List Entry
  run_nets b i zero = []
  run_nets b i (suc count) = net_of (alone i b) ++ run_nets b (suc i) count

  -- what the runs of the count transactions from number b on show
  unfoldable pub shown_from : ℕ → ℕ → List Shown
  shown_from b zero = []
  shown_from b (suc count) = shown_of (answer b) ∷ shown_from (suc b) count

  -- what all runs show, and the state at the end
  abbrev pub all_shown : List Shown
  all_shown = shown_from 0 (length batch)

  abbrev pub final_state : State
  final_state = state_at (length batch)
