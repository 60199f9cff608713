-- Which run of a list is the first that doesn't stand past what those before it leave.
use Rattle.std.specs.Prelude.{ℕ, ◌<◌, ◌≤◌, List, [], ◌∷◌, ◌++◌, length, take, slice_index_or}
use Rattle.objects.specs.Entries.{State, AllCommute}
use Rattle.objects.specs.declared.entry.Entry.{Entry}
use Rattle.rounds.specs.Views.{blocks_of}
use Rattle.speculate.specs.Runs.{IsWithinOthers}
use Rattle.speculate.specs.declared.speculated.Run.{Run}
use Rattle.batch.specs.declared.batch.Batch.{Batch}

-- a transaction of the batch can be run on this state
pub record CanBeMade (batch : Batch) (state : State) (number : ℕ) : Type 0 where
  pub within : number < length batch.transactions.items
  pub room : IsWithinOthers (blocks_of batch) number state

-- what runs leave, one after the other
abbrev pub nets_of : List Run → List Entry
nets_of [] = []
nets_of (run ∷ runs) = run.net.items ++ nets_of runs

-- each entry of the run commutes forward with each of the list
abbrev pub StandsPast : List Entry → Run → Type 0
StandsPast since run = AllCommute run.entries.items since

-- run i stands past the nets of those before it
abbrev pub StandsAt : List Run → ℕ → Type 0
StandsAt runs i = (d : Run) → StandsPast (nets_of (take i runs)) (slice_index_or runs i d)

-- the first run that doesn't stand past those before it, or their number
pub record IsFirstConflict (runs : List Run) (first : ℕ) : Type 0 where
  pub within : first ≤ length runs
  pub clear : (i : ℕ) → i < first → StandsAt runs i
  pub conflict : (d : Run) → first < length runs → ¬ StandsPast (nets_of (take first runs)) (slice_index_or runs first d)
