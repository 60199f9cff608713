-- What the run of a transaction asks, and what it has.
use Rattle.std.specs.Prelude.{◌≡◌, ℕ, ◌+◌, ◌-◌, ◌*◌, ◌≤◌, List}
use Rattle.objects.specs.Entries.{State}
use Rattle.meaning.specs.Trees.{Block}
use Rattle.meaning.specs.Records.{Taken, entries}
use Rattle.meaning.specs.OneThread.{Execution, record_of}
use Rattle.meaning.specs.Batch.{block_at, net_of, shown_of}
use Rattle.meaning.specs.WellFormed.{operations, largest, largest_amount}
use Rattle.meaning.specs.Running.{all_operations}
use Rattle.batch.specs.Views.{record_view}
use Rattle.intentions.specs.Levels.{listed_by}
use Rattle.intentions.specs.declared.view.NetList.{NetList}
use Rattle.intentions.specs.declared.view.NetList.TheVariants.{Own}
use Rattle.speculate.specs.declared.speculated.Run as speculated
use Rattle.meaning.specs.declared.limits.TheConstants.{MAX_START}

-- no number is larger than the operations of all other transactions can make it
abbrev pub IsWithinOthers : List Block → ℕ → State → Type 0
IsWithinOthers batch i state =
    largest state ≤ MAX_START + largest_amount * (all_operations batch - operations (block_at batch i))

-- the record, all entries and the net of a run whose net is listed there
pub record IsListedRunOf (listed : NetList) (meant : Execution Taken) (run : speculated.Run) : Type 0 where
  pub tree : record_view run.tree ≡ shown_of meant
  pub entries : run.entries.items ≡ entries (record_of meant)
  pub net : listed_by listed run.entries.items run.net.items ≡ net_of meant

-- the record, all entries and the net of a run whose net has a list of its own
abbrev pub IsRunOf : Execution Taken → speculated.Run → Type 0
IsRunOf = IsListedRunOf Own
