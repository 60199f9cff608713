-- Runs whose calls get the same replies on other objects. No public contract names it.
use Rattle.std.specs.Prelude.{◌≡◌, ℕ, ◌<◌, List, None, Some, length, slice_index_or}
use Rattle.objects.specs.Entries.{State, reply_at, AreLegal}
use Rattle.objects.specs.declared.entry.Entry.{Entry}
use Rattle.rounds.specs.PendingRuns.{IsListedNet, listed_net}
use Rattle.rounds.specs.declared.pending_run.PendingRun.{PendingRun}

-- the call gets the reply on this state
abbrev pub IsRepeated : State → Entry → Type 0
IsRepeated state entry = reply_at state entry.object entry.call ≡ Some entry.reply

-- none of these entries is of the object
abbrev pub AreOfOthers : ℕ → List Entry → Type 0
AreOfOthers object entries = (k : ℕ) (d : Entry) → k < length entries → ¬ ((slice_index_or entries k d).object ≡ object)

-- of the first of these entries no two are of one object
abbrev pub AreApart : List Entry → ℕ → Type 0
AreApart entries count = (i k : ℕ) (d : Entry) → i < count → k < i
    → ¬ ((slice_index_or entries k d).object ≡ (slice_index_or entries i d).object)

-- The run left all its entries, which are legal on this state.
pub record Repeats (state : State) (run : PendingRun) : Type 0 where
  pub whole : run.sums.of_net ≡ None
  pub listed : IsListedNet run.net
  pub legal : AreLegal state (listed_net run)
