-- What a check of pending runs side by side returns. No public contract names it.
use Rattle.std.specs.Prelude.{◌≡◌, ℕ, ◌<◌, ◌≤◌, ◌++◌, List, length, take, slice_index_or}
use Rattle.objects.specs.declared.entry.Entry.{Entry}
use Rattle.rounds.specs.PendingRuns.{all_left, HoldsPast}
use Rattle.rounds.specs.declared.pending_run.PendingRun.{PendingRun}
use Rattle.rounds.specs.declared.check.FirstConflict.{FirstConflict}

-- for each run, how many entries there are before its net, where the list began with these
pub record AreStarts (past : List Entry) (runs : List PendingRun) (starts : List ℕ) : Type 0 where
  pub all : length starts ≡ length runs
  pub each : (i : ℕ) → i < length runs → slice_index_or starts i 0 ≡ length (past ++ all_left (take i runs))

-- run i holds past the entries of the list that are before its net
abbrev pub HoldsFrom : List Entry → List ℕ → List PendingRun → ℕ → Type 0
HoldsFrom nets starts runs i = (d : PendingRun) → HoldsPast (take (slice_index_or starts i 0) nets) (slice_index_or runs i d)

-- the first run that doesn't, or their number
pub record IsFirstFrom (nets : List Entry) (starts : List ℕ) (runs : List PendingRun) (first : ℕ) : Type 0 where
  pub within : first ≤ length runs
  pub clear : (i : ℕ) → i < first → HoldsFrom nets starts runs i
  pub conflict : first < length runs → ¬ HoldsFrom nets starts runs first

-- run i holds past these entries and what the runs before it leave
abbrev pub HoldsAfter : List Entry → List PendingRun → ℕ → Type 0
HoldsAfter past runs i = (d : PendingRun) → HoldsPast (past ++ all_left (take i runs)) (slice_index_or runs i d)

-- the first run that doesn't, or their number, and how many entries these are
pub record IsSeenPast (past : List Entry) (runs : List PendingRun) (seen : FirstConflict) : Type 0 where
  pub within : seen.first ≤ length runs
  pub clear : (i : ℕ) → i < seen.first → HoldsAfter past runs i
  pub conflict : seen.first < length runs → ¬ HoldsAfter past runs seen.first
  pub upto : seen.upto ≡ length (past ++ all_left (take seen.first runs))
