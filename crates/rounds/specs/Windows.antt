-- Openings, with the runs that the rounds have come to. No public contract names it.
use Rattle.std.specs.Prelude.{◌≡◌, ◌≢◌, ◌⊎◌, ℕ, ◌-◌, ◌+◌, ◌<◌, ◌≤◌, Bool, true, false, List, [], ◌++◌, suc, length, take, drop, map}
use Rattle.std.specs.Prelude.{set, slice_index_or, IsTrue, ◌↔◌}
use Rattle.std.specs.declared.vec.Vec.{Vec}
use Rattle.std.specs.declared.alloc.Global.{Global}
use Rattle.objects.specs.Entries.{State}
use Rattle.objects.specs.declared.entry.Entry.{Entry}
use Rattle.objects.specs.Entries.{AllCommute}
use Rattle.meaning.specs.Records.{Taken, entries}
use Rattle.meaning.specs.OneThread.{Execution, record_of}
use Rattle.meaning.specs.Batch.{state_at, alone, answer, nets, shown_from}
use Rattle.meaning.specs.Rounds.{Keeps, AllKeep, IsNextOpening, RoundsFrom, Rounds, CountFrom, Count}
use Rattle.claims.specs.Views.{times}
use Rattle.committed.specs.Summaries.{IsSummary}
use Rattle.batch.specs.Views.{record_view}
use Rattle.batch.specs.declared.batch.Batch.{Batch}
use Rattle.batch.specs.declared.record.Record.{Record}
use Rattle.rounds.specs.Views.{start_of, blocks_of, meaning}
use Rattle.rounds.specs.PendingRuns.{IsCommittable, IsPendingOf, HoldsPast, Passes, left_by}
use Rattle.rounds.specs.declared.check.FirstConflict.{FirstConflict}
use Rattle.rounds.specs.declared.make.NumberedRun.{NumberedRun}
use Rattle.rounds.specs.declared.pending_run.PendingRun.{PendingRun}
use Rattle.rounds.specs.declared.window.Window.{Window}
use Rattle.rounds.specs.declared.openings.Opening.{Opening}

-- the run of transaction i, which isn't before the first of the window
abbrev pub run_at : Window → ℕ → PendingRun → PendingRun
run_at window i = slice_index_or window.runs.items (i - window.first)

-- whether it is one on the objects of the opening
abbrev pub flag_at : Window → ℕ → Bool
flag_at window i = slice_index_or window.valid.items (i - window.first) false

abbrev pub IsValid : Window → ℕ → Type 0
IsValid window i = flag_at window i ≡ true

-- the number after the last run
abbrev pub end_of : Window → ℕ
end_of window = window.first + length window.runs.items

-- the runs from one number on and before another
abbrev pub runs_between : Window → ℕ → ℕ → List PendingRun
runs_between window from end = take (end - from) (drop (from - window.first) window.runs.items)

-- how many runs are still to be made of one that is valid or isn't
abbrev pub still_to_be_made : Bool → ℕ
still_to_be_made true = 0
still_to_be_made false = 1

-- all are valid from one number on and before another
abbrev pub AllValid : Window → ℕ → ℕ → Type 0
AllValid window from end = (i : ℕ) → from ≤ i → i < end → IsValid window i

-- The runs are of transactions of the batch. From number b on each valid one is the run of its transaction on this state.
pub record IsWindowAt (batch : Batch) (b : ℕ) (state : State) (window : Window) : Type 0 where
  pub begun : window.first ≤ b
  pub flags : length window.valid.items ≡ length window.runs.items
  pub within : end_of window ≤ length (blocks_of batch)
  pub made : (i : ℕ) (d : PendingRun) → b ≤ i → IsValid window i → IsPendingOf (meaning batch i state) (run_at window i d)

-- a state is that of an opening, which comes no later than the number
pub record IsOpenedBy (batch : Batch) (number : ℕ) (state : State) : Type 0 where
  pub opened : ℕ
  pub low : opened ≤ number
  pub within : opened ≤ length (blocks_of batch)
  pub is : state ≡ state_at (start_of batch) (blocks_of batch) opened

-- more runs were made, and those of earlier transactions and all valid ones stayed
pub record HasGrown (b : ℕ) (old new : Window) : Type 0 where
  pub first : new.first ≡ old.first
  pub longer : length old.runs.items ≤ length new.runs.items
  pub same : (i : ℕ) (d : PendingRun) → old.first ≤ i → i < b → i < end_of old → run_at new i d ≡ run_at old i d
  pub still : (i : ℕ) → old.first ≤ i → IsValid old i → IsValid new i

-- a run is put into the place of its number, and is valid there
pub record IsPutInWindow (made : NumberedRun) (old new : Window) : Type 0 where
  pub first : new.first ≡ old.first
  pub runs : new.runs.items ≡ set old.runs.items (made.number - old.first) made.run.value
  pub valid : new.valid.items ≡ set old.valid.items (made.number - old.first) true

-- run i is valid and doesn't hold past these entries, and is listed once, or it isn't listed
abbrev pub Told : Window → List Entry → ℕ → ℕ → PendingRun → Type 0
Told window since i told d = ((IsValid window i → HoldsPast since (run_at window i d)) × (told ≡ 0))
    ⊎ (IsValid window i × (¬ HoldsPast since (run_at window i d)) × (told ≡ 1))

-- what is listed of one number: it where its run is valid and doesn't stand past these entries, and no other number
pub record IsFallenAt (window : Window) (since : List Entry) (number : ℕ) (numbers : List ℕ) : Type 0 where
  pub here : (d : PendingRun) → Told window since number (times number numbers) d
  pub elsewhere : (i : ℕ) → i ≢ number → times i numbers ≡ 0

-- it was added to a list
abbrev pub IsDecided : Window → List Entry → ℕ → List ℕ → List ℕ → Type 0
IsDecided window since number before after = (own : List ℕ) × (after ≡ before ++ own) × IsFallenAt window since number own

-- the numbers, each once, of the valid runs from one number on and before another that don't stand past these entries
pub record AreFallen (window : Window) (since : List Entry) (from upto : ℕ) (numbers : List ℕ) : Type 0 where
  pub before : (i : ℕ) → i < from → times i numbers ≡ 0
  pub beyond : (i : ℕ) → upto ≤ i → times i numbers ≡ 0
  pub each : (i : ℕ) (d : PendingRun) → from ≤ i → i < upto → Told window since i (times i numbers) d

-- the runs of these numbers aren't valid, and all else is as before
pub record AreStale (numbers : List ℕ) (old new : Window) : Type 0 where
  pub first : new.first ≡ old.first
  pub runs : new.runs ≡ old.runs
  pub flags : length new.valid.items ≡ length old.valid.items
  pub others : (i : ℕ) → old.first ≤ i → times i numbers ≡ 0 → flag_at new i ≡ flag_at old i
  pub here : (i : ℕ) → old.first ≤ i → 0 < times i numbers → flag_at new i ≡ false

-- a run is valid where it was and stands past these entries
abbrev pub KeptAt : List Entry → Window → Window → ℕ → PendingRun → Type 0
KeptAt since old new i d = (IsValid new i × HoldsPast since (run_at old i d))
    ⊎ ((flag_at new i ≡ false) × (¬ HoldsPast since (run_at old i d)))

-- of the runs from one number on those are valid that were and stand past these entries
pub record AreKept (from : ℕ) (since : List Entry) (old new : Window) : Type 0 where
  pub first : new.first ≡ old.first
  pub runs : new.runs ≡ old.runs
  pub flags : length new.valid.items ≡ length old.valid.items
  pub valid : (i : ℕ) → from ≤ i → IsValid new i → IsValid old i
  pub each : (i : ℕ) (d : PendingRun) → from ≤ i → IsValid old i → KeptAt since old new i d

-- all that a round commits of the run with a number stayed, and so did all other runs
pub record IsFreedAt (number : ℕ) (old new : Window) : Type 0 where
  pub first : new.first ≡ old.first
  pub valid : new.valid ≡ old.valid
  pub runs : length new.runs.items ≡ length old.runs.items
  pub others : (i : ℕ) (d : PendingRun) → old.first ≤ i → i ≢ number → run_at new i d ≡ run_at old i d
  pub here : (meant : Execution Taken) (d : PendingRun) → IsCommittable meant (run_at old number d)
      → IsCommittable meant (run_at new number d)

-- where the flag of a number is set, counted from one number on, the run passes this list
abbrev pub ArePassing : List Entry → ℕ → Window → List Bool → Type 0
ArePassing listed from window flags = (i : ℕ) (d : PendingRun) → from ≤ i → slice_index_or flags (i - from) false ≡ true
    → Passes listed (run_at window i d)

-- The run with a number was checked. Where it stands past the list, this sums up what the run leaves, too, and the summaries of the
-- run were freed. Else all is as before.
pub record IsChecked (number : ℕ) (listed more : List Entry) (old new : Window) (stands : Bool) : Type 0 where
  pub holds : IsTrue stands ↔ ((d : PendingRun) → HoldsPast listed (run_at old number d))
  pub summary : IsTrue stands → (d : PendingRun) → IsSummary more (listed ++ left_by (run_at old number d).sums)
  pub freed : IsTrue stands → IsFreedAt number old new
  pub same : stands ≡ false → (new ≡ old) × (more ≡ listed)
  pub kept : take (length listed) more ≡ listed

-- the runs past the first places begin the window, and no run past them is valid
pub record AreMovedUp (count : ℕ) (old new : Window) : Type 0 where
  pub first : new.first ≡ old.first
  pub all : length new.runs.items ≡ length old.runs.items
  pub flags : length new.valid.items ≡ length old.valid.items
  pub runs : (k : ℕ) (d : PendingRun) → count + k < length old.runs.items
      → slice_index_or new.runs.items k d ≡ slice_index_or old.runs.items (count + k) d
  pub valid : (k : ℕ) → slice_index_or new.valid.items k false ≡ slice_index_or old.valid.items (count + k) false

-- The records of the runs from one number on and before another were added to a list. The later runs are as they were, and none past
-- them is valid. The window begins no later than with the second number.
pub record AreSettled (from end : ℕ) (old new : Window) (before after : Vec Record Global) : Type 0 where
  pub first : new.first ≤ end
  pub flags : length new.valid.items ≡ length new.runs.items
  pub pushed : after.items ≡ before.items ++ map (λ r. r.tree) (runs_between old from end)
  pub same : (i : ℕ) (d : PendingRun) → end ≤ i → i < end_of old → run_at new i d ≡ run_at old i d
  pub valid : (i : ℕ) → end ≤ i → flag_at new i ≡ flag_at old i

-- only the runs before a number are left
pub record IsShortened (end : ℕ) (old new : Window) : Type 0 where
  pub first : new.first ≡ old.first
  pub runs : new.runs.items ≡ take (end - old.first) old.runs.items
  pub valid : new.valid.items ≡ take (end - old.first) old.valid.items

-- where it is to be so, the run with a number is valid, and all else is as before
pub record IsRenewed (number : ℕ) (again : Bool) (old new : Window) : Type 0 where
  pub first : new.first ≡ old.first
  pub runs : new.runs ≡ old.runs
  pub flags : length new.valid.items ≡ length old.valid.items
  pub others : (i : ℕ) → i ≢ number → old.first ≤ i → flag_at new i ≡ flag_at old i
  pub same : again ≡ false → new ≡ old

-- the numbers, each once, of the runs from one number on and before another that aren't valid
pub record AreMissing (window : Window) (from upto : ℕ) (numbers : List ℕ) : Type 0 where
  pub before : (i : ℕ) → i < from → times i numbers ≡ 0
  pub beyond : (i : ℕ) → upto ≤ i → times i numbers ≡ 0
  pub each : (i : ℕ) → from ≤ i → i < upto → times i numbers ≡ still_to_be_made (flag_at window i)
  pub few : length numbers + from ≤ upto

-- all transactions from b on and before a number keep, their runs can be committed, and the list sums up what they leave
pub record IsListedTo (batch : Batch) (b end : ℕ) (window : Window) (listed : List Entry) : Type 0 where
  pub begun : window.first ≤ b
  pub from : b ≤ end
  pub keep : AllKeep (start_of batch) (blocks_of batch) b end
  pub made : (i : ℕ) (d : PendingRun) → b ≤ i → i < end → IsCommittable (answer (start_of batch) (blocks_of batch) i) (run_at window i d)
  pub nets : IsSummary listed (nets (start_of batch) (blocks_of batch) b (end - b))

-- a block was checked up to its end or to the first conflict, from where on the runs are still pending
pub record IsBlockSeen (batch : Batch) (b end : ℕ) (window : Window) (nets : List Entry) (seen : FirstConflict) : Type 0 where
  pub within : seen.first ≤ end
  pub pending : IsWindowAt batch seen.first (state_at (start_of batch) (blocks_of batch) b) window
  pub upto : seen.upto ≤ length nets
  pub listed : IsListedTo batch b seen.first window (take seen.upto nets)
  pub conflict : seen.first < end → ¬ Keeps (start_of batch) (blocks_of batch) seen.first b
  pub all : seen.first ≡ end → seen.upto ≡ length nets

-- the round ends at the next opening, from where on the runs are still pending; the list begins with what its transactions leave
pub record IsRoundSeen (batch : Batch) (b : ℕ) (window : Window) (nets : List Entry) (seen : FirstConflict) : Type 0 where
  pub opening : IsNextOpening (start_of batch) (blocks_of batch) b seen.first
  pub pending : IsWindowAt batch seen.first (state_at (start_of batch) (blocks_of batch) b) window
  pub upto : seen.upto ≤ length nets
  pub listed : IsListedTo batch b seen.first window (take seen.upto nets)
  pub reached : seen.first ≤ end_of window

-- What is at hand at an opening: the objects are those after the committed transactions, whose records are those of one thread. The
-- list that the next round uses again is empty.
pub record IsOpening (batch : Batch) (at : Opening) : Type 0 where
  pub within : at.committed ≤ length (blocks_of batch)
  pub objects : at.objects ≡ state_at (start_of batch) (blocks_of batch) at.committed
  pub window : IsWindowAt batch at.committed at.objects at.window
  pub cleared : at.reused.nets ≡ []
  pub committed : map record_view at.records.items ≡ shown_from (start_of batch) (blocks_of batch) 0 at.committed
  pub few_rounds : at.rounds ≤ at.committed
  pub all_rounds : (more : ℕ) → RoundsFrom (start_of batch) (blocks_of batch) at.committed more
      → Rounds (start_of batch) (blocks_of batch) (at.rounds + more)

-- the entries of transaction i, run at opening b, commute forward with all that the round from b to m commits
abbrev pub Stands : Batch → ℕ → ℕ → ℕ → Type 0
Stands batch b m i = AllCommute (entries (record_of (alone (start_of batch) (blocks_of batch) i b)))
    (nets (start_of batch) (blocks_of batch) b (m - b))

-- A round leads from one opening to the next. Of the valid runs that it doesn't commit those stay so that hold past what it did.
pub record IsRound (batch : Batch) (old new : Opening) : Type 0 where
  pub next : IsNextOpening (start_of batch) (blocks_of batch) old.committed new.committed
  pub on : old.committed < new.committed
  pub one : new.rounds ≡ old.rounds + 1
  pub kept : (i : ℕ) → new.committed ≤ i → IsValid old.window i
      → (IsValid new.window i × Stands batch old.committed new.committed i)
      ⊎ ((flag_at new.window i ≡ false) × (¬ Stands batch old.committed new.committed i))

-- How often each run was made. Those of an opening that aren't valid count where they are made.
pub record AreCountsAt (batch : Batch) (b rounds : ℕ) (window : Window) (counts : List ℕ) : Type 0 where
  pub all : length counts ≡ length (blocks_of batch)
  pub few : (i : ℕ) → slice_index_or counts i 0 ≤ rounds
  pub committed : (i : ℕ) → i < b → Count (start_of batch) (blocks_of batch) i (slice_index_or counts i 0)
  pub pending : (i more : ℕ) → b ≤ i → i < length (blocks_of batch) → CountFrom (start_of batch) (blocks_of batch) i b (suc more)
      → Count (start_of batch) (blocks_of batch) i (slice_index_or counts i 0 + still_to_be_made (flag_at window i) + more)

-- so it is with the runs of the window at an opening
abbrev pub AreCountsOn : Batch → Opening → ℕ → List ℕ → Type 0
AreCountsOn batch at rounds counts = AreCountsAt batch at.committed rounds at.window counts

-- each transaction that isn't committed has a valid run
abbrev pub AllPending : Batch → Opening → Type 0
AllPending batch at = AllValid at.window at.committed (length (blocks_of batch))
