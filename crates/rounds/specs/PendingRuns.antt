-- Pending runs, what they leave, and those that were made. No public contract names it.
use Rattle.std.specs.Prelude.{◌≡◌, ⊤, ℕ, suc, ◌+◌, ◌<◌, Option, Some, None, List, [], ◌∷◌, ◌++◌, length, map}
use Rattle.std.specs.Prelude.{slice_index_or, IsTrue}
use Rattle.std.specs.List.{All}
use Rattle.std.specs.declared.vec.Vec.{Vec}
use Rattle.std.specs.declared.alloc.Global.{Global}
use Rattle.objects.specs.Entries.{State, AllCommute}
use Rattle.meaning.specs.Records.{Taken, entries}
use Rattle.meaning.specs.OneThread.{Execution, record_of}
use Rattle.meaning.specs.Batch.{net_of, shown_of, block_at}
use Rattle.claims.specs.Views.{times}
use Rattle.committed.specs.Summaries.{entries_of, IsSummary}
use Rattle.committed.specs.declared.marks.MarkedEntry.{MarkedEntry}
use Rattle.objects.specs.declared.entry.Entry.{Entry}
use Rattle.committed.specs.Spans.{AreIn}
use Rattle.rounds.specs.Views.{meaning}
use Rattle.rounds.specs.declared.pending_run.PendingRun.{PendingRun}
use Rattle.rounds.specs.declared.pending_run.Sums.{Sums}
use Rattle.rounds.specs.declared.pending_run.Net.{Net}
use Rattle.rounds.specs.declared.pending_run.Net.TheVariants.{Summed, Listed, Recorded}
use Rattle.intentions.specs.Levels.{listed_by}
use Rattle.intentions.specs.declared.view.NetList.{NetList}
use Rattle.meaning.specs.Trees.{Block}
use Rattle.batch.specs.Left.{left_by_transaction}
use Rattle.rounds.specs.declared.make.NumberedRun.{NumberedRun}
use Rattle.speculate.specs.declared.speculated.Run.{Run}
use Rattle.batch.specs.Views.{record_view}
use Rattle.batch.specs.declared.batch.Batch.{Batch}

-- the summary of a net, which is that of the entries where there is no other
abbrev pub left_or : List Entry → Option (Vec MarkedEntry Global) → List Entry
left_or entries None = entries
left_or entries (Some net) = entries_of net.items

abbrev pub left_by : Sums → List Entry
left_by sums = left_or (entries_of sums.entries.items) sums.of_net

-- a net in one of three places
abbrev pub net_in : List Entry → List Entry → Net → List Entry
net_in summed recorded Summed = summed
net_in summed recorded (Listed net) = net.items
net_in summed recorded Recorded = recorded

-- it isn't only in the record
abbrev pub IsListedNet : Net → Type 0
IsListedNet Summed = ⊤
IsListedNet (Listed net) = ⊤
IsListedNet Recorded = ⊥

-- the net of a run, and none where it is only in the record
abbrev pub listed_net : PendingRun → List Entry
listed_net run = net_in (left_by run.sums) [] run.net

-- the net of a run of this block
abbrev pub own_net : Block → PendingRun → List Entry
own_net block run = net_in (left_by run.sums) (left_by_transaction block (record_view run.tree)) run.net

-- the net of a run that lists it there
abbrev pub net_of_run : NetList → Run → List Entry
net_of_run listed run = listed_by listed run.entries.items run.net.items

-- summaries of these entries and of this net, which is all of the entries where it has no summary of its own
pub record AreSumsOf (sums : Sums) (entries net : List Entry) : Type 0 where
  pub whole : sums.of_net ≡ None → net ≡ entries
  pub entries_are : IsSummary (entries_of sums.entries.items) entries
  pub net_is : IsSummary (left_by sums) net

-- what a round commits of a run of a meaning: its record, its net and the span of it
pub record IsCommittable (meant : Execution Taken) (run : PendingRun) : Type 0 where
  pub tree : record_view run.tree ≡ shown_of meant
  pub net : IsListedNet run.net → listed_net run ≡ net_of meant
  pub span : AreIn run.span (net_of meant)

-- a pending run of a meaning: it can be committed, and has summaries of its entries and its net
pub record IsPendingOf (meant : Execution Taken) (run : PendingRun) : Type 0 where
  pub committable : IsCommittable meant run
  pub sums : AreSumsOf run.sums (entries (record_of meant)) (net_of meant)

-- what runs of the blocks from this number on leave, one after the other
abbrev pub own_nets : List Block → ℕ → List PendingRun → List Entry
own_nets blocks number [] = []
own_nets blocks number (run ∷ runs) = own_net (block_at blocks number) run ++ own_nets blocks (suc number) runs

-- its summaries
abbrev pub all_left : List PendingRun → List Entry
all_left [] = []
all_left (run ∷ runs) = left_by run.sums ++ all_left runs

-- each entry of the run's summary commutes forward with each of the list
abbrev pub HoldsPast : List Entry → PendingRun → Type 0
HoldsPast since run = AllCommute (entries_of run.sums.entries.items) since

-- the pending runs have the sums of these
pub record AreSummed (runs : List Run) (pending : List PendingRun) : Type 0 where
  pub all : length pending ≡ length runs
  pub each : (i : ℕ) (d : PendingRun) (r : Run) → i < length runs
      → AreSumsOf (slice_index_or pending i d).sums (slice_index_or runs i r).entries.items (slice_index_or runs i r).net.items

abbrev pub numbers_of : List NumberedRun → List ℕ
numbers_of = map (λ m. m.number)

-- the run holds past all of the list, which sums up what it leaves, too
abbrev pub Passes : List Entry → PendingRun → Type 0
Passes listed run = HoldsPast listed run × IsSummary listed (listed ++ left_by run.sums)

-- a run of its number on this state, which passes this list where it says so
abbrev pub IsMade : Batch → State → List Entry → NumberedRun → Type 0
IsMade batch state listed made = IsPendingOf (meaning batch made.number state) made.run.value
    × (IsTrue made.passes → Passes listed made.run.value)

-- a run for each of the numbers, in any order, made on this state, and looked at with this list
pub record AreMadeRuns (batch : Batch) (state : State) (listed : List Entry) (numbers : List ℕ) (made : List NumberedRun) : Type 0 where
  pub each : All (IsMade batch state listed) made
  pub dealt : (i : ℕ) → times i (numbers_of made) ≡ times i numbers

-- such runs were added to others
abbrev pub AreAdded : Batch → State → List Entry → List ℕ → List NumberedRun → List NumberedRun → Type 0
AreAdded batch state listed numbers before after =
    (own : List NumberedRun) × (after ≡ before ++ own) × AreMadeRuns batch state listed numbers own

-- what each run leaves is in its span; they are of the blocks from this number on
abbrev pub AreSpanned : List Block → ℕ → List PendingRun → Type 0
AreSpanned blocks number runs = (k : ℕ) (d : PendingRun) → k < length runs
    → AreIn (slice_index_or runs k d).span (own_net (block_at blocks (number + k)) (slice_index_or runs k d))
