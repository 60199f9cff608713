-- The laws of the meaning, as statements.
use Rattle.std.specs.Prelude.{◌≡◌, ℕ, ◌+◌, ◌-◌, ◌<◌, ◌≤◌, List, ◌++◌, length, Option}
use Rattle.objects.specs.declared.entry.Entry.{Entry}
use Rattle.meaning.specs.declared.end.End.TheVariants.{Ended, Aborted}
use Rattle.objects.specs.Entries.{State, AreLegal, after, AllCommute}
use Rattle.meaning.specs.Trees.{Block, Children, NoChild, Child}
use Rattle.meaning.specs.declared.held.Held.{Held}
use Rattle.meaning.specs.Records.{TakenChildren, entries, entries_of_children, kept, kept_of_children}
use Rattle.meaning.specs.OneThread.{Execution, Ran, record_of, outcome_of, labels_of, state_of, one, one_children}
use Rattle.meaning.specs.Batch.{state_at, alone, answer, nets, run_nets}
use Rattle.meaning.specs.Rounds.{Keeps, AllKeep, IsNextOpening, Rounds, Count}

-- a run as it is made on the state after these entries
abbrev pub carried : {A : Type 0} → List Entry → Execution A → Execution A
carried committed run = Ran (record_of run) (outcome_of run) (labels_of run) (after (state_of run) committed)

-- the children of one list, and then those of another
abbrev pub both : Children → Children → Children
both NoChild younger = younger
both (Child body handlers labelled rest) younger = Child body handlers labelled (both rest younger)

abbrev pub both_taken : TakenChildren → TakenChildren → TakenChildren
both_taken TakenChildren.NoChild younger = younger
both_taken (TakenChildren.Child child rest) younger = TakenChildren.Child child (both_taken rest younger)

-- the runs of two lists of children as one, the later one made where the earlier one ends
abbrev pub followed : Execution TakenChildren → Execution TakenChildren → Execution TakenChildren
followed older younger = Ran (both_taken (record_of older) (record_of younger)) (outcome_of younger) (labels_of older ++ labels_of younger)
    (state_of younger)

-- the runs of two lists of children as one, both made on the state before the first
abbrev pub one_after_other : Execution TakenChildren → Execution TakenChildren → Execution TakenChildren
one_after_other older younger = followed older (carried (kept_of_children (record_of older)) younger)

-- A block is run on a state in which a list of entries is legal, and each entry of the run, dropped ones too, commutes
-- forward with each of the list.
-- Then the run on the state after the list has the same record and outcome, the list is legal where the first run ends,
-- and the second ends where that list leads from there.
abbrev pub ShiftLaw : Type 0
ShiftLaw =
    (block : Block) (labels : List Held) (state : State) (committed : List Entry)
    → AreLegal state committed
    → AllCommute (entries (record_of (one block labels state))) committed
    → AreLegal (state_of (one block labels state)) committed
    × (record_of (one block labels (after state committed)) ≡ record_of (one block labels state))
    × (outcome_of (one block labels (after state committed)) ≡ outcome_of (one block labels state))
    × (state_of (one block labels (after state committed)) ≡ after (state_of (one block labels state)) committed)

-- The shift law of a list of children, with the labels that they add.
abbrev pub ChildrenShiftLaw : Type 0
ChildrenShiftLaw =
    (children : Children) (labels : List Held) (state : State) (committed : List Entry)
    → AreLegal state committed
    → AllCommute (entries_of_children (record_of (one_children children labels state))) committed
    → AreLegal (state_of (one_children children labels state)) committed
    × (one_children children labels (after state committed) ≡ carried committed (one_children children labels state))

-- What a run keeps is legal where it began and leads to where it came.
abbrev pub NetLaw : Type 0
NetLaw =
    (block : Block) (labels : List Held) (state : State)
    → AreLegal state (kept (record_of (one block labels state)))
    × (state_of (one block labels state) ≡ after state (kept (record_of (one block labels state))))

-- What the runs of a list of children keep is legal where they began and leads to where they came.
abbrev pub ChildrenNetLaw : Type 0
ChildrenNetLaw =
    (children : Children) (labels : List Held) (state : State)
    → AreLegal state (kept_of_children (record_of (one_children children labels state)))
    × (state_of (one_children children labels state) ≡ after state (kept_of_children (record_of (one_children children labels state))))

-- The state after the first b and count more transactions is the one after the first b, and then what the count leave.
abbrev pub BatchLaw : Type 0
BatchLaw =
    (start : State) (batch : List Block) (b count : ℕ)
    → AreLegal (state_at start batch b) (nets start batch b count)
    × (state_at start batch (b + count) ≡ after (state_at start batch b) (nets start batch b count))

-- A run on the state of an earlier opening is still valid at a later one where each of its entries commutes forward with what was left in
-- between.
-- Then the run on the later state has the same record and outcome, and ends where what was left leads from the first one's end.
abbrev pub StandingRunLaw : Type 0
StandingRunLaw =
    (start : State) (batch : List Block) (i b count : ℕ)
    → AllCommute (entries (record_of (alone start batch i b))) (nets start batch b count)
    → (record_of (alone start batch i (b + count)) ≡ record_of (alone start batch i b))
    × (outcome_of (alone start batch i (b + count)) ≡ outcome_of (alone start batch i b))
    × (state_of (alone start batch i (b + count)) ≡ after (state_of (alone start batch i b)) (nets start batch b count))

-- A run that keeps is the run of one thread.
abbrev pub KeptRunLaw : Type 0
KeptRunLaw =
    (start : State) (batch : List Block) (i b : ℕ)
    → b ≤ i
    → Keeps start batch i b
    → (record_of (answer start batch i) ≡ record_of (alone start batch i b))
    × (outcome_of (answer start batch i) ≡ outcome_of (alone start batch i b))
    × (state_of (answer start batch i) ≡ after (state_of (alone start batch i b)) (nets start batch b (i - b)))

-- Where all from b on and before number b + count keep, their runs on the state of the opening leave what their one-thread runs do.
abbrev pub RunNetsLaw : Type 0
RunNetsLaw =
    (start : State) (batch : List Block) (b count : ℕ)
    → AllKeep start batch b (b + count)
    → run_nets start batch b b count ≡ nets start batch b count

-- Children are run one after the other.
abbrev pub InOrderLaw : Type 0
InOrderLaw =
    (older younger : Children) (labels : List Held) (state : State)
    → outcome_of (one_children older labels state) ≡ Ended
    → one_children (both older younger) labels state ≡ followed (one_children older labels state)
    (one_children younger labels (state_of (one_children older labels state)))

-- Children may be run in two parts at once, both on the state at their entry. Where the earlier part comes to its end, and each entry of
-- the later part commutes forward with each that the earlier part leaves, the two together are the one-thread run.
abbrev pub ForkLaw : Type 0
ForkLaw =
    (older younger : Children) (labels : List Held) (state : State)
    → outcome_of (one_children older labels state) ≡ Ended
    → AllCommute (entries_of_children (record_of (one_children younger labels state)))
    (kept_of_children (record_of (one_children older labels state)))
    → one_children (both older younger) labels state ≡ one_after_other (one_children older labels state) (one_children younger labels state)

-- Where the earlier part aborts, the later part is not reached.
abbrev pub AbortedForkLaw : Type 0
AbortedForkLaw =
    (older younger : Children) (labels : List Held) (state : State) (reason : Option ℕ)
    → outcome_of (one_children older labels state) ≡ Aborted reason
    → one_children (both older younger) labels state ≡ one_children older labels state

-- There is exactly one value with the property.
pub record IsUnique (P : ℕ → Type 0) : Type 0 where
  pub value : ℕ
  pub has : P value
  pub only : (other : ℕ) → P other → other ≡ value

-- There is one next opening below the end of the batch, and it lies further on.
abbrev pub OpeningLaw : Type 0
OpeningLaw =
    (start : State) (batch : List Block) (b : ℕ)
    → b < length batch
    → IsUnique (IsNextOpening start batch b) × ((m : ℕ) → IsNextOpening start batch b m → b < m)

-- The next opening is the first transaction that doesn't keep, or the end.
abbrev pub FirstConflictLaw : Type 0
FirstConflictLaw =
    (start : State) (batch : List Block) (b m : ℕ)
    → b ≤ m
    → m ≤ length batch
    → AllKeep start batch b m
    → (m < length batch → ¬ Keeps start batch m b)
    → IsNextOpening start batch b m

-- There is one number of rounds, at most the number of transactions.
abbrev pub RoundsLaw : Type 0
RoundsLaw =
    (start : State) (batch : List Block)
    → IsUnique (Rounds start batch) × ((rounds : ℕ) → Rounds start batch rounds → rounds ≤ length batch)

-- There is one run count of each transaction.
abbrev pub CountLaw : Type 0
CountLaw = (start : State) (batch : List Block) (i : ℕ) → i < length batch → IsUnique (Count start batch i)
