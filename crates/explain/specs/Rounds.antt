-- What is known of the runs of a round. No public contract names it.
use Rattle.std.specs.Prelude.{◌≡◌, ℕ, ◌+◌, ◌<◌, ◌≤◌, Bool, true, false, List, ◌++◌, length, Option, Some, None, slice_index_or}
use Rattle.std.specs.List.{All, filter}
use Rattle.objects.specs.Entries.{State, AllCommute, CommuteForward}
use Rattle.objects.specs.declared.entry.Entry.{Entry}
use Rattle.meaning.specs.Batch.{state_at, alone, nets}
use Rattle.meaning.specs.Rounds.{IsNextOpening}
use Rattle.batch.specs.Names.{names_of}
use Rattle.batch.specs.Parts.{start_of, blocks_of}
use Rattle.batch.specs.declared.batch.Batch.{Batch}
use Rattle.speculate.specs.Runs.{IsRunOf}
use Rattle.speculate.specs.declared.speculated.Run.{Run}
use Rattle.explain.specs.Why.{PlacedEntry, IsFirstWithout, IsConflict, IsWhyText, WhyFrom, place_text, placed_run, placed_nets, why_line}
use Rattle.explain.specs.declared.round.Round.{Round}

-- the runs of the transactions from number b on, on the state after the first b
abbrev pub AreRuns : Batch → ℕ → List Run → Type 0
AreRuns batch b runs = (k : ℕ) (d : Run) → k < length runs → IsRunOf (alone (start_of batch) (blocks_of batch) (b + k) b)
    (slice_index_or runs k d)

-- the run of transaction m on that state doesn't stand past these entries
pub record IsStopped (batch : Batch) (b m : ℕ) (round : Round) (run : Run) : Type 0 where
  pub within : m < length (blocks_of batch)
  pub run_is : IsRunOf (alone (start_of batch) (blocks_of batch) m b) run
  pub stops : ¬ AllCommute run.entries.items round.nets

abbrev pub IsStoppedBy : Batch → ℕ → ℕ → Round → Option Run → Type 0
IsStoppedBy batch b m round None = m ≡ length (blocks_of batch)
IsStoppedBy batch b m round (Some run) = IsStopped batch b m round run

-- the round from opening b on
pub record IsRoundAt (batch : Batch) (b : ℕ) (round : Round) : Type 0 where
  pub opens : IsNextOpening (start_of batch) (blocks_of batch) b (b + length round.passed.items)
  pub passed_are : AreRuns batch b round.passed.items
  pub nets_are : round.nets ≡ nets (start_of batch) (blocks_of batch) b (length round.passed.items)
  pub stopped : IsStoppedBy batch b (b + length round.passed.items) round round.conflict

-- the text goes on with the first operation that run i from opening b on leaves with which an entry doesn't commute forward
pub record IsEarly (batch : Batch) (b i : ℕ) (late : Entry) (old new : List ℕ) : Type 0 where
  pub early : PlacedEntry
  pub is : IsFirstWithout (λ p. CommuteForward late p.entry)
      (filter (λ p. p.left) (placed_run (names_of batch.names) (start_of batch) (blocks_of batch) i b)) early
  pub text : new ≡ old ++ place_text (names_of batch.names) early

-- there is none, and the text stays
pub record IsNoneEarly (batch : Batch) (b i : ℕ) (late : Entry) (old new : List ℕ) : Type 0 where
  pub none : All (λ p. CommuteForward late p.entry)
      (filter (λ p. p.left) (placed_run (names_of batch.names) (start_of batch) (blocks_of batch) i b))
  pub text : new ≡ old

-- whether there is one
abbrev pub HasEarly : Batch → ℕ → ℕ → Entry → List ℕ → List ℕ → Bool → Type 0
HasEarly batch b i late old new true = IsEarly batch b i late old new
HasEarly batch b i late old new false = IsNoneEarly batch b i late old new

-- the text goes on with the earliest operation that count runs from opening b on leave with which an entry doesn't commute forward
pub record IsEarliest (batch : Batch) (b count : ℕ) (late : Entry) (old new : List ℕ) : Type 0 where
  pub early : PlacedEntry
  pub is : IsFirstWithout (λ p. CommuteForward late p.entry)
      (placed_nets (names_of batch.names) (start_of batch) (blocks_of batch) b b count) early
  pub text : new ≡ old ++ place_text (names_of batch.names) early

-- the text goes on with the line of the round from opening b on, which ends before m
pub record IsWritten (batch : Batch) (b m number : ℕ) (old new : List ℕ) : Type 0 where
  pub late : PlacedEntry
  pub early : PlacedEntry
  pub is : IsConflict (names_of batch.names) (start_of batch) (blocks_of batch) b m late early
  pub text : new ≡ old ++ why_line (names_of batch.names) number late early

-- opening b was reached, with the lines of the rounds before it
pub record HasReached (batch : Batch) (b number : ℕ) (state : State) (text : List ℕ) : Type 0 where
  pub within : b ≤ length (blocks_of batch)
  pub few : number ≤ b + 1
  pub reached : state ≡ state_at (start_of batch) (blocks_of batch) b
  pub goes_on : (rest : List ℕ) → WhyFrom (names_of batch.names) (start_of batch) (blocks_of batch) b number rest
      → IsWhyText (names_of batch.names) (start_of batch) (blocks_of batch) (text ++ rest)

-- whether the round from opening b on isn't the last: the next opening was reached, or the lines are whole
abbrev pub HasPassed : Batch → ℕ → ℕ → Round → State → List ℕ → Bool → Type 0
HasPassed batch b number round state text true =
    (0 < length round.passed.items) × HasReached batch (b + length round.passed.items) (number + 1) state text
HasPassed batch b number round state text false = IsWhyText (names_of batch.names) (start_of batch) (blocks_of batch) text
