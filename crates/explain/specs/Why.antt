-- Why a batch takes so many rounds: for each round but the last, the first conflict, which ends it.
use Rattle.std.specs.Prelude.{◌≡◌, ℕ, zero, suc, ◌+◌, ◌-◌, ◌<◌, ◌&&◌, Bool, true, false, List, [], ◌∷◌, ◌++◌, length, codes}
use Rattle.std.specs.List.{All, filter}
use Rattle.std.specs.Fmt.{decimal}
use Rattle.objects.specs.Entries.{State, CommuteForward, CommutesWith}
use Rattle.objects.specs.declared.entry.Entry.{Entry}
use Rattle.meaning.specs.declared.end.End.{End}
use Rattle.meaning.specs.declared.end.End.TheVariants.{Ended, Aborted}
use Rattle.meaning.specs.Trees.{Block, NoStep, Steps, Step, Operation, Fill, If, Subaction, Parallel, Handlers, Children}
use Rattle.meaning.specs.Shown.{Shown, AtEnd, First, ShownStep, Replied, Filled, Branched, Acted, InParallel, ShownChild, Body}
use Rattle.meaning.specs.Shown.{BodyAndHandler, ShownChildren, end_of}
use Rattle.meaning.specs.OneThread.{outcome_of}
use Rattle.meaning.specs.Batch.{block_at, shown_of, alone, nets}
use Rattle.meaning.specs.Rounds.{IsNextOpening}
use Rattle.meaning.specs.Words.{Naming, call_text, reply_text}
use Rattle.meaning.specs.Texts.{line, part, branch_path, branch_of, handler_path, handler_block, reason_of}

-- an operation of a run with the path of its step, and whether the run leaves it
pub record PlacedEntry : Type 0 where
  pub path : List ℕ
  pub entry : Entry
  pub left : Bool

abbrev pub has_ended : End → Bool
has_ended Ended = true
has_ended (Aborted reason) = false

abbrev mutual
  -- the operations of the steps of a block from the n-th on. Those of an aborted body are not left; none is where `left` is false
  pub placed : Naming → List ℕ → ℕ → Bool → Block → Shown → List PlacedEntry
  placed names path n left (Steps step rest) (First done others) =
      placed_step names (part path n) left step done ++ placed names path (n + 1) left rest others
  placed names path n left NoStep (First done others) = []
  placed names path n left block (AtEnd outcome) = []

  pub placed_step : Naming → List ℕ → Bool → Step → ShownStep → List PlacedEntry
  placed_step names path left (Operation object call labelled) (Replied reply) =
      record { path = path; entry = record { object = object; call = call; reply = reply }; left = left } ∷ []
  placed_step names path left (Fill object template labelled refusal) (Filled call reply) =
      record { path = path; entry = record { object = object; call = call; reply = reply }; left = left } ∷ []
  placed_step names path left (If label test then else) (Branched chosen branch) =
      placed names (branch_path path chosen) 1 left (branch_of chosen then else) branch
  placed_step names path left (Subaction body handlers labelled) (Acted done) = placed_child names path left body handlers done
  placed_step names path left (Parallel children) (InParallel done) = placed_children names path 1 left children done
  placed_step names path left step done = []

  pub placed_child : Naming → List ℕ → Bool → Block → Handlers → ShownChild → List PlacedEntry
  placed_child names path left block handlers (Body body) =
      placed names (path ++ codes ".b") 1 (left && has_ended (end_of body)) block body
  placed_child names path left block handlers (BodyAndHandler body handler) =
      placed names (path ++ codes ".b") 1 (left && has_ended (end_of body)) block body
      ++ placed names (handler_path names path handlers (reason_of (end_of body))) 1 left (handler_block handlers (reason_of (end_of body)))
      handler

  -- those of the children of a step from the n-th on
  pub placed_children : Naming → List ℕ → ℕ → Bool → Children → ShownChildren → List PlacedEntry
  placed_children names path n left (Children.Child body handlers labelled younger) (ShownChildren.Child done others) =
      placed_child names (part path n) left body handlers done ++ placed_children names path (n + 1) left younger others
  placed_children names path n left Children.NoChild (ShownChildren.Child done others) = []
  placed_children names path n left children ShownChildren.NoChild = []

-- the first of the list of which the property doesn't hold
pub record IsFirstWithout {A : Type 0} (P : A → Type 0) (xs : List A) (x : A) : Type 0 where
  pub before : List A
  pub after : List A
  pub is : xs ≡ before ++ x ∷ after
  pub clear : All P before
  pub without : ¬ P x

abbrev pub place_text : Naming → PlacedEntry → List ℕ
place_text names p =
    p.path ++ codes " " ++ names.object p.entry.object ++ codes " " ++ call_text names p.entry.call ++ codes " = "
    ++ reply_text names p.entry.reply

abbrev pub why_line : Naming → ℕ → PlacedEntry → PlacedEntry → List ℕ
why_line names round late early =
    line (codes "why " ++ decimal round ++ codes " " ++ place_text names late ++ codes " after " ++ place_text names early)

module _ (names : Naming) (start : State) (batch : List Block) where
  -- the operations of transaction i (from 0), run on the state after the first b
  abbrev pub placed_run : ℕ → ℕ → List PlacedEntry
  placed_run i b =
      placed names (decimal (i + 1)) 1 (has_ended (outcome_of (alone start batch i b))) (block_at batch i)
      (shown_of (alone start batch i b))

  -- those that the runs of count transactions from number i on leave
  unfoldable pub placed_nets : ℕ → ℕ → ℕ → List PlacedEntry
  placed_nets b i zero = []
  placed_nets b i (suc count) = filter (λ p. p.left) (placed_run i b) ++ placed_nets b (suc i) count

  -- what ends the round from opening b before transaction m
  pub record IsConflict (b m : ℕ) (late early : PlacedEntry) : Type 0 where
    -- the first operation of its run that doesn't commute forward with all that the runs before it leave
    pub late_is : IsFirstWithout (λ p. CommutesWith p.entry (nets start batch b (m - b))) (placed_run m b) late
    -- and the earliest of these that it doesn't commute forward with
    pub early_is : IsFirstWithout (λ p. CommuteForward late.entry p.entry) (placed_nets b b (m - b)) early

  -- the lines of the rounds from opening b on, the first of which has this number
  pub data WhyFrom : ℕ → ℕ → List ℕ → Type 0 where
    IsLast : {b round : ℕ} → IsNextOpening start batch b (length batch) → WhyFrom b round []
    IsEnded : {b m round : ℕ} {late early : PlacedEntry} {text : List ℕ} → IsNextOpening start batch b m → m < length batch
        → IsConflict b m late early → WhyFrom m (round + 1) text → WhyFrom b round (why_line names round late early ++ text)

  -- the lines of all rounds
  abbrev pub IsWhyText : List ℕ → Type 0
  IsWhyText = WhyFrom 0 1
