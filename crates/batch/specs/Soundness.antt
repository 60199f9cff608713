-- What no run meets: a call that doesn't fit or lacks room, and a test whose label is unbound or holds what the test doesn't fit.
use Rattle.std.specs.Prelude.{◌≡◌, ◌<◌, ℕ, List, [], ◌++◌, length, ⊤}
use Rattle.meaning.specs.declared.end.End.TheVariants.{Ended}
use Rattle.meaning.specs.declared.held.Held.{Held}
use Rattle.objects.specs.Entries.{State}
use Rattle.meaning.specs.Trees.{Block, NoStep, Steps, Step, Operation, Fill, If, Subaction, Abort, Parallel, Handlers, ForReason, Otherwise}
use Rattle.meaning.specs.Trees.{GoOn, Pass, Children, NoChild, Child}
use Rattle.std.specs.Option.{ForSome}
use Rattle.meaning.specs.Filling.{fill}
use Rattle.meaning.specs.OneThread.{outcome_of, labels_of, state_of, act, one, one_step, one_handler}
use Rattle.meaning.specs.Batch.{block_at, state_at}
use Rattle.meaning.specs.Running.{CanPerform, IsBound, AreArgumentsBound}
use Rattle.batch.specs.Names.{Texts}
use Rattle.batch.specs.Limits.{IsBatch}
use Rattle.batch.specs.Running.{CanRunHere}

abbrev mutual
  -- wherever the block comes on this state, where these labels are seen
  pub IsSound : Block → List Held → State → Type 0
  IsSound NoStep held state = ⊤
  IsSound (Steps step rest) held state =
      IsSoundStep step held state
      × (outcome_of (one_step step held state) ≡ Ended → IsSound rest (held ++ labels_of (one_step step held state))
      (state_of (one_step step held state)))

  pub IsSoundStep : Step → List Held → State → Type 0
  IsSoundStep (Operation object call labelled) held state = CanPerform state object call
  IsSoundStep (Fill object template labelled refusal) held state =
      AreArgumentsBound held template × ForSome (fill held template) (CanPerform state object)
  IsSoundStep (If label test then else) held state = IsBound held label test × IsSound then held state × IsSound else held state
  IsSoundStep (Subaction body handlers labelled) held state = IsSound body held state × AreSoundHandlers handlers held state
  IsSoundStep (Abort reason) held state = ⊤
  IsSoundStep (Parallel children) held state = AreSound children held state

  pub AreSoundHandlers : Handlers → List Held → State → Type 0
  AreSoundHandlers (ForReason reason handler others) held state = IsSound handler held state × AreSoundHandlers others held state
  AreSoundHandlers (Otherwise handler) held state = IsSound handler held state
  AreSoundHandlers GoOn held state = ⊤
  AreSoundHandlers Pass held state = ⊤

  pub AreSound : Children → List Held → State → Type 0
  AreSound NoChild held state = ⊤
  AreSound (Child body handlers labelled younger) held state =
      IsSound body held state × AreSoundHandlers handlers held state
      × AreSound younger held (state_of (act labelled (one body held state) (one_handler handlers held) state))

abbrev pub SoundnessLaw : Type 0
SoundnessLaw = (block : Block) (held : List Held) (state : State) → CanRunHere block held state → IsSound block held state

-- So each transaction of a batch, where those before it lead.
abbrev pub BatchSoundnessLaw : Type 0
BatchSoundnessLaw =
    (version : ℕ) (start : State) (texts : Texts) (blocks : List Block) (i : ℕ)
    → IsBatch version start texts blocks
    → i < length blocks
    → IsSound (block_at blocks i) [] (state_at start blocks i)
