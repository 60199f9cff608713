-- Where the parts of a tree can be run.
use Rattle.std.specs.Prelude.{◌≡◌, List, ◌++◌, Option, Some, None}
use Rattle.meaning.specs.declared.held.Held.{Held}
use Rattle.objects.specs.Entries.{State, kinds}
use Rattle.meaning.specs.Trees.{Block, Step, Handlers, Children}
use Rattle.meaning.specs.Records.{TakenChild, TakenHandler, NoHandler, Handled}
use Rattle.meaning.specs.Shown.{Shown, shown}
use Rattle.meaning.specs.OneThread.{Execution, act, one, one_handler}
use Rattle.meaning.specs.WellFormed.{Label, IsWellFormed, IsWellFormedStep, AreWellFormedHandlers, AreWellFormed, operations}
use Rattle.meaning.specs.WellFormed.{operations_of_step, operations_of_handlers, operations_of_children, StateHasRoom}
use Rattle.meaning.specs.Running.{AreHeldBy}
use Rattle.batch.specs.Views.{Tried}

-- a part of a tree can be run on this state, where these labels are seen and hold what they can
pub record CanRunHere (block : Block) (held : List Held) (state : State) : Type 0 where
  pub labels : List Label
  pub held_by : AreHeldBy held labels
  pub well_formed : IsWellFormed block labels (kinds state)
  pub room : StateHasRoom state (operations block)

pub record CanStepHere (step : Step) (held : List Held) (state : State) : Type 0 where
  pub labels : List Label
  pub held_by : AreHeldBy held labels
  pub well_formed : IsWellFormedStep step labels (kinds state)
  pub room : StateHasRoom state (operations_of_step step)

pub record CanHandleHere (handlers : Handlers) (held : List Held) (state : State) : Type 0 where
  pub labels : List Label
  pub held_by : AreHeldBy held labels
  pub well_formed : AreWellFormedHandlers handlers labels (kinds state)
  pub room : StateHasRoom state (operations_of_handlers handlers)

pub record CanTryHere (child : Tried) (held : List Held) (state : State) : Type 0 where
  pub body : CanRunHere child.body held state
  pub handlers : CanHandleHere child.handlers held state

pub record CanRunAllHere (children : Children) (held : List Held) (state : State) : Type 0 where
  pub labels : List Label
  pub held_by : AreHeldBy held labels
  pub well_formed : AreWellFormed children labels (kinds state)
  pub room : StateHasRoom state (operations_of_children children)

-- the labels of before are seen still, and maybe more
abbrev pub StillSeen : List Held → List Held → Type 0
StillSeen before now = (more : List Held) × (now ≡ before ++ more)

-- what one thread does with a subaction
abbrev pub acted : Tried → List Held → State → Execution TakenChild
acted child held state = act child.labelled (one child.body held state) (one_handler child.handlers held) state

-- what a handler that ran shows
abbrev pub shown_handler : TakenHandler → Option Shown
shown_handler NoHandler = None
shown_handler (Handled handler outcome) = Some (shown handler outcome)
