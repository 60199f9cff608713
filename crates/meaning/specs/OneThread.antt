-- What one thread does with a block, depth first.
use Rattle.std.specs.Prelude.{ℕ, List, [], ◌∷◌, ◌++◌, Bool, true, false, Option, Some, None, ◌==◌}
use Rattle.objects.specs.declared.kind.Call.{Call}
use Rattle.objects.specs.declared.kind.Reply.{Reply}
use Rattle.meaning.specs.declared.end.End.{End}
use Rattle.meaning.specs.declared.end.End.TheVariants.{Ended, Aborted}
use Rattle.objects.specs.Entries.{State, reply_at, after_call}
use Rattle.meaning.specs.Trees.{Block, NoStep, Steps, Step, Operation, Fill, If, Subaction, Abort, Parallel, Handlers, ForReason, Otherwise}
use Rattle.meaning.specs.Trees.{GoOn, Pass, Children, NoChild, Child}
use Rattle.meaning.specs.Labels.{holds}
use Rattle.meaning.specs.Filling.{end_after, fill, reason_for}
use Rattle.meaning.specs.declared.template.Refusal.{Refusal}
use Rattle.meaning.specs.declared.held.Held.{Held}
use Rattle.meaning.specs.declared.held.Held.TheVariants.{Replied, Outcome}
use Rattle.meaning.specs.Records.{Taken, Nothing, Took, TakenStep, Performed, Filled, Branched, Acted, InParallel, TakenChild, Committed}
use Rattle.meaning.specs.Records.{Undone, TakenHandler, NoHandler, Handled, TakenChildren}

-- what was done: its record, how it ended, the labels that it adds, and the state that it leaves
pub data Execution (A : Type 0) : Type 0 where
  Ran : (taken : A) (outcome : End) (labels : List Held) (state : State) → Execution A

abbrev pub record_of : {A : Type 0} → Execution A → A
record_of (Ran taken outcome labels state) = taken

abbrev pub outcome_of : {A : Type 0} → Execution A → End
outcome_of (Ran taken outcome labels state) = outcome

abbrev pub labels_of : {A : Type 0} → Execution A → List Held
labels_of (Ran taken outcome labels state) = labels

abbrev pub state_of : {A : Type 0} → Execution A → State
state_of (Ran taken outcome labels state) = state

abbrev pub label_if : Bool → Held → List Held
label_if true held = held ∷ []
label_if false held = []

-- an operation: its reply is recorded. A call that doesn't fit aborts; no batch that is read has one
abbrev pub operate : ℕ → Call → Bool → State → Option Reply → Execution TakenStep
operate object call labelled state None = Ran TakenStep.Abort (Aborted None) [] state
operate object call labelled state (Some reply) =
    Ran (Performed (record { object = object; call = call; reply = reply })) Ended (label_if labelled (Replied reply))
    (after_call state object call)

-- An operation whose call was made when it was reached: its record keeps the call, and a refusal may abort its block.
abbrev pub operate_made : ℕ → Call → Bool → Refusal → State → Option Reply → Execution TakenStep
operate_made object call labelled refusal state None = Ran TakenStep.Abort (Aborted None) [] state
operate_made object call labelled refusal state (Some reply) =
    Ran (Filled (record { object = object; call = call; reply = reply })) (end_after refusal reply)
    (label_if labelled (Replied reply)) (after_call state object call)

-- where no call could be made, the step aborts
abbrev pub operate_filled : ℕ → Bool → Refusal → State → Option Call → Execution TakenStep
operate_filled object labelled refusal state None = Ran TakenStep.Abort (Aborted (reason_for refusal)) [] state
operate_filled object labelled refusal state (Some call) =
    operate_made object call labelled refusal state (reply_at state object call)

-- a branch that aborts makes its block abort; its labels are forgotten
abbrev pub as_branch : Bool → Execution Taken → Execution TakenStep
as_branch then branch = Ran (Branched then (record_of branch) (outcome_of branch)) (outcome_of branch) [] (state_of branch)

abbrev pub choose : Bool → (State → Execution Taken) → (State → Execution Taken) → State → Execution TakenStep
choose true then else state = as_branch true (then state)
choose false then else state = as_branch false (else state)

-- a handler that aborts makes its block abort; its labels are forgotten
abbrev pub as_handler : Execution Taken → Execution TakenHandler
as_handler handler = Ran (Handled (record_of handler) (outcome_of handler)) (outcome_of handler) [] (state_of handler)

abbrev pub is_for : ℕ → Option ℕ → Bool
is_for reason None = false
is_for reason (Some other) = reason == other

abbrev pub choose_handler : Bool → (State → Execution Taken) → (State → Execution TakenHandler) → State → Execution TakenHandler
choose_handler true handler others state = as_handler (handler state)
choose_handler false handler others state = others state

-- where the body aborts, the handlers go on from the state before the body
abbrev pub after_abort : Bool → Taken → Option ℕ → Execution TakenHandler → Execution TakenChild
after_abort labelled body reason handler =
    Ran (Undone body reason (record_of handler)) (outcome_of handler) (label_if labelled (Outcome (Aborted reason))) (state_of handler)

abbrev pub act : Bool → Execution Taken → (Option ℕ → State → Execution TakenHandler) → State → Execution TakenChild
act labelled (Ran body Ended labels after_body) handlers state = Ran (Committed body) Ended (label_if labelled (Outcome Ended)) after_body
act labelled (Ran body (Aborted reason) labels after_body) handlers state = after_abort labelled body reason (handlers reason state)

abbrev pub as_step : {A : Type 0} → (A → TakenStep) → Execution A → Execution TakenStep
as_step step run = Ran (step (record_of run)) (outcome_of run) (labels_of run) (state_of run)

-- after a step the block goes on with that step's labels, unless it aborted
abbrev pub before_rest : TakenStep → Execution Taken → Execution Taken
before_rest step rest = Ran (Took step (record_of rest)) (outcome_of rest) [] (state_of rest)

abbrev pub go_on : Execution TakenStep → (List Held → State → Execution Taken) → Execution Taken
go_on (Ran step Ended labels state) rest = before_rest step (rest labels state)
go_on (Ran step (Aborted reason) labels state) rest = Ran (Took step Nothing) (Aborted reason) [] state

-- after a child its later siblings are run, unless its handlers aborted
abbrev pub before_younger : TakenChild → List Held → Execution TakenChildren → Execution TakenChildren
before_younger child labels younger =
    Ran (TakenChildren.Child child (record_of younger)) (outcome_of younger) (labels ++ labels_of younger) (state_of younger)

abbrev pub go_on_children : Execution TakenChild → (State → Execution TakenChildren) → Execution TakenChildren
go_on_children (Ran child Ended labels state) younger = before_younger child labels (younger state)
go_on_children (Ran child (Aborted reason) labels state) younger = Ran (TakenChildren.Child child TakenChildren.NoChild)
    (Aborted reason) [] state

unfoldable mutual
  pub one : Block → List Held → State → Execution Taken
  one NoStep labels state = Ran Nothing Ended [] state
  one (Steps step rest) labels state = go_on (one_step step labels state) (λ added after_step. one rest (labels ++ added) after_step)

  pub one_step : Step → List Held → State → Execution TakenStep
  one_step (Operation object call labelled) labels state = operate object call labelled state (reply_at state object call)
  one_step (Fill object template labelled refusal) labels state = operate_filled object labelled refusal state (fill labels template)
  one_step (If label test then else) labels state = choose (holds labels label test) (one then labels) (one else labels) state
  one_step (Subaction body handlers labelled) labels state =
      as_step Acted (act labelled (one body labels state) (one_handler handlers labels) state)
  one_step (Abort reason) labels state = Ran TakenStep.Abort (Aborted reason) [] state
  one_step (Parallel children) labels state = as_step InParallel (one_children children labels state)

  -- the handler that takes an abort for this reason
  pub one_handler : Handlers → List Held → Option ℕ → State → Execution TakenHandler
  one_handler (ForReason reason handler others) labels aborted state =
      choose_handler (is_for reason aborted) (one handler labels) (one_handler others labels aborted) state
  one_handler (Otherwise handler) labels aborted state = as_handler (one handler labels state)
  one_handler GoOn labels aborted state = Ran NoHandler Ended [] state
  one_handler Pass labels aborted state = Ran NoHandler (Aborted aborted) [] state

  pub one_children : Children → List Held → State → Execution TakenChildren
  one_children NoChild labels state = Ran TakenChildren.NoChild Ended [] state
  one_children (Child body handlers labelled younger) labels state =
      go_on_children (act labelled (one body labels state) (one_handler handlers labels) state) (one_children younger labels)
