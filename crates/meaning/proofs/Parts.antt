-- The meaning of steps and subactions, by how their parts end.
use Rattle.std.proofs.Common.{◌≡◌, ℕ, List, [], ◌++◌, Bool, Option, refl, ap}
use Rattle.meaning.specs.declared.end.End.TheVariants.{Ended, Aborted}
use Rattle.meaning.specs.declared.held.Held.{Held}
use Rattle.meaning.specs.declared.held.Held.TheVariants.{Outcome}
use Rattle.objects.specs.Entries.{State}
use Rattle.meaning.specs.Trees.{Block, NoStep, Steps, Step, Children, NoChild, Child, Handlers}
use Rattle.meaning.specs.Records.{Taken, Nothing, Took, TakenStep, TakenChild, Committed, TakenHandler, TakenChildren}
use Rattle.meaning.specs.OneThread.{Execution, Ran, record_of, outcome_of, labels_of, state_of, label_if, go_on, go_on_children, act}
use Rattle.meaning.specs.OneThread.{after_abort}
use Rattle.meaning.specs.OneThread.{one, one_step, one_handler, one_children}

pub one-Steps : (step : Step) (rest : Block) (labels : List Held) (state : State) → one (Steps step rest) labels state ≡ go_on
    (one_step step labels state) (λ added mid. one rest (labels ++ added) mid)
unfolding one
one-Steps step rest labels state = refl

pub one-NoStep : (labels : List Held) (state : State) → one NoStep labels state ≡ Ran Nothing Ended [] state
unfolding one
one-NoStep labels state = refl

-- a block goes on after a step that ended
pub go_on-ended : (step : Execution TakenStep) (rest : List Held → State → Execution Taken) → outcome_of step ≡ Ended
    → (record_of (go_on step rest) ≡ Took (record_of step) (record_of (rest (labels_of step) (state_of step))))
    × (outcome_of (go_on step rest) ≡ outcome_of (rest (labels_of step) (state_of step)))
    × (state_of (go_on step rest) ≡ state_of (rest (labels_of step) (state_of step)))
go_on-ended (Ran step Ended labels state) rest is = (refl, refl, refl)
go_on-ended (Ran step (Aborted reason) labels state) rest is = absurd cc

-- and ends with a step that aborted
pub go_on-aborted : (step : Execution TakenStep) (rest : List Held → State → Execution Taken) (reason : Option ℕ) → outcome_of step
    ≡ Aborted reason
    → (record_of (go_on step rest) ≡ Took (record_of step) Nothing) × (outcome_of (go_on step rest) ≡ Aborted reason)
    × (state_of (go_on step rest) ≡ state_of step)
go_on-aborted (Ran step Ended labels state) rest reason is = absurd cc
go_on-aborted (Ran step (Aborted other) labels state) rest reason is = (refl, is, refl)

pub one_children-NoChild : (labels : List Held) (state : State) → one_children NoChild labels state ≡ Ran TakenChildren.NoChild Ended []
    state
unfolding one
one_children-NoChild labels state = refl

pub one_children-Child : (body : Block) (handlers : Handlers) (labelled : Bool) (younger : Children) (labels : List Held) (state : State)
    → one_children (Child body handlers labelled younger) labels state ≡ go_on_children
    (act labelled (one body labels state) (one_handler handlers labels) state) (one_children younger labels)
unfolding one
one_children-Child body handlers labelled younger labels state = refl

-- the parts of a run of children after the first
pub record GoesOn (child : Execution TakenChild) (younger : Execution TakenChildren) (all : Execution TakenChildren) : Type 0 where
  pub taken : record_of all ≡ TakenChildren.Child (record_of child) (record_of younger)
  pub outcome : outcome_of all ≡ outcome_of younger
  pub labels : labels_of all ≡ labels_of child ++ labels_of younger
  pub state : state_of all ≡ state_of younger

pub go_on_children-ended : (child : Execution TakenChild) (younger : State → Execution TakenChildren) → outcome_of child ≡ Ended
    → GoesOn child (younger (state_of child)) (go_on_children child younger)
go_on_children-ended (Ran child Ended labels state) younger is = record { taken = refl; outcome = refl; labels = refl; state = refl }
go_on_children-ended (Ran child (Aborted reason) labels state) younger is = absurd cc

pub go_on_children-aborted : (child : Execution TakenChild) (younger : State → Execution TakenChildren) (reason : Option ℕ)
    → outcome_of child ≡ Aborted reason
    → (record_of (go_on_children child younger) ≡ TakenChildren.Child (record_of child) TakenChildren.NoChild)
    × (outcome_of (go_on_children child younger) ≡ Aborted reason) × (state_of (go_on_children child younger) ≡ state_of child)
go_on_children-aborted (Ran child Ended labels state) younger reason is = absurd cc
go_on_children-aborted (Ran child (Aborted other) labels state) younger reason is = (refl, is, refl)

-- a subaction whose body ended, and one whose body aborted
pub act-ended : (labelled : Bool) (body : Execution Taken) (handlers : Option ℕ → State → Execution TakenHandler) (state : State)
    → outcome_of body ≡ Ended
    → act labelled body handlers state ≡ Ran (Committed (record_of body)) Ended (label_if labelled (Outcome Ended)) (state_of body)
act-ended labelled (Ran body Ended labels mid) handlers state is = refl
act-ended labelled (Ran body (Aborted reason) labels mid) handlers state is = absurd cc

pub act-aborted : (labelled : Bool) (body : Execution Taken) (handlers : Option ℕ → State → Execution TakenHandler) (state : State)
    (reason : Option ℕ)
    → outcome_of body ≡ Aborted reason
    → act labelled body handlers state ≡ after_abort labelled (record_of body) reason (handlers reason state)
act-aborted labelled (Ran body Ended labels mid) handlers state reason is = absurd cc
act-aborted labelled (Ran body (Aborted other) labels mid) handlers state reason is =
    let same : other ≡ reason = cc in ap (λ r. after_abort labelled body r (handlers r state)) same
