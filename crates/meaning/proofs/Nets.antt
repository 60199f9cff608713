-- What a run keeps leads from the state where it began to the state where it came.
use Rattle.std.proofs.Common.{◌≡◌, ℕ, List, [], ◌∷◌, ◌++◌, Bool, true, false, Option, Some, None, refl, subst}
use Rattle.objects.specs.declared.entry.Entry.{Entry}
use Rattle.objects.specs.declared.kind.Call.{Call}
use Rattle.objects.specs.declared.kind.Reply.{Reply}
use Rattle.meaning.specs.declared.end.End.TheVariants.{Ended, Aborted}
use Rattle.objects.specs.Entries.{State, reply_at, after_call, AreLegal, after}
use Rattle.meaning.specs.Trees.{Block, NoStep, Steps, Step, Operation, Fill, If, Subaction, Abort, Parallel, Handlers, ForReason, Otherwise}
use Rattle.meaning.specs.Trees.{GoOn, Pass, Children, NoChild, Child}
use Rattle.meaning.specs.Labels.{holds}
use Rattle.meaning.specs.Filling.{fill}
use Rattle.meaning.specs.declared.template.Refusal.{Refusal}
use Rattle.meaning.specs.declared.held.Held.{Held}
use Rattle.meaning.specs.Records.{Taken, TakenStep, TakenChild, TakenHandler, TakenChildren, kept, kept_of_step, kept_of_child}
use Rattle.meaning.specs.Records.{kept_of_handler, kept_of_children}
use Rattle.meaning.specs.OneThread.{Execution, Ran, record_of, state_of, operate, operate_made, operate_filled, choose, is_for}
use Rattle.meaning.specs.OneThread.{choose_handler}
use Rattle.meaning.specs.OneThread.{act, go_on, go_on_children, one}
use Rattle.meaning.specs.OneThread.{one_step, one_handler, one_children}
use Rattle.meaning.specs.Laws.{NetLaw, ChildrenNetLaw}

-- the list is legal here and leads there
abbrev pub Leads : State → List Entry → State → Type 0
Leads from ps to = AreLegal from ps × (to ≡ after from ps)

pub lead_on : (from mid to : State) (ps qs : List Entry) → Leads from ps mid → Leads mid qs to → Leads from (ps ++ qs) to
lead_on from mid to [] qs first second = subst (λ s. Leads s qs to) first.1 second
lead_on from mid to (p ∷ ps) qs first second =
    let rest = lead_on (after_call from p.object p.call) mid to ps qs (first.0.1, first.1) second in
    ((first.0.0, rest.0), rest.1)

-- where nothing follows
lead_alone : (from to : State) (ps : List Entry) → Leads from ps to → Leads from (ps ++ []) to
lead_alone from to ps first = lead_on from to to ps [] first (tt, refl)

abbrev pub LeadsFrom : {A : Type 0} → (A → List Entry) → State → Execution A → Type 0
LeadsFrom kept_in from run = Leads from (kept_in (record_of run)) (state_of run)

operation_leads : (object : ℕ) (call : Call) (labelled : Bool) (state : State) (reply : Option Reply) → reply_at state object call ≡ reply
    → LeadsFrom kept_of_step state (operate object call labelled state reply)
operation_leads object call labelled state None is = (tt, refl)
operation_leads object call labelled state (Some reply) is = ((is, tt), refl)

made_leads : (object : ℕ) (call : Call) (labelled : Bool) (refusal : Refusal) (state : State) (reply : Option Reply)
    → reply_at state object call ≡ reply → LeadsFrom kept_of_step state (operate_made object call labelled refusal state reply)
made_leads object call labelled refusal state None is = (tt, refl)
made_leads object call labelled refusal state (Some reply) is = ((is, tt), refl)

filled_leads : (object : ℕ) (labelled : Bool) (refusal : Refusal) (state : State) (call : Option Call)
    → LeadsFrom kept_of_step state (operate_filled object labelled refusal state call)
filled_leads object labelled refusal state None = (tt, refl)
filled_leads object labelled refusal state (Some call) =
    made_leads object call labelled refusal state (reply_at state object call) refl

choice_leads : (test : Bool) (then else : State → Execution Taken) (state : State) → LeadsFrom kept state (then state)
    → LeadsFrom kept state (else state) → LeadsFrom kept_of_step state (choose test then else state)
choice_leads true then else state then_leads else_leads = then_leads
choice_leads false then else state then_leads else_leads = else_leads

handler_choice_leads : (test : Bool) (handler : State → Execution Taken) (others : State → Execution TakenHandler) (state : State)
    → LeadsFrom kept state (handler state) → LeadsFrom kept_of_handler state (others state) → LeadsFrom kept_of_handler state
    (choose_handler test handler others state)
handler_choice_leads true handler others state handler_leads others_lead = handler_leads
handler_choice_leads false handler others state handler_leads others_lead = others_lead

pub act_leads : (labelled : Bool) (body : Execution Taken) (handlers : Option ℕ → State → Execution TakenHandler) (state : State)
    → LeadsFrom kept state body → ((reason : Option ℕ) → LeadsFrom kept_of_handler state (handlers reason state))
    → LeadsFrom kept_of_child state (act labelled body handlers state)
act_leads labelled (Ran body Ended labels after_body) handlers state body_leads handlers_lead = body_leads
act_leads labelled (Ran body (Aborted reason) labels after_body) handlers state body_leads handlers_lead = handlers_lead reason

go_on_leads : (step : Execution TakenStep) (rest : List Held → State → Execution Taken) (state : State) → LeadsFrom kept_of_step state step
    → ((labels : List Held) (mid : State) → LeadsFrom kept mid (rest labels mid)) → LeadsFrom kept state (go_on step rest)
go_on_leads (Ran step Ended labels mid) rest state step_leads rest_leads =
    lead_on state mid (state_of (rest labels mid)) (kept_of_step step) (kept (record_of (rest labels mid))) step_leads
    (rest_leads labels mid)
go_on_leads (Ran step (Aborted reason) labels mid) rest state step_leads rest_leads = lead_alone state mid (kept_of_step step) step_leads

go_on_children_leads : (child : Execution TakenChild) (younger : State → Execution TakenChildren) (state : State)
    → LeadsFrom kept_of_child state child
    → ((mid : State) → LeadsFrom kept_of_children mid (younger mid)) → LeadsFrom kept_of_children state (go_on_children child younger)
go_on_children_leads (Ran child Ended labels mid) younger state child_leads younger_leads =
    lead_on state mid (state_of (younger mid)) (kept_of_child child) (kept_of_children (record_of (younger mid))) child_leads
    (younger_leads mid)
go_on_children_leads (Ran child (Aborted reason) labels mid) younger state child_leads younger_leads = lead_alone state mid
    (kept_of_child child) child_leads

mutual
  unfolding one

  pub block_leads : (block : Block) (labels : List Held) (state : State) → LeadsFrom kept state (one block labels state)
  block_leads NoStep labels state = (tt, refl)
  block_leads (Steps step rest) labels state =
      go_on_leads (one_step step labels state) (λ added mid. one rest (labels ++ added) mid) state (step_leads step labels state)
      (λ added. block_leads rest (labels ++ added))

  pub step_leads : (step : Step) (labels : List Held) (state : State) → LeadsFrom kept_of_step state (one_step step labels state)
  step_leads (Operation object call labelled) labels state = operation_leads object call labelled state (reply_at state object call) refl
  step_leads (Fill object template labelled refusal) labels state = filled_leads object labelled refusal state (fill labels template)
  step_leads (If label test then else) labels state = choice_leads (holds labels label test) (one then labels) (one else labels) state
      (block_leads then labels state) (block_leads else labels state)
  step_leads (Subaction body handlers labelled) labels state =
      act_leads labelled (one body labels state) (one_handler handlers labels) state (block_leads body labels state)
      (λ reason. handlers_lead handlers labels reason state)
  step_leads (Abort reason) labels state = (tt, refl)
  step_leads (Parallel children) labels state = children_lead children labels state

  pub handlers_lead : (handlers : Handlers) (labels : List Held) (reason : Option ℕ) (state : State) → LeadsFrom kept_of_handler state
      (one_handler handlers labels reason state)
  handlers_lead (ForReason reason handler others) labels aborted state =
      handler_choice_leads (is_for reason aborted) (one handler labels) (one_handler others labels aborted) state
      (block_leads handler labels state) (handlers_lead others labels aborted state)
  handlers_lead (Otherwise handler) labels aborted state = block_leads handler labels state
  handlers_lead GoOn labels aborted state = (tt, refl)
  handlers_lead Pass labels aborted state = (tt, refl)

  pub children_lead : (children : Children) (labels : List Held) (state : State) → LeadsFrom kept_of_children state
      (one_children children labels state)
  children_lead NoChild labels state = (tt, refl)
  children_lead (Child body handlers labelled younger) labels state =
      go_on_children_leads (act labelled (one body labels state) (one_handler handlers labels) state) (one_children younger labels) state
      (act_leads labelled (one body labels state) (one_handler handlers labels) state (block_leads body labels state)
      (λ reason. handlers_lead handlers labels reason state)) (children_lead younger labels)

pub nets_lead : NetLaw
nets_lead = block_leads

pub children_nets_lead : ChildrenNetLaw
children_nets_lead = children_lead
