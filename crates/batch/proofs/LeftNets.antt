-- What a block and its record leave is the net of the run.
use Rattle.std.proofs.Common.{◌≡◌, ℕ, List, [], ◌++◌, Bool, true, false, Option, Some, None, refl, ap, ap₂, ◌∙◌}
use Rattle.objects.specs.declared.kind.Call.{Call}
use Rattle.objects.specs.declared.kind.Reply.{Reply}
use Rattle.objects.specs.Entries.{State, reply_at}
use Rattle.meaning.specs.declared.end.End.{End}
use Rattle.meaning.specs.declared.end.End.TheVariants.{Ended, Aborted}
use Rattle.meaning.specs.declared.held.Held.{Held}
use Rattle.meaning.specs.declared.template.Refusal.{Refusal}
use Rattle.meaning.specs.declared.template.Template.{Template}
use Rattle.meaning.specs.declared.test.Test.{Test}
use Rattle.meaning.specs.Filling.{fill}
use Rattle.meaning.specs.Trees.{Block, NoStep, Steps, Step, Operation, Fill, If, Subaction, Abort, Parallel, Handlers, ForReason, Otherwise}
use Rattle.meaning.specs.Trees.{GoOn, Pass, Children, NoChild, Child}
use Rattle.meaning.specs.Labels.{holds}
use Rattle.meaning.specs.Records.{Taken, Nothing, Took, TakenStep, TakenChild, Undone, TakenHandler, NoHandler, Handled}
use Rattle.meaning.specs.Records.{TakenChildren, kept, kept_of_step, kept_of_child, kept_of_handler, kept_of_children}
use Rattle.meaning.specs.Shown.{end_of, shown, shown_step, shown_child, shown_children}
use Rattle.meaning.specs.OneThread.{Execution, Ran, record_of, operate, operate_made, operate_filled, choose, is_for, choose_handler, act}
use Rattle.meaning.specs.OneThread.{go_on}
use Rattle.meaning.specs.OneThread.{go_on_children, one, one_step, one_handler, one_children}
use Rattle.meaning.specs.Batch.{net_of, shown_of}
use Rattle.batch.specs.Taking.{first_of, taker}
use Rattle.batch.specs.Left.{where_ended, left, left_by_step, left_by_child, left_by_children, or_no_step, taker_at, left_by_transaction}

-- a record shows its outcome
shown_ends : (taken : Taken) (outcome : End) → end_of (shown taken outcome) ≡ outcome
shown_ends Nothing outcome = refl
shown_ends (Took step rest) outcome = shown_ends rest outcome

-- a block and what a run of it shows leave what the run keeps
abbrev LeavesKept : Block → Execution Taken → Type 0
LeavesKept block run = left block (shown_of run) ≡ kept (record_of run)

-- so does a step
abbrev LeavesStep : Step → Execution TakenStep → Type 0
LeavesStep step run = left_by_step step (shown_step (record_of run)) ≡ kept_of_step (record_of run)

-- the block that takes an abort leaves what the handler keeps
abbrev LeavesHandled : Option Block → TakenHandler → Type 0
LeavesHandled block NoHandler = Unit {0}
LeavesHandled block (Handled handler outcome) = left (or_no_step block) (shown handler outcome) ≡ kept handler

-- a subaction leaves what is kept of it
abbrev LeavesChild : Block → Handlers → Execution TakenChild → Type 0
LeavesChild body handlers run = left_by_child body handlers (shown_child (record_of run)) ≡ kept_of_child (record_of run)

-- an operation leaves its entry
operation_left : (object : ℕ) (call : Call) (labelled : Bool) (state : State) (reply : Option Reply)
    → LeavesStep (Operation object call labelled) (operate object call labelled state reply)
operation_left object call labelled state None = refl
operation_left object call labelled state (Some reply) = refl

-- so does one whose call is made when it is reached
made_left : (object : ℕ) (template : Template) (labelled : Bool) (refusal : Refusal) (state : State) (call : Call)
    (reply : Option Reply) → LeavesStep (Fill object template labelled refusal) (operate_made object call labelled refusal state reply)
made_left object template labelled refusal state call None = refl
made_left object template labelled refusal state call (Some reply) = refl

filled_left : (object : ℕ) (template : Template) (labelled : Bool) (refusal : Refusal) (state : State) (call : Option Call)
    → LeavesStep (Fill object template labelled refusal) (operate_filled object labelled refusal state call)
filled_left object template labelled refusal state None = refl
filled_left object template labelled refusal state (Some call) =
    made_left object template labelled refusal state call (reply_at state object call)

-- a branch leaves what it keeps
choice_left : (label : ℕ) (t : Test) (then else : Block) (chosen : Bool) (then_runs else_runs : State → Execution Taken) (state : State)
    → LeavesKept then (then_runs state) → LeavesKept else (else_runs state)
    → LeavesStep (If label t then else) (choose chosen then_runs else_runs state)
choice_left label t then else true then_runs else_runs state then_leaves else_leaves = then_leaves
choice_left label t then else false then_runs else_runs state then_leaves else_leaves = else_leaves

-- the first handler that takes an abort leaves what it keeps
handler_left : (takes : Bool) (handler : Block) (others : Option Block) (run : State → Execution Taken)
    (rest : State → Execution TakenHandler)
    (state : State) → LeavesKept handler (run state) → LeavesHandled others (record_of (rest state))
    → LeavesHandled (first_of takes handler others) (record_of (choose_handler takes run rest state))
handler_left true handler others run rest state leaves others_leave = leaves
handler_left false handler others run rest state leaves others_leave = others_leave

-- a body that aborts leaves what its handler keeps
undone_left : (body : Block) (handlers : Handlers) (taken : Taken) (reason : Option ℕ) (handler : TakenHandler)
    → LeavesHandled (taker handlers reason) handler
    → left_by_child body handlers (shown_child (Undone taken reason handler)) ≡ kept_of_handler handler
undone_left body handlers taken reason NoHandler leaves =
    ap (λ outcome. where_ended outcome (left body (shown taken (Aborted reason)))) (shown_ends taken (Aborted reason))
undone_left body handlers taken reason (Handled handler outcome) leaves =
    ap (λ how. left (taker_at handlers how) (shown handler outcome)) (shown_ends taken (Aborted reason)) ∙ leaves

-- a subaction leaves what it keeps
act_left : (body : Block) (handlers : Handlers) (labelled : Bool) (run : Execution Taken)
    (handle : Option ℕ → State → Execution TakenHandler)
    (state : State) → LeavesKept body run
    → ((reason : Option ℕ) → LeavesHandled (taker handlers reason) (record_of (handle reason state)))
    → LeavesChild body handlers (act labelled run handle state)
act_left body handlers labelled (Ran taken Ended labels after_body) handle state leaves handlers_leave =
    ap (λ outcome. where_ended outcome (left body (shown taken Ended))) (shown_ends taken Ended) ∙ leaves
act_left body handlers labelled (Ran taken (Aborted reason) labels after_body) handle state leaves handlers_leave =
    undone_left body handlers taken reason (record_of (handle reason state)) (handlers_leave reason)

-- a step and those after it
go_on_left : (step : Step) (rest : Block) (run : Execution TakenStep) (rest_runs : List Held → State → Execution Taken)
    → LeavesStep step run
    → ((labels : List Held) (state : State) → LeavesKept rest (rest_runs labels state))
    → LeavesKept (Steps step rest) (go_on run rest_runs)
go_on_left step rest (Ran taken Ended labels state) rest_runs leaves rest_leaves = ap₂ (λ xs ys. xs ++ ys) leaves (rest_leaves labels state)
go_on_left step rest (Ran taken (Aborted reason) labels state) rest_runs leaves rest_leaves = ap (λ xs. xs ++ []) leaves

-- a child and its later siblings
go_on_children_left : (body : Block) (handlers : Handlers) (labelled : Bool) (younger : Children) (run : Execution TakenChild)
    (younger_run : State → Execution TakenChildren) → LeavesChild body handlers run
    → ((state : State) → left_by_children younger (shown_children (record_of (younger_run state))) ≡ kept_of_children
    (record_of (younger_run state)))
    → left_by_children (Child body handlers labelled younger) (shown_children (record_of (go_on_children run younger_run)))
    ≡ kept_of_children (record_of (go_on_children run younger_run))
go_on_children_left body handlers labelled younger (Ran taken Ended labels state) younger_run leaves younger_leaves =
    ap₂ (λ xs ys. xs ++ ys) leaves (younger_leaves state)
go_on_children_left body handlers labelled younger (Ran taken (Aborted reason) labels state) younger_run leaves younger_leaves =
    ap (λ xs. xs ++ []) leaves

mutual
  unfolding one

  -- a block leaves what its run keeps
  block_left : (block : Block) (labels : List Held) (state : State) → LeavesKept block (one block labels state)
  block_left NoStep labels state = refl
  block_left (Steps step rest) labels state =
      go_on_left step rest (one_step step labels state) (λ added mid. one rest (labels ++ added) mid) (step_left step labels state)
      (λ added. block_left rest (labels ++ added))

  -- a step does
  step_left : (step : Step) (labels : List Held) (state : State) → LeavesStep step (one_step step labels state)
  step_left (Operation object call labelled) labels state = operation_left object call labelled state (reply_at state object call)
  step_left (Fill object template labelled refusal) labels state = filled_left object template labelled refusal state (fill labels template)
  step_left (If label test then else) labels state =
      choice_left label test then else (holds labels label test) (one then labels) (one else labels) state
      (block_left then labels state) (block_left else labels state)
  step_left (Subaction body handlers labelled) labels state =
      act_left body handlers labelled (one body labels state) (one_handler handlers labels) state (block_left body labels state)
      (λ reason. handlers_left handlers labels reason state)
  step_left (Abort reason) labels state = refl
  step_left (Parallel children) labels state = children_left children labels state

  -- the block that takes an abort does
  handlers_left : (handlers : Handlers) (labels : List Held) (reason : Option ℕ) (state : State)
      → LeavesHandled (taker handlers reason) (record_of (one_handler handlers labels reason state))
  handlers_left (ForReason reason handler others) labels aborted state =
      handler_left (is_for reason aborted) handler (taker others aborted) (one handler labels) (one_handler others labels aborted) state
      (block_left handler labels state) (handlers_left others labels aborted state)
  handlers_left (Otherwise handler) labels aborted state = block_left handler labels state
  handlers_left GoOn labels aborted state = tt
  handlers_left Pass labels aborted state = tt

  -- the children of a parallel step do
  children_left : (children : Children) (labels : List Held) (state : State)
      → left_by_children children (shown_children (record_of (one_children children labels state))) ≡ kept_of_children
      (record_of (one_children children labels state))
  children_left NoChild labels state = refl
  children_left (Child body handlers labelled younger) labels state =
      go_on_children_left body handlers labelled younger (act labelled (one body labels state) (one_handler handlers labels) state)
      (one_children younger labels)
      (act_left body handlers labelled (one body labels state) (one_handler handlers labels) state (block_left body labels state)
      (λ reason. handlers_left handlers labels reason state)) (children_left younger labels)

-- where the transaction ended that is what it keeps, and else nothing
transaction_left : (block : Block) (run : Execution Taken) → LeavesKept block run → left_by_transaction block (shown_of run) ≡ net_of run
transaction_left block (Ran taken Ended labels state) leaves =
    ap (λ outcome. where_ended outcome (left block (shown taken Ended))) (shown_ends taken Ended) ∙ leaves
transaction_left block (Ran taken (Aborted reason) labels state) leaves =
    ap (λ outcome. where_ended outcome (left block (shown taken (Aborted reason)))) (shown_ends taken (Aborted reason))

-- What is left of a run, by its block and its record, is its net.
pub left_is_net : (block : Block) (labels : List Held) (state : State)
    → left_by_transaction block (shown_of (one block labels state)) ≡ net_of (one block labels state)
left_is_net block labels state = transaction_left block (one block labels state) (block_left block labels state)
