-- A run has no more entries than its tree has operations.
use Rattle.std.proofs.Common.{ℕ, ◌+◌, ◌≤◌, List, [], ◌++◌, length, length-append, Bool, true, false, Option, Some, None, arith}
use Rattle.objects.specs.declared.entry.Entry.{Entry}
use Rattle.objects.specs.declared.kind.Call.{Call}
use Rattle.objects.specs.declared.kind.Reply.{Reply}
use Rattle.meaning.specs.declared.end.End.TheVariants.{Ended, Aborted}
use Rattle.objects.specs.Entries.{State, reply_at}
use Rattle.meaning.specs.Trees.{Block, NoStep, Steps, Step, Operation, Fill, If, Subaction, Abort, Parallel, Handlers, ForReason, Otherwise}
use Rattle.meaning.specs.Trees.{GoOn, Pass, Children, NoChild, Child}
use Rattle.meaning.specs.Labels.{holds}
use Rattle.meaning.specs.Filling.{fill}
use Rattle.meaning.specs.declared.template.Refusal.{Refusal}
use Rattle.meaning.specs.declared.held.Held.{Held}
use Rattle.meaning.specs.Records.{Taken, TakenStep, TakenChild, TakenHandler, TakenChildren, entries, entries_of_step, entries_of_child}
use Rattle.meaning.specs.Records.{entries_of_handler, entries_of_children}
use Rattle.meaning.specs.OneThread.{Execution, Ran, record_of, operate, operate_made, operate_filled, choose, is_for, choose_handler, act}
use Rattle.meaning.specs.OneThread.{go_on, go_on_children, one, one_step}
use Rattle.meaning.specs.OneThread.{one_handler, one_children}
use Rattle.meaning.specs.WellFormed.{operations, operations_of_step, operations_of_handlers, operations_of_children}
use Rattle.meaning.specs.Running.{EntriesCountLaw}

abbrev AtMost : {A : Type 0} → (A → List Entry) → ℕ → Execution A → Type 0
AtMost entries_in count run = length (entries_in (record_of run)) ≤ count

operation_count : (object : ℕ) (call : Call) (labelled : Bool) (state : State) (reply : Option Reply)
    → AtMost entries_of_step 1 (operate object call labelled state reply)
operation_count object call labelled state None = omega arith
operation_count object call labelled state (Some reply) = omega arith

made_count : (object : ℕ) (call : Call) (labelled : Bool) (refusal : Refusal) (state : State) (reply : Option Reply)
    → AtMost entries_of_step 1 (operate_made object call labelled refusal state reply)
made_count object call labelled refusal state None = omega arith
made_count object call labelled refusal state (Some reply) = omega arith

filled_count : (object : ℕ) (labelled : Bool) (refusal : Refusal) (state : State) (call : Option Call)
    → AtMost entries_of_step 1 (operate_filled object labelled refusal state call)
filled_count object labelled refusal state None = omega arith
filled_count object labelled refusal state (Some call) = made_count object call labelled refusal state (reply_at state object call)

choice_count : (test : Bool) (then else : State → Execution Taken) (state : State) (m n : ℕ) → AtMost entries m (then state)
    → AtMost entries n (else state) → AtMost entries_of_step (m + n) (choose test then else state)
choice_count true then else state m n h k = omega (arith, h)
choice_count false then else state m n h k = omega (arith, k)

handler_choice_count : (test : Bool) (handler : State → Execution Taken) (others : State → Execution TakenHandler) (state : State) (m n : ℕ)
    → AtMost entries m (handler state) → AtMost entries_of_handler n (others state) → AtMost entries_of_handler (m + n)
    (choose_handler test handler others state)
handler_choice_count true handler others state m n h k = omega (arith, h)
handler_choice_count false handler others state m n h k = omega (arith, k)

act_count : (labelled : Bool) (body : Execution Taken) (handlers : Option ℕ → State → Execution TakenHandler) (state : State) (m n : ℕ)
    → AtMost entries m body → ((reason : Option ℕ) → AtMost entries_of_handler n (handlers reason state)) → AtMost entries_of_child (m + n)
    (act labelled body handlers state)
act_count labelled (Ran body Ended labels after_body) handlers state m n h k = omega (arith, h)
act_count labelled (Ran body (Aborted reason) labels after_body) handlers state m n h k =
    omega (arith, h, k reason, length-append (entries body) (entries_of_handler (record_of (handlers reason state))))

go_on_count : (step : Execution TakenStep) (rest : List Held → State → Execution Taken) (m n : ℕ) → AtMost entries_of_step m step
    → ((labels : List Held) (mid : State) → AtMost entries n (rest labels mid)) → AtMost entries (m + n) (go_on step rest)
go_on_count (Ran step Ended labels mid) rest m n h k = omega (
  arith,
  h,
  k labels mid,
  length-append (entries_of_step step)
      (entries (record_of (rest labels mid))),
)
go_on_count (Ran step (Aborted reason) labels mid) rest m n h k = omega (arith, h, length-append (entries_of_step step) [])

go_on_children_count : (child : Execution TakenChild) (younger : State → Execution TakenChildren) (m n : ℕ)
    → AtMost entries_of_child m child
    → ((mid : State) → AtMost entries_of_children n (younger mid)) → AtMost entries_of_children (m + n) (go_on_children child younger)
go_on_children_count (Ran child Ended labels mid) younger m n h k =
    omega (arith, h, k mid, length-append (entries_of_child child) (entries_of_children (record_of (younger mid))))
go_on_children_count (Ran child (Aborted reason) labels mid) younger m n h k = omega (arith, h, length-append (entries_of_child child) [])

mutual
  unfolding one

  block_count : (block : Block) (labels : List Held) (state : State) → AtMost entries (operations block) (one block labels state)
  block_count NoStep labels state = omega arith
  block_count (Steps step rest) labels state =
      go_on_count (one_step step labels state) (λ added mid. one rest (labels ++ added) mid) _ _ (step_count step labels state)
      (λ added mid. block_count rest (labels ++ added) mid)

  step_count : (step : Step) (labels : List Held) (state : State) → AtMost entries_of_step (operations_of_step step)
      (one_step step labels state)
  step_count (Operation object call labelled) labels state = operation_count object call labelled state (reply_at state object call)
  step_count (Fill object template labelled refusal) labels state = filled_count object labelled refusal state (fill labels template)
  step_count (If label test then else) labels state =
      choice_count (holds labels label test) (one then labels) (one else labels) state _ _ (block_count then labels state)
      (block_count else labels state)
  step_count (Subaction body handlers labelled) labels state =
      act_count labelled (one body labels state) (one_handler handlers labels) state _ _ (block_count body labels state)
      (λ reason. handlers_count handlers labels reason state)
  step_count (Abort reason) labels state = omega arith
  step_count (Parallel children) labels state = children_count children labels state

  pub handlers_count : (handlers : Handlers) (labels : List Held) (reason : Option ℕ) (state : State)
      → AtMost entries_of_handler (operations_of_handlers handlers) (one_handler handlers labels reason state)
  handlers_count (ForReason reason handler others) labels aborted state =
      handler_choice_count (is_for reason aborted) (one handler labels) (one_handler others labels aborted) state _ _
      (block_count handler labels state) (handlers_count others labels aborted state)
  handlers_count (Otherwise handler) labels aborted state = block_count handler labels state
  handlers_count GoOn labels aborted state = omega arith
  handlers_count Pass labels aborted state = omega arith

  children_count : (children : Children) (labels : List Held) (state : State)
      → AtMost entries_of_children (operations_of_children children) (one_children children labels state)
  children_count NoChild labels state = omega arith
  children_count (Child body handlers labelled younger) labels state =
      go_on_children_count (act labelled (one body labels state) (one_handler handlers labels) state) (one_children younger labels) _ _
      (act_count labelled (one body labels state) (one_handler handlers labels) state _ _ (block_count body labels state)
      (λ reason. handlers_count handlers labels reason state)) (λ mid. children_count younger labels mid)

pub entries_count : EntriesCountLaw
entries_count = block_count
