-- What a run keeps: the kinds of the objects, a bound on their numbers, and that a call doesn't fit an object.
use Rattle.std.proofs.Common.{◌≡◌, ℕ, zero, suc, ◌+◌, ◌≤◌, ◌<◌, ◌^◌, List, [], ◌∷◌, ◌++◌, length, take, Bool, true, false}
use Rattle.std.proofs.Common.{Option, Some, None, refl, sym, ap, ◌∙◌, subst, arith}
use Rattle.std.specs.Prelude.{slice_get, slice_index_or}
use Rattle.serial.specs.Places.{after_found}
use Rattle.objects.specs.Objects.{kind_of_value, one_value, value_reply as reply_of, value_after, Fits, ObjectHasRoom}
use Rattle.objects.specs.Objects.{HasRoom as ValueHasRoom}
use Rattle.objects.specs.declared.kind.Value.{Value}
use Rattle.objects.specs.declared.kind.Call.{Call}
use Rattle.objects.specs.declared.kind.Reply.{Reply}
use Rattle.objects.specs.declared.entry.Entry.{Entry}
use Rattle.meaning.specs.declared.end.End.TheVariants.{Ended, Aborted}
use Rattle.objects.specs.Entries.{State, kinds, reply_at, after, after_call}
use Rattle.meaning.specs.Trees.{Block, NoStep, Steps, Operation, Fill, If, Subaction, Abort, Parallel, ForReason, Otherwise, GoOn, Pass}
use Rattle.meaning.specs.Trees.{NoChild}
use Rattle.meaning.specs.Trees.{Child}
use Rattle.meaning.specs.Labels.{holds}
use Rattle.meaning.specs.Filling.{fill}
use Rattle.meaning.specs.declared.template.Refusal.{Refusal}
use Rattle.meaning.specs.declared.held.Held.{Held}
use Rattle.meaning.specs.Records.{Taken, TakenStep, TakenChild, TakenHandler, TakenChildren}
use Rattle.meaning.specs.OneThread.{Execution, Ran, state_of, operate, operate_made, operate_filled, choose, is_for, choose_handler, act}
use Rattle.meaning.specs.OneThread.{go_on}
use Rattle.meaning.specs.OneThread.{go_on_children, one, one_step}
use Rattle.meaning.specs.OneThread.{one_handler, one_children}
use Rattle.meaning.specs.Batch.{settled, block_at, state_at}
use Rattle.meaning.specs.WellFormed.{CallFits, operations, size_of, largest, largest_amount, StateHasRoom}
use Rattle.meaning.specs.Running.{KeepsKinds, PerformLaw, LimitLaw, CallKeepsLaw, BlockKeepsLaw, StepKeepsLaw, HandlersKeepLaw}
use Rattle.meaning.specs.Running.{ChildrenKeepLaw, EntriesKeepLaw, all_operations, BatchKeepsLaw}

-- ---- one call

value_grows : (v : Value) (c : Call) → size_of (value_after v c) ≤ size_of v + largest_amount
value_grows v c = grind arith

same_kind : (v : Value) (c : Call) → kind_of_value (value_after v c) ≡ kind_of_value v
same_kind v c = grind arith

-- the first object is left as it is by a call on a later one
set_within_rest : (value : Value) (values : State) (object : ℕ) (found : Option Value) (call : Call)
    → after_found one_value (value ∷ values) (suc object) call found ≡ value ∷ after_found one_value values object call found
set_within_rest value values object None call = refl
set_within_rest value values object (Some v) call = refl

pub after_call_rest : (value : Value) (values : State) (object : ℕ) (call : Call) → after_call (value ∷ values) (suc object) call ≡ value
    ∷ after_call values object call
after_call_rest value values object call = set_within_rest value values object (slice_get values object) call

kinds_after : (state : State) (object : ℕ) (call : Call) → kinds (after_call state object call) ≡ kinds state
kinds_after [] object call = refl
kinds_after (v ∷ vs) zero call = ap (λ k. k ∷ kinds vs) (same_kind v call)
kinds_after (v ∷ vs) (suc object) call = ap kinds (after_call_rest v vs object call) ∙ ap (λ ks. kind_of_value v ∷ ks)
    (kinds_after vs object call)

largest_after : (state : State) (object : ℕ) (call : Call) → largest (after_call state object call) ≤ largest state + largest_amount
largest_after [] object call = omega arith
largest_after (v ∷ vs) zero call = omega (arith, value_grows v call)
largest_after (v ∷ vs) (suc object) call = omega (arith, ap largest (after_call_rest v vs object call), largest_after vs object call)

pub call_keeps : CallKeepsLaw
call_keeps state object call = record {
  same_kinds = kinds_after state object call;
  growth =
      omega (arith, largest_after state object call);
}

call_fits : (state : State) (object : ℕ) (call : Call) → CallFits (kinds state) object call → Fits state object call
call_fits [] object call fits = absurd cc
call_fits (v ∷ vs) zero call fits = cc
call_fits (v ∷ vs) (suc object) call fits = call_fits vs object call fits

value_has_room : (v : Value) (c : Call) → size_of v + largest_amount < 2 ^ 63 → ValueHasRoom v c
value_has_room v c room = grind arith

call_has_room : (state : State) (object : ℕ) (call : Call) → StateHasRoom state 1 → ObjectHasRoom state object call
call_has_room [] object call room = tt
call_has_room (v ∷ vs) zero call room = value_has_room v call (omega arith)
call_has_room (v ∷ vs) (suc object) call room = call_has_room vs object call (omega arith)

pub perform : PerformLaw
perform state object call fits room = record { fits = call_fits state object call fits; room = call_has_room state object call room }

pub limit : LimitLaw
limit state done left most all = omega arith

-- ---- a call that doesn't fit

misfit_after_value : (value : Value) (done call : Call) → reply_of value call ≡ None → reply_of (value_after value done) call ≡ None
misfit_after_value value done call misfit = grind arith

misfit_after_call : (state : State) (other : ℕ) (done : Call) (object : ℕ) (call : Call) → reply_at state object call ≡ None
    → reply_at (after_call state other done) object call ≡ None
misfit_after_call [] other done object call misfit = misfit
misfit_after_call (v ∷ vs) zero done zero call misfit = misfit_after_value v done call misfit
misfit_after_call (v ∷ vs) zero done (suc object) call misfit = misfit
misfit_after_call (v ∷ vs) (suc other) done zero call misfit = ap (λ state. reply_at state zero call) (after_call_rest v vs other done)
    ∙ misfit
misfit_after_call (v ∷ vs) (suc other) done (suc object) call misfit = ap (λ state. reply_at state (suc object) call)
    (after_call_rest v vs other done) ∙ misfit_after_call vs other done object call misfit

pub misfit_after : (state : State) (committed : List Entry) (object : ℕ) (call : Call) → reply_at state object call ≡ None
    → reply_at (after state committed) object call ≡ None
misfit_after state [] object call misfit = misfit
misfit_after state (p ∷ ps) object call misfit = misfit_after (after_call state p.object p.call) ps object call
    (misfit_after_call state p.object p.call object call misfit)

-- ---- a run

pub keeps_same : (state : State) (count : ℕ) → KeepsKinds count state state
keeps_same state count = record { same_kinds = refl; growth = omega arith }

pub keeps_then : (first second : ℕ) (s t u : State) → KeepsKinds first s t → KeepsKinds second t u → KeepsKinds (first + second) s u
keeps_then first second s t u h k = record { same_kinds = k.same_kinds ∙ h.same_kinds; growth = omega (arith, h.growth, k.growth) }

pub keeps_weaker : (fewer more : ℕ) (s t : State) → fewer ≤ more → KeepsKinds fewer s t → KeepsKinds more s t
keeps_weaker fewer more s t le h = record { same_kinds = h.same_kinds; growth = omega (arith, h.growth, le) }

operation_keeps : (object : ℕ) (call : Call) (labelled : Bool) (state : State) (reply : Option Reply)
    → KeepsKinds 1 state (state_of (operate object call labelled state reply))
operation_keeps object call labelled state None = keeps_same state 1
operation_keeps object call labelled state (Some reply) = call_keeps state object call

made_keeps : (object : ℕ) (call : Call) (labelled : Bool) (refusal : Refusal) (state : State) (reply : Option Reply)
    → KeepsKinds 1 state (state_of (operate_made object call labelled refusal state reply))
made_keeps object call labelled refusal state None = keeps_same state 1
made_keeps object call labelled refusal state (Some reply) = call_keeps state object call

filled_keeps : (object : ℕ) (labelled : Bool) (refusal : Refusal) (state : State) (call : Option Call)
    → KeepsKinds 1 state (state_of (operate_filled object labelled refusal state call))
filled_keeps object labelled refusal state None = keeps_same state 1
filled_keeps object labelled refusal state (Some call) = made_keeps object call labelled refusal state (reply_at state object call)

choice_keeps : (test : Bool) (then else : State → Execution Taken) (state : State) (m n : ℕ) → KeepsKinds m state (state_of (then state))
    → KeepsKinds n state (state_of (else state)) → KeepsKinds (m + n) state (state_of (choose test then else state))
choice_keeps true then else state m n h k = keeps_weaker m (m + n) _ _ (omega arith) h
choice_keeps false then else state m n h k = keeps_weaker n (m + n) _ _ (omega arith) k

handler_choice_keeps : (test : Bool) (handler : State → Execution Taken) (others : State → Execution TakenHandler) (state : State) (m n : ℕ)
    → KeepsKinds m state (state_of (handler state)) → KeepsKinds n state (state_of (others state))
    → KeepsKinds (m + n) state (state_of (choose_handler test handler others state))
handler_choice_keeps true handler others state m n h k = keeps_weaker m (m + n) _ _ (omega arith) h
handler_choice_keeps false handler others state m n h k = keeps_weaker n (m + n) _ _ (omega arith) k

pub act_keeps : (labelled : Bool) (body : Execution Taken) (handlers : Option ℕ → State → Execution TakenHandler) (state : State) (m n : ℕ)
    → KeepsKinds m state (state_of body) → ((reason : Option ℕ) → KeepsKinds n state (state_of (handlers reason state)))
    → KeepsKinds (m + n) state (state_of (act labelled body handlers state))
act_keeps labelled (Ran body Ended labels after_body) handlers state m n h k = keeps_weaker m (m + n) _ _ (omega arith) h
act_keeps labelled (Ran body (Aborted reason) labels after_body) handlers state m n h k = keeps_weaker n (m + n) _ _ (omega arith)
    (k reason)

go_on_keeps : (step : Execution TakenStep) (rest : List Held → State → Execution Taken) (state : State) (m n : ℕ)
    → KeepsKinds m state (state_of step)
    → ((labels : List Held) (mid : State) → KeepsKinds n mid (state_of (rest labels mid)))
    → KeepsKinds (m + n) state (state_of (go_on step rest))
go_on_keeps (Ran step Ended labels mid) rest state m n h k = keeps_then m n state mid _ h (k labels mid)
go_on_keeps (Ran step (Aborted reason) labels mid) rest state m n h k = keeps_weaker m (m + n) _ _ (omega arith) h

go_on_children_keeps : (child : Execution TakenChild) (younger : State → Execution TakenChildren) (state : State) (m n : ℕ)
    → KeepsKinds m state (state_of child) → ((mid : State) → KeepsKinds n mid (state_of (younger mid)))
    → KeepsKinds (m + n) state (state_of (go_on_children child younger))
go_on_children_keeps (Ran child Ended labels mid) younger state m n h k = keeps_then m n state mid _ h (k mid)
go_on_children_keeps (Ran child (Aborted reason) labels mid) younger state m n h k = keeps_weaker m (m + n) _ _ (omega arith) h

mutual
  unfolding one

  pub block_keeps : BlockKeepsLaw
  block_keeps NoStep labels state = keeps_same state 0
  block_keeps (Steps step rest) labels state =
      go_on_keeps (one_step step labels state) (λ added mid. one rest (labels ++ added) mid) state _ _ (step_keeps step labels state)
      (λ added mid. block_keeps rest (labels ++ added) mid)

  pub step_keeps : StepKeepsLaw
  step_keeps (Operation object call labelled) labels state = operation_keeps object call labelled state (reply_at state object call)
  step_keeps (Fill object template labelled refusal) labels state = filled_keeps object labelled refusal state (fill labels template)
  step_keeps (If label test then else) labels state =
      choice_keeps (holds labels label test) (one then labels) (one else labels) state _ _ (block_keeps then labels state)
      (block_keeps else labels state)
  step_keeps (Subaction body handlers labelled) labels state =
      act_keeps labelled (one body labels state) (one_handler handlers labels) state _ _ (block_keeps body labels state)
      (λ reason. handlers_keep handlers labels reason state)
  step_keeps (Abort reason) labels state = keeps_same state 0
  step_keeps (Parallel children) labels state = children_keep children labels state

  pub handlers_keep : HandlersKeepLaw
  handlers_keep (ForReason reason handler others) labels aborted state =
      handler_choice_keeps (is_for reason aborted) (one handler labels) (one_handler others labels aborted) state _ _
      (block_keeps handler labels state) (handlers_keep others labels aborted state)
  handlers_keep (Otherwise handler) labels aborted state = block_keeps handler labels state
  handlers_keep GoOn labels aborted state = keeps_same state 0
  handlers_keep Pass labels aborted state = keeps_same state 0

  pub children_keep : ChildrenKeepLaw
  children_keep NoChild labels state = keeps_same state 0
  children_keep (Child body handlers labelled younger) labels state =
      go_on_children_keeps (act labelled (one body labels state) (one_handler handlers labels) state) (one_children younger labels) state _
      _ (act_keeps labelled (one body labels state) (one_handler handlers labels) state _ _ (block_keeps body labels state)
      (λ reason. handlers_keep handlers labels reason state)) (λ mid. children_keep younger labels mid)

pub entries_keep : EntriesKeepLaw
entries_keep state [] = keeps_same state 0
entries_keep state (p ∷ ps) =
    let mid = after_call state p.object p.call in
    keeps_weaker (1 + length ps) (length (p ∷ ps)) _ _ (omega arith)
    (keeps_then 1 (length ps) state mid _ (call_keeps state p.object p.call) (entries_keep mid ps))

-- ---- a batch

settled_keeps : (before : State) (run : Execution Taken) (count : ℕ) → KeepsKinds count before (state_of run)
    → KeepsKinds count before (settled before run)
settled_keeps before (Ran taken Ended labels state) count h = h
settled_keeps before (Ran taken (Aborted reason) labels state) count h = keeps_same before count

one_more_block : (batch : List Block) (b : ℕ) → b < length batch → all_operations (take (suc b) batch) ≡ all_operations
    (take b batch) + operations (slice_index_or batch b NoStep)
one_more_block [] b within = absurd (omega arith)
one_more_block (block ∷ blocks) zero within = omega arith
one_more_block (block ∷ blocks) (suc b) within = omega (arith, one_more_block blocks b (omega arith))

pub batch_keeps : BatchKeepsLaw
unfolding state_at
batch_keeps start batch zero within = keeps_same start _
batch_keeps start batch (suc b) within =
    let before = state_at start batch b in
    let run = one (block_at batch b) [] before in
    subst (λ n. KeepsKinds n start (settled before run)) (sym (one_more_block batch b (omega arith)))
    (keeps_then _ _ start before _ (batch_keeps start batch b (omega arith))
    (settled_keeps before run _ (block_keeps (block_at batch b) [] before)))
