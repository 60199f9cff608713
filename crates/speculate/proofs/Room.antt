-- There is room for what a child leaves, for every run of a transaction and for what it leaves.
use Rattle.std.proofs.Common.{◌≡◌, ℕ, zero, suc, ◌+◌, ◌≤◌, List, [], ◌∷◌, length, take, drop, Bool, Option, Some, refl, ap, arith}
use Rattle.std.proofs.Common.{length-append}
use Rattle.objects.specs.declared.kind.Call.{Call}
use Rattle.objects.specs.declared.kind.Reply.{Reply}
use Rattle.objects.specs.declared.entry.Entry.{Entry}
use Rattle.meaning.specs.declared.end.End.{End}
use Rattle.meaning.specs.declared.end.End.TheVariants.{Ended, Aborted}
use Rattle.meaning.specs.declared.held.Held.{Held}
use Rattle.objects.specs.Entries.{State, kinds, reply_at, after_call, AreLegal}
use Rattle.meaning.specs.Trees.{Block}
use Rattle.meaning.specs.Records.{Taken, Nothing, Took, TakenStep, Performed, Filled, Branched, Acted, InParallel, TakenChild, Committed}
use Rattle.meaning.specs.Records.{Undone, TakenHandler, NoHandler, Handled, TakenChildren, NoChild, Child, entries, entries_of_step}
use Rattle.meaning.specs.Records.{entries_of_child, entries_of_handler, entries_of_children, kept, kept_of_step, kept_of_child}
use Rattle.meaning.specs.Records.{kept_of_handler, kept_of_children, net}
use Rattle.meaning.specs.OneThread.{Execution, Ran, record_of, outcome_of, act, one, one_handler}
use Rattle.meaning.specs.Batch.{block_at, state_at, answer, nets, net_of}
use Rattle.meaning.specs.WellFormed.{CallFits, operations, operations_of_handlers, StateHasRoom}
use Rattle.meaning.specs.Running.{all_operations}
use Rattle.meaning.proofs.Keeping.{perform, call_keeps, limit, batch_keeps}
use Rattle.meaning.proofs.Counting.{entries_count, handlers_count}
use Rattle.batch.specs.Parts.{start_of, blocks_of}
use Rattle.batch.specs.declared.batch.Batch.{Batch}
use Rattle.batch.specs.Views.{Tried}
use Rattle.batch.specs.Running.{CanTryHere, acted}
use Rattle.intentions.specs.Levels.{AllHaveRoom}
use Rattle.intentions.proofs.EntriesLemmas.{legal-fits}
use Rattle.speculate.specs.Runs.{IsWithinOthers}
use Rattle.batch.proofs.CanRun.{operations_before}

-- ---- legal entries have room where there is room for as many operations

pub legal_call_fits : (state : State) (object : ℕ) (call : Call) (reply : Reply) → reply_at state object call ≡ Some reply
    → CallFits (kinds state) object call
legal_call_fits [] object call reply h = absurd cc
legal_call_fits (v ∷ vs) zero call reply h = ap Some (legal-fits (v ∷ vs) zero call reply h)
legal_call_fits (v ∷ vs) (suc object) call reply h = legal_call_fits vs object call reply h

pub legal_has_room : (state : State) (ps : List Entry) (count : ℕ) → AreLegal state ps → length ps ≤ count → StateHasRoom state count
    → AllHaveRoom state ps
legal_has_room state [] count legal few room = tt
legal_has_room state (p ∷ ps) zero legal few room = absurd (omega arith)
legal_has_room state (p ∷ ps) (suc count) legal few room =
    let here = perform state p.object p.call (legal_call_fits state p.object p.call p.reply legal.0) (omega (arith, room)) in
    let keeps = call_keeps state p.object p.call in
    (here.room, legal_has_room (after_call state p.object p.call) ps count legal.1 (omega arith) (omega (arith, room, keeps.growth)))

-- ---- what is kept of a run is no more than its entries

mutual
  pub kept-le : (taken : Taken) → length (kept taken) ≤ length (entries taken)
  kept-le Nothing = omega arith
  kept-le (Took step rest) = omega (
    arith,
    kept_of_step-le step,
    kept-le rest,
    length-append (kept_of_step step) (kept rest),
    length-append (entries_of_step step) (entries rest),
  )

  pub kept_of_step-le : (step : TakenStep) → length (kept_of_step step) ≤ length (entries_of_step step)
  kept_of_step-le (Performed entry) = omega arith
  kept_of_step-le (Filled entry) = omega arith
  kept_of_step-le (Branched then branch outcome) = kept-le branch
  kept_of_step-le (Acted subaction) = kept_of_child-le subaction
  kept_of_step-le TakenStep.Abort = omega arith
  kept_of_step-le (InParallel children) = kept_of_children-le children

  pub kept_of_child-le : (child : TakenChild) → length (kept_of_child child) ≤ length (entries_of_child child)
  kept_of_child-le (Committed body) = kept-le body
  kept_of_child-le (Undone body reason handler) = omega (
    arith,
    kept_of_handler-le handler,
    length-append (entries body)
        (entries_of_handler handler),
  )

  pub kept_of_handler-le : (handler : TakenHandler) → length (kept_of_handler handler) ≤ length (entries_of_handler handler)
  kept_of_handler-le NoHandler = omega arith
  kept_of_handler-le (Handled handler outcome) = kept-le handler

  pub kept_of_children-le : (children : TakenChildren) → length (kept_of_children children) ≤ length (entries_of_children children)
  kept_of_children-le NoChild = omega arith
  kept_of_children-le (Child child younger) =
      omega (
        arith,
        kept_of_child-le child,
        kept_of_children-le younger,
        length-append (kept_of_child child) (kept_of_children younger),
        length-append (entries_of_child child) (entries_of_children younger),
      )

-- so is what a run leaves
net-le : (taken : Taken) (outcome : End) → length (net taken outcome) ≤ length (entries taken)
net-le taken Ended = kept-le taken
net-le taken (Aborted reason) = omega arith

-- ---- what a child leaves is its body's or its handler's

act_has_room : (labelled : Bool) (body : Execution Taken) (handlers : Option ℕ → State → Execution TakenHandler) (state : State) (m n : ℕ)
    → StateHasRoom state m → StateHasRoom state n → length (entries (record_of body)) ≤ m
    → ((reason : Option ℕ) → length (entries_of_handler (record_of (handlers reason state))) ≤ n)
    → AreLegal state (kept_of_child (record_of (act labelled body handlers state)))
    → AllHaveRoom state (kept_of_child (record_of (act labelled body handlers state)))
act_has_room labelled (Ran body Ended labels mid) handlers state m n room other few fewer legal = legal_has_room state (kept body) m legal
    (omega (arith, kept-le body, few)) room
act_has_room labelled (Ran body (Aborted reason) labels mid) handlers state m n other room few fewer legal =
    legal_has_room state (kept_of_handler (record_of (handlers reason state))) n legal
    (omega (arith, kept_of_handler-le (record_of (handlers reason state)), fewer reason)) room

-- what a child leaves has room, where it is legal
pub child_has_room : (child : Tried) (held : List Held) (state : State) → CanTryHere child held state
    → AreLegal state (kept_of_child (record_of (acted child held state)))
    → AllHaveRoom state (kept_of_child (record_of (acted child held state)))
child_has_room child held state can legal =
    act_has_room child.labelled (one child.body held state) (one_handler child.handlers held) state (operations child.body)
    (operations_of_handlers child.handlers) can.body.room can.handlers.room
    (entries_count child.body held state) (λ reason. handlers_count child.handlers held reason state) legal

-- ---- what transactions leave is no more than their operations

-- a transaction, and those after it
operations_from : (blocks : List Block) (b : ℕ) → operations (block_at blocks b) + all_operations (drop (suc b) blocks) ≤ all_operations
    (drop b blocks)
operations_from [] b = omega arith
operations_from (block ∷ blocks) zero = omega arith
operations_from (block ∷ blocks) (suc b) = operations_from blocks b

-- those before a place, and those from there on
operations_split : (blocks : List Block) (b : ℕ) → all_operations (take b blocks) + all_operations (drop b blocks) ≡ all_operations blocks
operations_split [] zero = refl
operations_split [] (suc b) = refl
operations_split (block ∷ blocks) zero = omega arith
operations_split (block ∷ blocks) (suc b) = let rest = operations_split blocks b in omega arith

-- what transactions leave
nets_few : (start : State) (blocks : List Block) (b count : ℕ) → length (nets start blocks b count) ≤ all_operations (drop b blocks)
unfolding nets
nets_few start blocks b zero = omega arith
nets_few start blocks b (suc count) =
    let run = answer start blocks b in
    let one_net = net-le (record_of run) (outcome_of run) in
    let one_count = entries_count (block_at blocks b) [] (state_at start blocks b) in
    let rest = nets_few start blocks (suc b) count in
    omega (arith, one_net, one_count, rest, operations_from blocks b, length-append (net_of run) (nets start blocks (suc b) count))

-- ---- at an opening

module _ (batch : Batch) (b : ℕ) (within : b ≤ length (blocks_of batch)) where
  -- the objects are of the batch's kinds
  pub kinds_at : kinds (state_at (start_of batch) (blocks_of batch) b) ≡ kinds (start_of batch)
  kinds_at = (batch_keeps (start_of batch) (blocks_of batch) b within).same_kinds

  -- every later transaction has room
  pub room_at : (i : ℕ) → b ≤ i → IsWithinOthers (blocks_of batch) i (state_at (start_of batch) (blocks_of batch) b)
  room_at i le =
      let keeps = batch_keeps (start_of batch) (blocks_of batch) b within in
      omega (arith, keeps.growth, operations_before (blocks_of batch) b i le, batch.is_batch.small)

  -- what later transactions leave has room
  pub nets_have_room : (count : ℕ) → AreLegal (state_at (start_of batch) (blocks_of batch) b)
      (nets (start_of batch) (blocks_of batch) b count) → AllHaveRoom (state_at (start_of batch) (blocks_of batch) b)
      (nets (start_of batch) (blocks_of batch) b count)
  nets_have_room count legal =
      let keeps = batch_keeps (start_of batch) (blocks_of batch) b within in
      legal_has_room _ _ (all_operations (drop b (blocks_of batch))) legal (nets_few (start_of batch) (blocks_of batch) b count)
      (limit _ (all_operations (take b (blocks_of batch))) (all_operations (drop b (blocks_of batch)))
      (omega (arith, keeps.growth, batch.is_batch.small))
      (omega (arith, operations_split (blocks_of batch) b, batch.is_batch.few_operations)))
