-- A run moves past a list of entries with which each of its own commutes forward.
use Rattle.std.proofs.Common.{◌≡◌, ℕ, List, [], ◌++◌, Bool, true, false, Option, Some, None, refl, ap, ◌∙◌}
use Rattle.objects.specs.declared.entry.Entry.{Entry}
use Rattle.objects.specs.declared.kind.Call.{Call}
use Rattle.objects.specs.declared.kind.Reply.{Reply}
use Rattle.meaning.specs.declared.end.End.TheVariants.{Ended, Aborted}
use Rattle.objects.specs.Entries.{State, reply_at, AreLegal, after, AllCommute}
use Rattle.meaning.specs.Trees.{Block, NoStep, Steps, Step, Operation, Fill, If, Subaction, Abort, Parallel, Handlers, ForReason, Otherwise}
use Rattle.meaning.specs.Trees.{GoOn, Pass, Children, NoChild, Child}
use Rattle.meaning.specs.Labels.{holds}
use Rattle.meaning.specs.Filling.{end_after, fill}
use Rattle.meaning.specs.declared.template.Refusal.{Refusal}
use Rattle.meaning.specs.declared.held.Held.{Held}
use Rattle.meaning.specs.declared.held.Held.TheVariants.{Replied}
use Rattle.meaning.specs.Records.{Taken, TakenStep, Performed, Filled, Acted, InParallel, TakenChild, TakenHandler, TakenChildren, entries}
use Rattle.meaning.specs.Records.{entries_of_step, entries_of_child, entries_of_handler, entries_of_children}
use Rattle.meaning.specs.OneThread.{Execution, Ran, record_of, outcome_of, state_of, label_if, operate, operate_made, operate_filled}
use Rattle.meaning.specs.OneThread.{as_branch}
use Rattle.meaning.specs.OneThread.{choose, as_handler, is_for}
use Rattle.meaning.specs.OneThread.{choose_handler, after_abort, act, as_step, before_rest, go_on, before_younger, go_on_children, one}
use Rattle.meaning.specs.OneThread.{one_step, one_handler, one_children}
use Rattle.meaning.specs.Laws.{ShiftLaw, ChildrenShiftLaw, carried}
use Rattle.meaning.proofs.Lifting.{Passes, past, commute_left, commute_right}
use Rattle.meaning.proofs.Keeping.{misfit_after}

module _ (committed : List Entry) where
  -- the second run is the first one, made on the state after the list
  abbrev Moves : {A : Type 0} → (A → List Entry) → Execution A → Execution A → Type 0
  Moves entries_in here there = AllCommute (entries_in (record_of here)) committed → AreLegal (state_of here) committed
      × (there ≡ carried committed here)

  operation_moves : (object : ℕ) (call : Call) (labelled : Bool) (state : State) → AreLegal state committed → (reply : Option Reply)
      → reply_at state object call ≡ reply → Moves entries_of_step (operate object call labelled state reply)
      (operate object call labelled (after state committed) (reply_at (after state committed) object call))
  operation_moves object call labelled state legal None is commute =
      (legal, ap (operate object call labelled (after state committed)) (misfit_after state committed object call is))
  operation_moves object call labelled state legal (Some reply) is commute =
      let p : Entry = record { object = object; call = call; reply = reply } in
      let moved : Passes state p committed = past state p committed (is, tt) legal commute in (
        moved.list_legal,
        ap (operate object call labelled (after state committed)) moved.legal.0
            ∙ ap (Ran (Performed p) Ended (label_if labelled (Replied reply))) moved.same,
      )

  made_moves : (object : ℕ) (call : Call) (labelled : Bool) (refusal : Refusal) (state : State) → AreLegal state committed
      → (reply : Option Reply) → reply_at state object call ≡ reply
      → Moves entries_of_step (operate_made object call labelled refusal state reply)
      (operate_made object call labelled refusal (after state committed) (reply_at (after state committed) object call))
  made_moves object call labelled refusal state legal None is commute =
      (legal, ap (operate_made object call labelled refusal (after state committed)) (misfit_after state committed object call is))
  made_moves object call labelled refusal state legal (Some reply) is commute =
      let p : Entry = record { object = object; call = call; reply = reply } in
      let moved : Passes state p committed = past state p committed (is, tt) legal commute in (
        moved.list_legal,
        ap (operate_made object call labelled refusal (after state committed)) moved.legal.0
            ∙ ap (Ran (Filled p) (end_after refusal reply) (label_if labelled (Replied reply))) moved.same,
      )

  filled_moves : (object : ℕ) (labelled : Bool) (refusal : Refusal) (state : State) (call : Option Call) → AreLegal state committed
      → Moves entries_of_step (operate_filled object labelled refusal state call)
      (operate_filled object labelled refusal (after state committed) call)
  filled_moves object labelled refusal state None legal commute = (legal, refl)
  filled_moves object labelled refusal state (Some call) legal commute =
      made_moves object call labelled refusal state legal (reply_at state object call) refl commute

  branch_moves : (then : Bool) (here there : Execution Taken) → Moves entries here there → Moves entries_of_step (as_branch then here)
      (as_branch then there)
  branch_moves then here there moves commute = let moved = moves commute in (moved.0, ap (as_branch then) moved.1)

  choice_moves : (test : Bool) (then else : State → Execution Taken) (state : State)
      → Moves entries (then state) (then (after state committed))
      → Moves entries (else state) (else (after state committed)) → Moves entries_of_step (choose test then else state)
      (choose test then else (after state committed))
  choice_moves true then else state then_moves else_moves = branch_moves true (then state) (then (after state committed)) then_moves
  choice_moves false then else state then_moves else_moves = branch_moves false (else state) (else (after state committed)) else_moves

  handler_moves : (here there : Execution Taken) → Moves entries here there → Moves entries_of_handler (as_handler here) (as_handler there)
  handler_moves here there moves commute = let moved = moves commute in (moved.0, ap as_handler moved.1)

  handler_choice_moves : (test : Bool) (handler : State → Execution Taken) (others : State → Execution TakenHandler) (state : State)
      → Moves entries (handler state) (handler (after state committed)) → Moves entries_of_handler (others state)
      (others (after state committed)) → Moves entries_of_handler (choose_handler test handler others state)
      (choose_handler test handler others (after state committed))
  handler_choice_moves true handler others state moves others_move = handler_moves (handler state) (handler (after state committed)) moves
  handler_choice_moves false handler others state moves others_move = others_move

  act_moves : (labelled : Bool) (here there : Execution Taken) (handlers : Option ℕ → State → Execution TakenHandler) (state : State)
      → Moves entries here there
      → ((reason : Option ℕ) → Moves entries_of_handler (handlers reason state) (handlers reason (after state committed)))
      → Moves entries_of_child (act labelled here handlers state) (act labelled there handlers (after state committed))
  act_moves labelled (Ran body Ended labels after_body) there handlers state body_moves handlers_move commute =
      let moved = body_moves commute in
      (moved.0, ap (λ run. act labelled run handlers (after state committed)) moved.1)
  act_moves labelled (Ran body (Aborted reason) labels after_body) there handlers state body_moves handlers_move commute =
      let body_moved = body_moves (commute_left (entries body) _ committed commute) in
      let handler_moved = handlers_move reason (commute_right (entries body) _ committed commute) in (
        handler_moved.0,
        ap (λ run. act labelled run handlers (after state committed)) body_moved.1
            ∙ ap (after_abort labelled body reason) handler_moved.1,
      )

  go_on_moves : (here there : Execution TakenStep) (rest : List Held → State → Execution Taken) → Moves entries_of_step here there
      → ((labels : List Held) (state : State) → AreLegal state committed → Moves entries (rest labels state)
      (rest labels (after state committed))) → Moves entries (go_on here rest) (go_on there rest)
  go_on_moves (Ran step Ended labels state) there rest step_moves rest_moves commute =
      let step_moved = step_moves (commute_left (entries_of_step step) _ committed commute) in
      let rest_moved = rest_moves labels state step_moved.0 (commute_right (entries_of_step step) _ committed commute) in
      (rest_moved.0, ap (λ run. go_on run rest) step_moved.1 ∙ ap (before_rest step) rest_moved.1)
  go_on_moves (Ran step (Aborted reason) labels state) there rest step_moves rest_moves commute =
      let step_moved = step_moves (commute_left (entries_of_step step) [] committed commute) in
      (step_moved.0, ap (λ run. go_on run rest) step_moved.1)

  go_on_children_moves : (here there : Execution TakenChild) (younger : State → Execution TakenChildren) → Moves entries_of_child here there
      → ((state : State) → AreLegal state committed → Moves entries_of_children (younger state) (younger (after state committed)))
      → Moves entries_of_children (go_on_children here younger) (go_on_children there younger)
  go_on_children_moves (Ran child Ended labels state) there younger child_moves younger_moves commute =
      let child_moved = child_moves (commute_left (entries_of_child child) _ committed commute) in
      let younger_moved = younger_moves state child_moved.0 (commute_right (entries_of_child child) _ committed commute) in
      (younger_moved.0, ap (λ run. go_on_children run younger) child_moved.1 ∙ ap (before_younger child labels) younger_moved.1)
  go_on_children_moves (Ran child (Aborted reason) labels state) there younger child_moves younger_moves commute =
      let child_moved = child_moves (commute_left (entries_of_child child) [] committed commute) in
      (child_moved.0, ap (λ run. go_on_children run younger) child_moved.1)

  mutual
    unfolding one

    block_moves : (block : Block) (labels : List Held) (state : State) → AreLegal state committed → Moves entries (one block labels state)
        (one block labels (after state committed))
    block_moves NoStep labels state legal commute = (legal, refl)
    block_moves (Steps step rest) labels state legal commute =
        go_on_moves (one_step step labels state) (one_step step labels (after state committed))
        (λ added after_step. one rest (labels ++ added) after_step) (step_moves step labels state legal)
        (λ added after_step. block_moves rest (labels ++ added) after_step) commute

    step_moves : (step : Step) (labels : List Held) (state : State) → AreLegal state committed
        → Moves entries_of_step (one_step step labels state) (one_step step labels (after state committed))
    step_moves (Operation object call labelled) labels state legal commute = operation_moves object call labelled state legal
        (reply_at state object call) refl commute
    step_moves (Fill object template labelled refusal) labels state legal commute = filled_moves object labelled refusal state
        (fill labels template) legal commute
    step_moves (If label test then else) labels state legal commute =
        choice_moves (holds labels label test) (one then labels) (one else labels) state (block_moves then labels state legal)
        (block_moves else labels state legal) commute
    step_moves (Subaction body handlers labelled) labels state legal commute =
        let moved = act_moves labelled (one body labels state) (one body labels (after state committed))
        (one_handler handlers labels) state (block_moves body labels state legal)
        (λ reason. handlers_move handlers labels reason state legal) commute in
        (moved.0, ap (as_step Acted) moved.1)
    step_moves (Abort reason) labels state legal commute = (legal, refl)
    step_moves (Parallel children) labels state legal commute =
        let moved = children_move children labels state legal commute in
        (moved.0, ap (as_step InParallel) moved.1)

    handlers_move : (handlers : Handlers) (labels : List Held) (reason : Option ℕ) (state : State) → AreLegal state committed
        → Moves entries_of_handler (one_handler handlers labels reason state) (one_handler handlers labels reason (after state committed))
    handlers_move (ForReason reason handler others) labels aborted state legal commute =
        handler_choice_moves (is_for reason aborted) (one handler labels) (one_handler others labels aborted) state
        (block_moves handler labels state legal) (handlers_move others labels aborted state legal) commute
    handlers_move (Otherwise handler) labels aborted state legal commute =
        handler_moves (one handler labels state) (one handler labels (after state committed)) (block_moves handler labels state legal)
        commute
    handlers_move GoOn labels aborted state legal commute = (legal, refl)
    handlers_move Pass labels aborted state legal commute = (legal, refl)

    children_move : (children : Children) (labels : List Held) (state : State) → AreLegal state committed
        → Moves entries_of_children (one_children children labels state) (one_children children labels (after state committed))
    children_move NoChild labels state legal commute = (legal, refl)
    children_move (Child body handlers labelled younger) labels state legal commute =
        go_on_children_moves (act labelled (one body labels state) (one_handler handlers labels) state)
        (act labelled (one body labels (after state committed)) (one_handler handlers labels) (after state committed))
        (one_children younger labels) (act_moves labelled (one body labels state) (one body labels (after state committed))
        (one_handler handlers labels) state (block_moves body labels state legal)
        (λ reason. handlers_move handlers labels reason state legal)) (children_move younger labels) commute

pub shift : ShiftLaw
shift block labels state committed legal commute =
    let moved = block_moves committed block labels state legal commute in
    (moved.0, ap record_of moved.1, ap outcome_of moved.1, ap state_of moved.1)

pub children_shift : ChildrenShiftLaw
children_shift children labels state committed legal commute = children_move committed children labels state legal commute
