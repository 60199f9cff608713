-- The operations that are placed of a run are its entries, and those that are left are its net.
use Rattle.std.proofs.Common.{◌≡◌, ℕ, zero, suc, ◌+◌, List, [], ◌∷◌, ◌++◌, map, Bool, true, false, Option, Some, None, refl, sym, ap, ◌∙◌}
use Rattle.std.proofs.Common.{append-nil, subst}
use Rattle.std.specs.Prelude.{codes, ◌&&◌}
use Rattle.std.specs.Fmt.{decimal}
use Rattle.std.specs.List.{filter}
use Rattle.std.proofs.lemmas.List.{map-append}
use Rattle.std.proofs.lemmas.List.Elements.{filter-append}
use Rattle.objects.specs.declared.entry.Entry.{Entry}
use Rattle.objects.specs.declared.kind.Call.{Call}
use Rattle.objects.specs.declared.kind.Reply.{Reply}
use Rattle.objects.specs.Entries.{State, reply_at}
use Rattle.meaning.specs.declared.end.End.{End}
use Rattle.meaning.specs.declared.end.End.TheVariants.{Ended, Aborted}
use Rattle.meaning.specs.declared.held.Held.{Held}
use Rattle.meaning.specs.declared.test.Test.{Test}
use Rattle.meaning.specs.Labels.{holds}
use Rattle.meaning.specs.Filling.{fill}
use Rattle.meaning.specs.declared.template.Refusal.{Refusal}
use Rattle.meaning.specs.declared.template.Template.{Template}
use Rattle.meaning.specs.Trees as tree
use Rattle.meaning.specs.Trees.{Block, NoStep, Steps, Step, Operation, Fill, If, Subaction, Parallel, Handlers, ForReason, Otherwise}
use Rattle.meaning.specs.Trees.{GoOn, Pass, Children}
use Rattle.meaning.specs.Records as taken
use Rattle.meaning.specs.Records.{Taken, Nothing, Took, TakenStep, TakenChild, TakenHandler, TakenChildren, entries, entries_of_step}
use Rattle.meaning.specs.Records.{entries_of_child, entries_of_handler, entries_of_children, kept, kept_of_step, kept_of_child}
use Rattle.meaning.specs.Records.{kept_of_handler, kept_of_children, net}
use Rattle.meaning.specs.Shown.{AtEnd, ShownChildren, shown, shown_step, shown_child, shown_children, end_of}
use Rattle.meaning.specs.OneThread.{Execution, Ran, record_of, outcome_of, operate, operate_made, operate_filled, choose, is_for}
use Rattle.meaning.specs.OneThread.{choose_handler}
use Rattle.meaning.specs.OneThread.{act, go_on, go_on_children, one, one_step, one_handler, one_children}
use Rattle.meaning.specs.Batch.{block_at, state_at, alone, net_of, run_nets}
use Rattle.meaning.specs.Words.{Naming}
use Rattle.meaning.specs.Texts.{part, branch_path, handler_path, handler_block, pick, reason_of}
use Rattle.explain.specs.Why.{PlacedEntry, has_ended, placed, placed_step, placed_child, placed_children, placed_run, placed_nets}

abbrev pub entries_in : List PlacedEntry → List Entry
entries_in ps = map (λ p. p.entry) ps

abbrev pub left_in : List PlacedEntry → List PlacedEntry
left_in ps = filter (λ p. p.left) ps

abbrev kept_if : Bool → List Entry → List Entry
kept_if true es = es
kept_if false es = []

-- they are these entries, and those that are left are these others, or none
record IsPlaced (stays : Bool) (ps : List PlacedEntry) (es ks : List Entry) : Type 0 where
  all : entries_in ps ≡ es
  left : entries_in (left_in ps) ≡ kept_if stays ks

-- ---- lists of them

kept_none : (stays : Bool) → [] ≡ kept_if stays []
kept_none true = refl
kept_none false = refl

kept_both : (stays : Bool) (ks ms : List Entry) → kept_if stays ks ++ kept_if stays ms ≡ kept_if stays (ks ++ ms)
kept_both true ks ms = refl
kept_both false ks ms = refl

none : (stays : Bool) → IsPlaced stays [] [] []
none stays = record { all = refl; left = kept_none stays }

both : (stays : Bool) (ps qs : List PlacedEntry) (es fs ks ms : List Entry) → IsPlaced stays ps es ks → IsPlaced stays qs fs ms
    → IsPlaced stays (ps ++ qs) (es ++ fs) (ks ++ ms)
both stays ps qs es fs ks ms first second = record {
  all = map-append (λ p. p.entry) ps qs ∙ ap (λ xs. xs ++ entries_in qs) first.all ∙ ap (λ xs. es ++ xs) second.all;
  left =
      ap entries_in (filter-append (λ p. p.left) ps qs) ∙ map-append (λ p. p.entry) (left_in ps) (left_in qs)
      ∙ ap (λ xs. xs ++ entries_in (left_in qs)) first.left ∙ ap (λ xs. kept_if stays ks ++ xs) second.left ∙ kept_both stays ks ms;
}

-- where nothing follows
alone_placed : (stays : Bool) (ps : List PlacedEntry) (es ks : List Entry) → IsPlaced stays ps es ks
    → IsPlaced stays ps (es ++ []) (ks ++ [])
alone_placed stays ps es ks first = record {
  all = first.all ∙ sym (append-nil es);
  left = first.left ∙ ap (kept_if stays) (sym (append-nil ks));
}

-- a body that ended, and one that is taken back
ended_stays : (stays : Bool) (ps : List PlacedEntry) (es ks : List Entry) → IsPlaced (stays && true) ps es ks → IsPlaced stays ps es ks
ended_stays true ps es ks is = is
ended_stays false ps es ks is = is

taken_back : (stays : Bool) (ps : List PlacedEntry) (es ks : List Entry) → IsPlaced (stays && false) ps es ks → IsPlaced stays ps es []
taken_back true ps es ks is = record { all = is.all; left = is.left }
taken_back false ps es ks is = record { all = is.all; left = is.left }

pub end_of-shown : (done : Taken) (outcome : End) → end_of (shown done outcome) ≡ outcome
end_of-shown Nothing outcome = refl
end_of-shown (Took step rest) outcome = end_of-shown rest outcome

-- ---- parts of runs

module _ (names : Naming) where
  -- the record of a block from its n-th step on
  abbrev BlockPlaced : List ℕ → ℕ → Bool → Block → Execution Taken → Type 0
  BlockPlaced path n stays block run = IsPlaced stays (placed names path n stays block (shown (record_of run) (outcome_of run)))
      (entries (record_of run)) (kept (record_of run))

  abbrev StepPlaced : List ℕ → Bool → Step → Execution TakenStep → Type 0
  StepPlaced path stays step run = IsPlaced stays (placed_step names path stays step (shown_step (record_of run)))
      (entries_of_step (record_of run)) (kept_of_step (record_of run))

  abbrev placed_handler : List ℕ → Bool → Block → TakenHandler → List PlacedEntry
  placed_handler path stays block taken.NoHandler = []
  placed_handler path stays block (taken.Handled handler outcome) = placed names path 1 stays block (shown handler outcome)

  abbrev HandlerPlaced : List ℕ → Bool → Block → Execution TakenHandler → Type 0
  HandlerPlaced path stays block run = IsPlaced stays (placed_handler path stays block (record_of run))
      (entries_of_handler (record_of run)) (kept_of_handler (record_of run))

  abbrev ChildPlaced : List ℕ → Bool → Block → Handlers → Execution TakenChild → Type 0
  ChildPlaced path stays body handlers run = IsPlaced stays (placed_child names path stays body handlers (shown_child (record_of run)))
      (entries_of_child (record_of run)) (kept_of_child (record_of run))

  abbrev ChildrenPlaced : List ℕ → ℕ → Bool → Children → Execution TakenChildren → Type 0
  ChildrenPlaced path n stays children run = IsPlaced stays (placed_children names path n stays children (shown_children (record_of run)))
      (entries_of_children (record_of run)) (kept_of_children (record_of run))

  end_placed : (path : List ℕ) (n : ℕ) (stays : Bool) (block : Block) (outcome : End)
      → IsPlaced stays (placed names path n stays block (AtEnd outcome)) [] []
  end_placed path n stays NoStep outcome = none stays
  end_placed path n stays (Steps step rest) outcome = none stays

  end_children_placed : (path : List ℕ) (n : ℕ) (stays : Bool) (children : Children)
      → IsPlaced stays (placed_children names path n stays children ShownChildren.NoChild) [] []
  end_children_placed path n stays Children.NoChild = none stays
  end_children_placed path n stays (Children.Child body handlers labelled younger) = none stays

  one_placed : (path : List ℕ) (stays : Bool) (entry : Entry)
      → IsPlaced stays (record { path = path; entry = entry; left = stays } ∷ []) (entry ∷ []) (entry ∷ [])
  one_placed path true entry = record { all = refl; left = refl }
  one_placed path false entry = record { all = refl; left = refl }

  operation_placed : (path : List ℕ) (stays : Bool) (object : ℕ) (call : Call) (labelled : Bool) (state : State) (reply : Option Reply)
      → StepPlaced path stays (Operation object call labelled) (operate object call labelled state reply)
  operation_placed path stays object call labelled state None = none stays
  operation_placed path stays object call labelled state (Some reply) =
      one_placed path stays (record { object = object; call = call; reply = reply })

  made_placed : (path : List ℕ) (stays : Bool) (object : ℕ) (template : Template) (labelled : Bool) (refusal : Refusal) (state : State)
      (call : Call) (reply : Option Reply)
      → StepPlaced path stays (Fill object template labelled refusal) (operate_made object call labelled refusal state reply)
  made_placed path stays object template labelled refusal state call None = none stays
  made_placed path stays object template labelled refusal state call (Some reply) =
      one_placed path stays (record { object = object; call = call; reply = reply })

  filled_placed : (path : List ℕ) (stays : Bool) (object : ℕ) (template : Template) (labelled : Bool) (refusal : Refusal) (state : State)
      (call : Option Call)
      → StepPlaced path stays (Fill object template labelled refusal) (operate_filled object labelled refusal state call)
  filled_placed path stays object template labelled refusal state None = none stays
  filled_placed path stays object template labelled refusal state (Some call) =
      made_placed path stays object template labelled refusal state call (reply_at state object call)

  choice_placed : (path : List ℕ) (stays : Bool) (label : ℕ) (test : Test) (first second : Block) (chosen : Bool)
      (then else : State → Execution Taken) (state : State) → BlockPlaced (branch_path path true) 1 stays first (then state)
      → BlockPlaced (branch_path path false) 1 stays second (else state)
      → StepPlaced path stays (If label test first second) (choose chosen then else state)
  choice_placed path stays label test first second true then else state is other = is
  choice_placed path stays label test first second false then else state other is = is

  handler_choice_placed : (here there : List ℕ) (stays : Bool) (first second : Block) (takes : Bool) (handler : State → Execution Taken)
      (others : State → Execution TakenHandler) (state : State) → BlockPlaced here 1 stays first (handler state)
      → HandlerPlaced there stays second (others state)
      → HandlerPlaced (pick takes here there) stays (pick takes first second) (choose_handler takes handler others state)
  handler_choice_placed here there stays first second true handler others state is other = is
  handler_choice_placed here there stays first second false handler others state other is = is

  ended_child : (path : List ℕ) (stays : Bool) (block : Block) (body : Taken) (handlers : Handlers)
      → ((s : Bool) → IsPlaced s (placed names (path ++ codes ".b") 1 s block (shown body Ended)) (entries body) (kept body))
      → IsPlaced stays (placed_child names path stays block handlers (shown_child (taken.Committed body))) (entries body) (kept body)
  ended_child path stays block body handlers is =
      subst (λ o. IsPlaced stays (placed names (path ++ codes ".b") 1 (stays && has_ended o) block (shown body Ended)) (entries body)
      (kept body)) (sym (end_of-shown body Ended))
      (ended_stays stays _ _ _ (is (stays && true)))

  undone_child : (path : List ℕ) (stays : Bool) (block : Block) (body : Taken) (reason : Option ℕ) (handlers : Handlers)
      (done : TakenHandler)
      → ((s : Bool) → IsPlaced s (placed names (path ++ codes ".b") 1 s block (shown body (Aborted reason))) (entries body) (kept body))
      → IsPlaced stays (placed_handler (handler_path names path handlers reason) stays (handler_block handlers reason) done)
      (entries_of_handler done) (kept_of_handler done)
      → IsPlaced stays (placed_child names path stays block handlers (shown_child (taken.Undone body reason done)))
      (entries body ++ entries_of_handler done) (kept_of_handler done)
  undone_child path stays block body reason handlers taken.NoHandler is handled =
      subst (λ o. IsPlaced stays (placed names (path ++ codes ".b") 1 (stays && has_ended o) block (shown body (Aborted reason)))
      (entries body ++ []) []) (sym (end_of-shown body (Aborted reason)))
      (alone_placed stays _ _ _ (taken_back stays _ _ _ (is (stays && false))))
  undone_child path stays block body reason handlers (taken.Handled handler outcome) is handled =
      subst (λ o. IsPlaced stays (placed names (path ++ codes ".b") 1 (stays && has_ended o) block (shown body (Aborted reason))
      ++ placed names (handler_path names path handlers (reason_of o)) 1 stays (handler_block handlers (reason_of o))
      (shown handler outcome))
      (entries body ++ entries handler) (kept handler)) (sym (end_of-shown body (Aborted reason)))
      (both stays _ _ _ _ _ _ (taken_back stays _ _ _ (is (stays && false))) handled)

  act_placed : (path : List ℕ) (stays labelled : Bool) (block : Block) (handlers : Handlers) (body : Execution Taken)
      (handle : Option ℕ → State → Execution TakenHandler) (state : State)
      → ((s : Bool) → BlockPlaced (path ++ codes ".b") 1 s block body)
      → ((reason : Option ℕ) → HandlerPlaced (handler_path names path handlers reason) stays (handler_block handlers reason)
      (handle reason state))
      → ChildPlaced path stays block handlers (act labelled body handle state)
  act_placed path stays labelled block handlers (Ran body Ended labels after_body) handle state is handled =
      ended_child path stays block body handlers is
  act_placed path stays labelled block handlers (Ran body (Aborted reason) labels after_body) handle state is handled =
      undone_child path stays block body reason handlers (record_of (handle reason state)) is (handled reason)

  go_on_placed : (path : List ℕ) (n : ℕ) (stays : Bool) (step : Step) (block : Block) (run : Execution TakenStep)
      (rest : List Held → State → Execution Taken) → StepPlaced (part path n) stays step run
      → ((labels : List Held) (state : State) → BlockPlaced path (n + 1) stays block (rest labels state))
      → BlockPlaced path n stays (Steps step block) (go_on run rest)
  go_on_placed path n stays step block (Ran done Ended labels state) rest first others =
      both stays _ _ _ _ _ _ first (others labels state)
  go_on_placed path n stays step block (Ran done (Aborted reason) labels state) rest first others =
      both stays _ _ _ _ _ _ first (end_placed path (n + 1) stays block (Aborted reason))

  go_on_children_placed : (path : List ℕ) (n : ℕ) (stays labelled : Bool) (block : Block) (handlers : Handlers) (younger : Children)
      (run : Execution TakenChild) (rest : State → Execution TakenChildren) → ChildPlaced (part path n) stays block handlers run
      → ((state : State) → ChildrenPlaced path (n + 1) stays younger (rest state))
      → ChildrenPlaced path n stays (Children.Child block handlers labelled younger) (go_on_children run rest)
  go_on_children_placed path n stays labelled block handlers younger (Ran done Ended labels state) rest first others =
      both stays _ _ _ _ _ _ first (others state)
  go_on_children_placed path n stays labelled block handlers younger (Ran done (Aborted reason) labels state) rest first others =
      both stays _ _ _ _ _ _ first (end_children_placed path (n + 1) stays younger)

  mutual
    unfolding one

    block_placed : (path : List ℕ) (n : ℕ) (stays : Bool) (block : Block) (labels : List Held) (state : State)
        → BlockPlaced path n stays block (one block labels state)
    block_placed path n stays NoStep labels state = none stays
    block_placed path n stays (Steps step rest) labels state =
        go_on_placed path n stays step rest (one_step step labels state) (λ added mid. one rest (labels ++ added) mid)
        (step_placed (part path n) stays step labels state) (λ added. block_placed path (n + 1) stays rest (labels ++ added))

    step_placed : (path : List ℕ) (stays : Bool) (step : Step) (labels : List Held) (state : State)
        → StepPlaced path stays step (one_step step labels state)
    step_placed path stays (Operation object call labelled) labels state =
        operation_placed path stays object call labelled state (reply_at state object call)
    step_placed path stays (Fill object template labelled refusal) labels state =
        filled_placed path stays object template labelled refusal state (fill labels template)
    step_placed path stays (If label test then else) labels state =
        choice_placed path stays label test then else (holds labels label test) (one then labels) (one else labels) state
        (block_placed (branch_path path true) 1 stays then labels state) (block_placed (branch_path path false) 1 stays else labels state)
    step_placed path stays (Subaction body handlers labelled) labels state =
        act_placed path stays labelled body handlers (one body labels state) (one_handler handlers labels) state
        (λ s. block_placed (path ++ codes ".b") 1 s body labels state) (λ reason. handlers_placed path stays handlers labels reason state)
    step_placed path stays (tree.Abort reason) labels state = none stays
    step_placed path stays (Parallel children) labels state = children_placed path 1 stays children labels state

    handlers_placed : (path : List ℕ) (stays : Bool) (handlers : Handlers) (labels : List Held) (reason : Option ℕ) (state : State)
        → HandlerPlaced (handler_path names path handlers reason) stays (handler_block handlers reason)
        (one_handler handlers labels reason state)
    handlers_placed path stays (ForReason reason handler others) labels aborted state =
        handler_choice_placed (path ++ codes ".h:" ++ names.reason reason) (handler_path names path others aborted) stays handler
        (handler_block others aborted) (is_for reason aborted) (one handler labels) (one_handler others labels aborted) state
        (block_placed (path ++ codes ".h:" ++ names.reason reason) 1 stays handler labels state)
        (handlers_placed path stays others labels aborted state)
    handlers_placed path stays (Otherwise handler) labels aborted state = block_placed (path ++ codes ".h") 1 stays handler labels state
    handlers_placed path stays GoOn labels aborted state = none stays
    handlers_placed path stays Pass labels aborted state = none stays

    children_placed : (path : List ℕ) (n : ℕ) (stays : Bool) (children : Children) (labels : List Held) (state : State)
        → ChildrenPlaced path n stays children (one_children children labels state)
    children_placed path n stays Children.NoChild labels state = none stays
    children_placed path n stays (Children.Child body handlers labelled younger) labels state =
        go_on_children_placed path n stays labelled body handlers younger
        (act labelled (one body labels state) (one_handler handlers labels) state) (one_children younger labels)
        (act_placed (part path n) stays labelled body handlers (one body labels state) (one_handler handlers labels) state
        (λ s. block_placed (part path n ++ codes ".b") 1 s body labels state)
        (λ reason. handlers_placed (part path n) stays handlers labels reason state))
        (children_placed path (n + 1) stays younger labels)

-- ---- whole runs

kept_if-net : (done : Taken) (outcome : End) → kept_if (has_ended outcome) (kept done) ≡ net done outcome
kept_if-net done Ended = refl
kept_if-net done (Aborted reason) = refl

module _ (names : Naming) (start : State) (batch : List Block) where
  pub run_entries : (i b : ℕ) → entries_in (placed_run names start batch i b) ≡ entries (record_of (alone start batch i b))
  run_entries i b = (block_placed names (decimal (i + 1)) 1 (has_ended (outcome_of (alone start batch i b))) (block_at batch i) []
      (state_at start batch b)).all

  pub run_net : (i b : ℕ) → entries_in (left_in (placed_run names start batch i b)) ≡ net_of (alone start batch i b)
  run_net i b =
      let run : Execution Taken = alone start batch i b in
      (block_placed names (decimal (i + 1)) 1 (has_ended (outcome_of run)) (block_at batch i) [] (state_at start batch b)).left
      ∙ kept_if-net (record_of run) (outcome_of run)

  pub nets_entries : (b i count : ℕ) → entries_in (placed_nets names start batch b i count) ≡ run_nets start batch b i count
  unfolding placed_nets run_nets
  nets_entries b i zero = refl
  nets_entries b i (suc count) =
      map-append (λ p. p.entry) (left_in (placed_run names start batch i b)) (placed_nets names start batch b (suc i) count)
      ∙ ap (λ xs. xs ++ entries_in (placed_nets names start batch b (suc i) count)) (run_net i b)
      ∙ ap (λ xs. net_of (alone start batch i b) ++ xs) (nets_entries b (suc i) count)
