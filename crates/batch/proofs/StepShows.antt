-- What the steps of a block show, kind by kind.
use Rattle.std.proofs.Common.{◌≡◌, ℕ, Bool, true, false, List, [], ◌∷◌, ◌++◌, get_or, refl, sym, ap, subst, ◌∙◌, Option, Some, None, Vec}
use Rattle.std.proofs.Common.{Box, Global}
use Rattle.std.proofs.lemmas.List.{append-nil}
use Rattle.objects.specs.declared.kind.Call.{Call}
use Rattle.objects.specs.declared.entry.Entry.{Entry}
use Rattle.objects.specs.declared.kind.Reply.{Reply}
use Rattle.meaning.specs.declared.end.End.{End}
use Rattle.meaning.specs.declared.end.End.TheVariants.{Ended, Aborted}
use Rattle.meaning.specs.declared.held.Held.{Held}
use Rattle.meaning.specs.declared.held.Held.TheVariants.{Replied, Outcome}
use Rattle.meaning.specs.declared.template.Refusal.{Refusal}
use Rattle.meaning.specs.declared.template.Template.{Template}
use Rattle.meaning.specs.declared.test.Test.{Test}
use Rattle.meaning.specs.Filling.{end_after, fill, reason_for}
use Rattle.meaning.specs.Trees as meant
use Rattle.objects.specs.Entries.{reply_at}
use Rattle.meaning.specs.Labels.{holds_of}
use Rattle.meaning.specs.Shown.{ShownStep}
use Rattle.meaning.specs.OneThread.{Execution, label_if, as_branch, one, one_step, one_children}
use Rattle.batch.specs.Views.{block_view, step_view, subaction_view, children_view, record_view, taken_view, tried_view}
use Rattle.batch.specs.Running.{CanStepHere, acted}
use Rattle.batch.specs.declared.tree.Block.{Block}
use Rattle.batch.specs.declared.tree.Step.{Step, Op, If, Sub, Abort, Parallel}
use Rattle.batch.specs.declared.tree.Subaction.{Subaction}
use Rattle.batch.specs.declared.record.Record.{Record}
use Rattle.batch.specs.declared.record.Taken as taken
use Rattle.batch.specs.declared.record.Made.{Made}
use Rattle.batch.proofs.ViewLemmas.{taken_view-Op, taken_view-Filled, taken_view-If, taken_view-Abort, taken_view-Parallel}
use Rattle.batch.proofs.Stepping.{op-runs, fill_runs, fill_aborts, if-runs, sub-runs, abort-runs, parallel-runs}
use Rattle.batch.specs.Grounds.{Ground, IsGround}
use Rattle.batch.specs.Shows.{ShowsRun, ShowsStep, ShowsTried, ShowsChildren}
use Rattle.batch.specs.declared.tried.Tried as executed

module _ {V : Type 0} {g : Ground V} (on : IsGround g) where
  -- ---- operations

  pub op-shows : (step : Step) (object : ℕ) (call : Call) (labelled : Bool) (held seen : List Held) (before now : V) (reply : Reply)
      → step ≡ Op object call labelled → reply_at (g.state before) object call ≡ Some reply
      → (let entry : Entry = record { object = object; call = call; reply = reply } in g.Took before (entry ∷ []) (entry ∷ []) now)
      → seen ≡ held ++ label_if labelled (Replied reply)
      → ShowsStep g (one_step (step_view step) held (g.state before)) (taken.Op reply) Ended held seen before now
  op-shows step object call labelled held seen before now reply is replies took labels =
      let run = op-runs step object call labelled held (g.state before) reply is replies in
      subst (λ r. ShowsStep g r (taken.Op reply) Ended held seen before now) run
      (record { tree = taken_view-Op reply; end = refl; labels = λ _. labels; took = took })

  -- ---- operations whose calls are made when they are reached

  pub fill-shows : (object : ℕ) (template : Template) (labelled : Bool) (refusal : Refusal) (held seen : List Held) (before now : V)
      (call : Call) (reply : Reply) (made : Box Made Global)
      → Some call ≡ fill held template → reply_at (g.state before) object call ≡ Some reply
      → (let entry : Entry = record { object = object; call = call; reply = reply } in g.Took before (entry ∷ []) (entry ∷ []) now)
      → seen ≡ held ++ label_if labelled (Replied reply) → made.value ≡ record { call = call; reply = reply }
      → ShowsStep g (one_step (meant.Fill object template labelled refusal) held (g.state before)) (taken.Filled made)
      (end_after refusal reply) held seen before now
  fill-shows object template labelled refusal held seen before now call reply made is replies took labels boxes =
      subst (λ r. ShowsStep g r (taken.Filled made) (end_after refusal reply) held seen before now)
      (fill_runs object template labelled refusal held (g.state before) call reply is replies)
      (record {
        tree = taken_view-Filled made ∙ ap (λ m. ShownStep.Filled m.call m.reply) boxes;
        end = refl;
        labels = λ _. labels;
        took = took;
      })

  pub fill_abort-shows : (object : ℕ) (template : Template) (labelled : Bool) (refusal : Refusal) (held : List Held) (before : V)
      → None ≡ fill held template
      → ShowsStep g (one_step (meant.Fill object template labelled refusal) held (g.state before)) taken.Abort
      (Aborted (reason_for refusal)) held held before before
  fill_abort-shows object template labelled refusal held before none =
      subst (λ r. ShowsStep g r taken.Abort (Aborted (reason_for refusal)) held held before before)
      (fill_aborts object template labelled refusal held (g.state before) none)
      (record { tree = taken_view-Abort; end = refl; labels = λ _. sym (append-nil held); took = on.none before })

  -- ---- ifs

  branch_shows : (chosen : Bool) (run : Execution _) (held seen : List Held) (before now : V) (done : Record) (branch : Box Record Global)
      → branch.value ≡ done → ShowsRun g run done before now → seen ≡ held
      → ShowsStep g (as_branch chosen run) (taken.If chosen branch) done.outcome held seen before now
  branch_shows chosen run held seen before now done branch boxes shows labels =
      record {
        tree = taken_view-If chosen branch ∙ ap (λ r. ShownStep.Branched chosen (record_view r)) boxes
            ∙ ap (ShownStep.Branched chosen) shows.tree;
        end = shows.end;
        labels = λ _. labels ∙ sym (append-nil held);
        took = shows.took;
      }

  pub if-shows_then : (step : Step) (label : ℕ) (t : Test) (then otherwise : Box Block Global) (held seen : List Held) (before now : V)
      (read : Held) (chosen : Bool) (done : Record) (branch : Box Record Global)
      → step ≡ If label t then otherwise → CanStepHere (step_view step) held (g.state before) → read ≡ get_or held label read
      → chosen ≡ holds_of t read → chosen ≡ true
      → ShowsRun g (one (block_view then.value) held (g.state before)) done before now → seen ≡ held → branch.value ≡ done
      → ShowsStep g (one_step (step_view step) held (g.state before)) (taken.If chosen branch) done.outcome held seen before now
  if-shows_then step label t then otherwise held seen before now read chosen done branch is h reads tests yes_it_is shows labels boxes =
      let state = g.state before in
      let run = if-runs step label t then otherwise held state read true is h reads (sym tests ∙ yes_it_is) in
      subst (λ r. ShowsStep g r (taken.If chosen branch) done.outcome held seen before now) run
      (subst (λ b. ShowsStep g (as_branch true (one (block_view then.value) held state)) (taken.If b branch) done.outcome held seen before
      now) (sym yes_it_is) (branch_shows true _ held seen before now done branch boxes shows labels))

  pub if-shows_else : (step : Step) (label : ℕ) (t : Test) (then otherwise : Box Block Global) (held seen : List Held) (before now : V)
      (read : Held) (chosen : Bool) (done : Record) (branch : Box Record Global)
      → step ≡ If label t then otherwise → CanStepHere (step_view step) held (g.state before) → read ≡ get_or held label read
      → chosen ≡ holds_of t read → chosen ≡ false
      → ShowsRun g (one (block_view otherwise.value) held (g.state before)) done before now → seen ≡ held → branch.value ≡ done
      → ShowsStep g (one_step (step_view step) held (g.state before)) (taken.If chosen branch) done.outcome held seen before now
  if-shows_else step label t then otherwise held seen before now read chosen done branch is h reads tests no_it_is shows labels boxes =
      let state = g.state before in
      let run = if-runs step label t then otherwise held state read false is h reads (sym tests ∙ no_it_is) in
      subst (λ r. ShowsStep g r (taken.If chosen branch) done.outcome held seen before now) run
      (subst (λ b. ShowsStep g (as_branch false (one (block_view otherwise.value) held state)) (taken.If b branch) done.outcome held seen
      before now) (sym no_it_is) (branch_shows false _ held seen before now done branch boxes shows labels))

  -- ---- subactions

  pub sub-shows : (step : Step) (child : Box Subaction Global) (held seen : List Held) (before now : V) (done : executed.Tried)
      (as_taken : taken.Taken)
      → step ≡ Sub child → ShowsTried g (subaction_view child.value) (acted (subaction_view child.value) held (g.state before)) done before
      now
      → seen ≡ held ++ label_if (subaction_view child.value).labelled (Outcome done.body.outcome)
      → taken_view as_taken ≡ ShownStep.Acted (tried_view (done.body, done.handler))
      → ShowsStep g (one_step (step_view step) held (g.state before)) as_taken done.end held seen before now
  sub-shows step child held seen before now done as_taken is shows labels tree =
      let run = sub-runs step child held (g.state before) is in
      subst (λ r. ShowsStep g r as_taken done.end held seen before now) run (record {
        tree = tree ∙ ap ShownStep.Acted shows.tree;
        end = shows.end;
        labels = λ ended. labels ∙ ap (λ ls. held ++ ls) (sym (shows.labels ended));
        took = shows.took;
      })

  -- ---- aborts

  pub abort-shows : (step : Step) (reason : Option ℕ) (held : List Held) (before : V) → step ≡ Abort reason
      → ShowsStep g (one_step (step_view step) held (g.state before)) taken.Abort (Aborted reason) held held before before
  abort-shows step reason held before is =
      let run = abort-runs step reason held (g.state before) is in
      subst (λ r. ShowsStep g r taken.Abort (Aborted reason) held held before before) run
      (record { tree = taken_view-Abort; end = refl; labels = λ _. sym (append-nil held); took = on.none before })

  -- ---- parallel steps

  pub parallel-shows : (step : Step) (children : Vec Subaction Global) (held seen outcomes : List Held) (before now : V)
      (done : Vec (Record × Option Record) Global) (how : End)
      → step ≡ Parallel children → ShowsChildren g (one_children (children_view children.items) held (g.state before)) done.items how
      outcomes before now → seen ≡ held ++ outcomes
      → ShowsStep g (one_step (step_view step) held (g.state before)) (taken.Parallel done) how held seen before now
  parallel-shows step children held seen outcomes before now done how is shows labels =
      let run = parallel-runs step children held (g.state before) is in
      subst (λ r. ShowsStep g r (taken.Parallel done) how held seen before now) run (record {
        tree = taken_view-Parallel done ∙ ap ShownStep.InParallel shows.tree;
        end = shows.end;
        labels = λ ended. labels ∙ ap (λ ls. held ++ ls) (shows.labels ended);
        took = shows.took;
      })
