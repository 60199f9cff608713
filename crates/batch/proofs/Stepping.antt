-- What the steps of a block run to, kind by kind.
use Rattle.std.proofs.Common.{◌≡◌, ℕ, Bool, List, [], get_or, refl, sym, ap, ◌∙◌, Option, Some, None, Vec, Box, Global}
use Rattle.objects.specs.declared.kind.Call.{Call}
use Rattle.objects.specs.declared.kind.Reply.{Reply}
use Rattle.meaning.specs.declared.end.End.TheVariants.{Ended, Aborted}
use Rattle.meaning.specs.declared.held.Held.{Held}
use Rattle.meaning.specs.declared.held.Held.TheVariants.{Replied}
use Rattle.meaning.specs.declared.template.Refusal.{Refusal}
use Rattle.meaning.specs.declared.template.Template.{Template}
use Rattle.meaning.specs.declared.test.Test.{Test}
use Rattle.meaning.specs.Filling.{end_after, fill, reason_for}
use Rattle.objects.specs.Entries.{State, reply_at, after_call}
use Rattle.meaning.specs.Labels.{holds, holds_of}
use Rattle.meaning.specs.Trees as meant
use Rattle.meaning.specs.Records.{Performed, Filled, Acted, InParallel, TakenStep}
use Rattle.meaning.specs.OneThread.{Execution, Ran, label_if, operate, operate_made, operate_filled, choose, act, as_step, one, one_step}
use Rattle.meaning.specs.OneThread.{one_handler, one_children}
use Rattle.batch.specs.Views.{block_view, step_view, subaction_view, children_view}
use Rattle.batch.specs.Running.{CanStepHere, acted}
use Rattle.batch.specs.declared.tree.Block.{Block}
use Rattle.batch.specs.declared.tree.Step.{Step, Op, If, Sub, Abort, Parallel}
use Rattle.batch.specs.declared.tree.Subaction.{Subaction}
use Rattle.batch.proofs.ViewLemmas.{step_view-Op, step_view-If, step_view-Sub, step_view-Abort, step_view-Parallel}
use Rattle.batch.proofs.CanRun.{if-holds}

-- what a step is, seen as a tree
shows_as : (step : Step) (tree : meant.Step) (held : List Held) (state : State) (run : Execution TakenStep) → step_view step ≡ tree
    → one_step tree held state ≡ run → run ≡ one_step (step_view step) held state
shows_as step tree held state run is runs = sym (ap (λ s. one_step s held state) is ∙ runs)

operation_runs : (object : ℕ) (call : Call) (labelled : Bool) (held : List Held) (state : State) (reply : Reply)
    → reply_at state object call ≡ Some reply
    → one_step (meant.Operation object call labelled) held state ≡ Ran (Performed (record { object = object; call = call; reply = reply }))
    Ended (label_if labelled (Replied reply)) (after_call state object call)
unfolding one
operation_runs object call labelled held state reply is = ap (operate object call labelled state) is

pub op-runs : (step : Step) (object : ℕ) (call : Call) (labelled : Bool) (held : List Held) (state : State) (reply : Reply)
    → step ≡ Op object call labelled → reply_at state object call ≡ Some reply
    → Ran (Performed (record { object = object; call = call; reply = reply })) Ended (label_if labelled (Replied reply))
    (after_call state object call) ≡ one_step (step_view step) held state
op-runs step object call labelled held state reply is replies =
    shows_as step (meant.Operation object call labelled) held state _ (ap step_view is ∙ step_view-Op object call labelled)
    (operation_runs object call labelled held state reply replies)

-- a call is made of a template, and performed
pub fill_runs : (object : ℕ) (template : Template) (labelled : Bool) (refusal : Refusal) (held : List Held) (state : State) (call : Call)
    (reply : Reply) → Some call ≡ fill held template → reply_at state object call ≡ Some reply
    → Ran (Filled (record { object = object; call = call; reply = reply })) (end_after refusal reply) (label_if labelled (Replied reply))
    (after_call state object call) ≡ one_step (meant.Fill object template labelled refusal) held state
unfolding one
fill_runs object template labelled refusal held state call reply made is =
    sym (ap (operate_made object call labelled refusal state) is) ∙ ap (operate_filled object labelled refusal state) made

-- none can be made
pub fill_aborts : (object : ℕ) (template : Template) (labelled : Bool) (refusal : Refusal) (held : List Held) (state : State)
    → None ≡ fill held template
    → Ran TakenStep.Abort (Aborted (reason_for refusal)) [] state ≡ one_step (meant.Fill object template labelled refusal) held state
unfolding one
fill_aborts object template labelled refusal held state none = ap (operate_filled object labelled refusal state) none

if_runs : (label : ℕ) (t : Test) (then otherwise : meant.Block) (held : List Held) (state : State) (chosen : Bool)
    → holds held label t ≡ chosen
    → one_step (meant.If label t then otherwise) held state ≡ choose chosen (one then held) (one otherwise held) state
unfolding one
if_runs label t then otherwise held state chosen is = ap (λ b. choose b (one then held) (one otherwise held) state) is

pub if-runs : (step : Step) (label : ℕ) (t : Test) (then otherwise : Box Block Global) (held : List Held) (state : State) (read : Held)
    (chosen : Bool)
    → step ≡ If label t then otherwise → CanStepHere (step_view step) held state → read ≡ get_or held label read → holds_of t read ≡ chosen
    → choose chosen (one (block_view then.value) held) (one (block_view otherwise.value) held) state ≡ one_step (step_view step) held state
if-runs step label t then otherwise held state read chosen is h reads tests =
    shows_as step (meant.If label t (block_view then.value) (block_view otherwise.value)) held state _ (ap step_view is
    ∙ step_view-If label t then otherwise)
    (if_runs label t (block_view then.value) (block_view otherwise.value) held state chosen
    (if-holds step label t then otherwise held state read is h reads ∙ tests))

sub_runs : (body : meant.Block) (handlers : meant.Handlers) (labelled : Bool) (held : List Held) (state : State)
    → one_step (meant.Subaction body handlers labelled) held state ≡ as_step Acted
    (act labelled (one body held state) (one_handler handlers held) state)
unfolding one
sub_runs body handlers labelled held state = refl

pub sub-runs : (step : Step) (child : Box Subaction Global) (held : List Held) (state : State) → step ≡ Sub child
    → as_step Acted (acted (subaction_view child.value) held state) ≡ one_step (step_view step) held state
sub-runs step child held state is =
    let tried = subaction_view child.value in
    shows_as step (meant.Subaction tried.body tried.handlers tried.labelled) held state _ (ap step_view is ∙ step_view-Sub child)
    (sub_runs tried.body tried.handlers tried.labelled held state)

abort_runs : (reason : Option ℕ) (held : List Held) (state : State) → one_step (meant.Abort reason) held state ≡ Ran TakenStep.Abort
    (Aborted reason) [] state
unfolding one
abort_runs reason held state = refl

pub abort-runs : (step : Step) (reason : Option ℕ) (held : List Held) (state : State) → step ≡ Abort reason
    → Ran TakenStep.Abort (Aborted reason) [] state ≡ one_step (step_view step) held state
abort-runs step reason held state is = shows_as step (meant.Abort reason) held state _ (ap step_view is ∙ step_view-Abort reason)
    (abort_runs reason held state)

parallel_runs : (children : meant.Children) (held : List Held) (state : State) → one_step (meant.Parallel children) held state
    ≡ as_step InParallel (one_children children held state)
unfolding one
parallel_runs children held state = refl

pub parallel-runs : (step : Step) (children : Vec Subaction Global) (held : List Held) (state : State) → step ≡ Parallel children
    → as_step InParallel (one_children (children_view children.items) held state) ≡ one_step (step_view step) held state
parallel-runs step children held state is =
    shows_as step (meant.Parallel (children_view children.items)) held state _ (ap step_view is ∙ step_view-Parallel children)
    (parallel_runs (children_view children.items) held state)
