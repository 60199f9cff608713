-- Where the parts of a tree can be run, so can theirs.
use Rattle.std.proofs.Common.{◌≡◌, ℕ, ◌+◌, ◌<◌, ◌≤◌, Bool, List, [], ◌∷◌, ◌++◌, map, length, get_or, take, Some, sym, ap, subst, ◌∙◌, arith}
use Rattle.std.proofs.Common.{append_assoc, zero, suc, Box, Global}
use Rattle.std.proofs.lemmas.List.{append-nil, get_or-map}
use Rattle.std.proofs.lemmas.Option.{slice_get_within, get_or_from_slice_get}
use Rattle.objects.specs.declared.kind.Call.{Call}
use Rattle.objects.specs.declared.kind.Kind.{Kind}
use Rattle.meaning.specs.declared.end.End.TheVariants.{Ended}
use Rattle.meaning.specs.declared.held.Held.{Held}
use Rattle.meaning.specs.declared.template.Refusal.{Refusal}
use Rattle.meaning.specs.declared.template.Template.{Template}
use Rattle.meaning.specs.declared.test.Test.{Test}
use Rattle.meaning.specs.Filling.{fill}
use Rattle.meaning.proofs.Fillings.{filled_law}
use Rattle.objects.specs.Entries.{State, kinds}
use Rattle.meaning.specs.Labels.{holds, holds_of, if_there}
use Rattle.meaning.specs.Trees as meant
use Rattle.meaning.specs.Trees.{Children, NoStep, Child}
use Rattle.meaning.specs.OneThread.{outcome_of, labels_of, state_of, one, one_step, one_handler}
use Rattle.meaning.specs.Batch.{block_at, state_at}
use Rattle.meaning.specs.WellFormed.{IsWellFormed, AreWellFormed, added_by, operations, operations_of_handlers}
use Rattle.meaning.specs.Running.{CanPerform, IsBound, KeepsKinds, all_operations}
use Rattle.meaning.proofs.HeldLabels.{more_labels, step_labels, test}
use Rattle.meaning.proofs.Keeping.{perform, step_keeps, block_keeps, handlers_keep, act_keeps, limit, batch_keeps}
use Rattle.batch.specs.Views.{Tried, block_view, step_view}
use Rattle.batch.specs.Names.{Texts}
use Rattle.batch.specs.Limits.{AllWellFormed, IsBatch}
use Rattle.batch.specs.Running.{CanRunHere, CanStepHere, CanTryHere, CanRunAllHere, StillSeen, acted}
use Rattle.batch.specs.declared.tree.Block.{Block}
use Rattle.batch.specs.declared.tree.Step.{Step, Op, If}
use Rattle.batch.proofs.ViewLemmas.{step_view-Op, step_view-If}

-- ---- steps one after the other

-- the first step can be taken, and the others after it
pub can_step : (step : meant.Step) (rest : meant.Block) (held : List Held) (state : State) → CanRunHere (meant.Steps step rest) held state
    → CanStepHere step held state
can_step step rest held state h = record {
  labels = h.labels;
  held_by = h.held_by;
  well_formed = h.well_formed.0;
  room =
      omega (arith, h.room);
}

pub can_run_rest : (step : meant.Step) (rest : meant.Block) (held : List Held) (state : State)
    → CanRunHere (meant.Steps step rest) held state
    → outcome_of (one_step step held state) ≡ Ended → CanRunHere rest (held ++ labels_of (one_step step held state))
    (state_of (one_step step held state))
can_run_rest step rest held state h ended =
    let keeps = step_keeps step held state in
    record {
      labels = h.labels ++ added_by step;
      held_by = more_labels held _ h.labels (added_by step) h.held_by (step_labels step held state ended);
      well_formed = subst (λ ks. IsWellFormed rest (h.labels ++ added_by step) ks) (sym keeps.same_kinds) h.well_formed.1;
      room = omega (arith, h.room, keeps.growth);
    }

-- ---- labels that are seen still

pub still_same : (held : List Held) → StillSeen held held
still_same held = ([], sym (append-nil held))

pub still_then : (first second third : List Held) → StillSeen first second → StillSeen second third → StillSeen first third
still_then first second third h k = (h.0 ++ k.0, k.1 ∙ ap (λ x. x ++ k.0) h.1 ∙ append_assoc first h.0 k.0)

-- ---- steps, kind by kind

can_as : (step : Step) (tree : meant.Step) (held : List Held) (state : State) → step_view step ≡ tree
    → CanStepHere (step_view step) held state → CanStepHere tree held state
can_as step tree held state is h = subst (λ s. CanStepHere s held state) is h

pub op-can : (step : Step) (object : ℕ) (call : Call) (labelled : Bool) (held : List Held) (state : State) → step ≡ Op object call labelled
    → CanStepHere (step_view step) held state → CanPerform state object call
op-can step object call labelled held state is h =
    let here = can_as step (meant.Operation object call labelled) held state (ap step_view is ∙ step_view-Op object call labelled) h in
    perform state object call here.well_formed here.room

pub fill_can : (object : ℕ) (template : Template) (labelled : Bool) (refusal : Refusal) (held : List Held) (state : State) (call : Call)
    → CanStepHere (meant.Fill object template labelled refusal) held state → Some call ≡ fill held template → CanPerform state object call
fill_can object template labelled refusal held state call h is =
    perform state object call ((filled_law held template call (sym is)).1 (kinds state) object h.well_formed.0) h.room

-- the label of an if
bound : (step : Step) (label : ℕ) (t : Test) (then otherwise : Box Block Global) (held : List Held) (state : State)
    → step ≡ If label t then otherwise → CanStepHere (step_view step) held state → IsBound held label t
bound step label t then otherwise held state is h =
    let here = can_as step (meant.If label t (block_view then.value) (block_view otherwise.value)) held state (ap step_view is
    ∙ step_view-If label t then otherwise) h in
    test held here.labels label t here.held_by here.well_formed.0

pub if-bound : (step : Step) (label : ℕ) (t : Test) (then otherwise : Box Block Global) (held : List Held) (state : State)
    → step ≡ If label t then otherwise → CanStepHere (step_view step) held state → label < length held
if-bound step label t then otherwise held state is h =
    let b = bound step label t then otherwise held state is h in slice_get_within held label b.found b.is

-- the test of what was read is that of the label
pub if-holds : (step : Step) (label : ℕ) (t : Test) (then otherwise : Box Block Global) (held : List Held) (state : State) (read : Held)
    → step ≡ If label t then otherwise → CanStepHere (step_view step) held state → read ≡ get_or held label read
    → holds held label t ≡ holds_of t read
if-holds step label t then otherwise held state read is h reads =
    let b = bound step label t then otherwise held state is h in
    ap (λ o. if_there o (holds_of t)) b.is ∙ ap (holds_of t) (sym (reads ∙ get_or_from_slice_get held label b.found read b.is))

-- ---- children

-- the first child can be tried, and the others run after it
pub can_try : (child : Tried) (younger : Children) (held : List Held) (state : State)
    → CanRunAllHere (Child child.body child.handlers child.labelled younger) held state → CanTryHere child held state
can_try child younger held state h =
    record {
      body = record { labels = h.labels; held_by = h.held_by; well_formed = h.well_formed.0; room = omega (arith, h.room) };
      handlers = record { labels = h.labels; held_by = h.held_by; well_formed = h.well_formed.1; room = omega (arith, h.room) };
    }

-- what a subaction keeps
acted_keeps : (child : Tried) (held : List Held) (state : State)
    → KeepsKinds (operations child.body + operations_of_handlers child.handlers) state (state_of (acted child held state))
acted_keeps child held state =
    act_keeps child.labelled (one child.body held state) (one_handler child.handlers held) state (operations child.body)
    (operations_of_handlers child.handlers) (block_keeps child.body held state)
    (λ reason. handlers_keep child.handlers held reason state)

pub can_run_younger : (child : Tried) (younger : Children) (held : List Held) (state : State)
    → CanRunAllHere (Child child.body child.handlers child.labelled younger) held state
    → CanRunAllHere younger held (state_of (acted child held state))
can_run_younger child younger held state h =
    let keeps = acted_keeps child held state in
    record {
      labels = h.labels;
      held_by = h.held_by;
      well_formed = subst (λ ks. AreWellFormed younger h.labels ks) (sym keeps.same_kinds) h.well_formed.2;
      room = omega (arith, h.room, keeps.growth);
    }

-- ---- transactions

pub well_formed_at : (blocks : List meant.Block) (ks : List Kind) (i : ℕ) → AllWellFormed blocks ks → i < length blocks
    → IsWellFormed (block_at blocks i) [] ks
well_formed_at [] ks i h lt = absurd (omega arith)
well_formed_at (block ∷ blocks) ks zero h lt = h.0
well_formed_at (block ∷ blocks) ks (suc i) h lt = well_formed_at blocks ks i h.1 (omega arith)

-- the block at a place, seen as a tree
pub block_at_view : (blocks : List Block) (i : ℕ) (x : Block) → i < length blocks → x ≡ get_or blocks i x
    → block_view x ≡ block_at (map block_view blocks) i
block_at_view blocks i x lt is = ap block_view is ∙ sym (get_or-map block_view blocks i x NoStep lt)

-- those before a place, and one from there on, have no more operations than all
pub operations_before : (blocks : List meant.Block) (b i : ℕ) → b ≤ i
    → all_operations (take b blocks) + operations (block_at blocks i) ≤ all_operations blocks
operations_before [] zero i le = omega arith
operations_before [] (suc b) i le = omega arith
operations_before (block ∷ blocks) zero zero le = omega arith
operations_before (block ∷ blocks) zero (suc i) le = let rest = operations_before blocks zero i (omega arith) in omega arith
operations_before (block ∷ blocks) (suc b) zero le = absurd (omega arith)
operations_before (block ∷ blocks) (suc b) (suc i) le = let rest = operations_before blocks b i (omega arith) in omega arith

-- each transaction can be run where those before it led
pub transaction_can_run : {version : ℕ} (start : State) (texts : Texts) (blocks : List meant.Block) (i : ℕ)
    → IsBatch version start texts blocks → i < length blocks → CanRunHere (block_at blocks i) [] (state_at start blocks i)
transaction_can_run start texts blocks i is lt =
    let keeps = batch_keeps start blocks i (omega arith) in
    let few = operations_before blocks i i (omega arith) in
    record {
      labels = [];
      held_by = tt;
      well_formed = subst (IsWellFormed (block_at blocks i) []) (sym keeps.same_kinds)
          (well_formed_at blocks (kinds start) i is.well_formed lt);
      room = limit (state_at start blocks i) (all_operations (take i blocks)) (operations (block_at blocks i))
          (omega (arith, keeps.growth, is.small)) (omega (arith, is.few_operations));
    }
