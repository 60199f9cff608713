-- What the steps and the children leave that come next.
use Rattle.std.proofs.Common.{◌≡◌, ℕ, ◌+◌, ◌<◌, ◌≤◌, List, [], ◌∷◌, ◌++◌, length, get_or, drop, map, Option, Some, refl, ap, ◌∙◌}
use Rattle.std.proofs.Math.ListN.{drop_of_length-le}
use Rattle.objects.specs.declared.entry.Entry.{Entry}
use Rattle.meaning.specs.declared.end.End.{End}
use Rattle.meaning.specs.declared.end.End.TheVariants.{Ended, Aborted}
use Rattle.meaning.specs.Trees as meant
use Rattle.meaning.specs.Trees.{NoStep, NoChild}
use Rattle.meaning.specs.Shown.{Shown, AtEnd, First, ShownStep, ShownChildren, end_of}
use Rattle.batch.specs.Views.{block_view, step_view, steps_view, subaction_view, children_view, taken_view, record_view, tried_view}
use Rattle.batch.specs.Views.{all_tried_view, before_end, Tried}
use Rattle.batch.specs.Left.{left as left_by, left_by_step, left_by_child, left_by_children, left_by_transaction, where_ended, taker_at}
use Rattle.batch.specs.declared.tree.Block.{Block}
use Rattle.batch.specs.declared.tree.Step.{Step}
use Rattle.batch.specs.declared.tree.Subaction.{Subaction}
use Rattle.batch.specs.declared.record.Record.{Record}
use Rattle.batch.specs.declared.record.Taken.{Taken}
use Rattle.batch.proofs.ViewLemmas.{block_view-is, record_view-is}
use Rattle.batch.proofs.CountLemmas.{left}

-- a block of no steps leaves nothing
no_step-left : (done : Shown) → left_by NoStep done ≡ []
no_step-left (AtEnd outcome) = refl
no_step-left (First step rest) = refl

-- no children leave nothing
no_child-left : (done : ShownChildren) → left_by_children NoChild done ≡ []
no_child-left ShownChildren.NoChild = refl
no_child-left (ShownChildren.Child child younger) = refl

-- how a record ends is how it shows to end
before_end-ends : (steps : List ShownStep) (outcome : End) → end_of (before_end steps (AtEnd outcome)) ≡ outcome
before_end-ends [] outcome = refl
before_end-ends (step ∷ steps) outcome = before_end-ends steps outcome

-- how a record ends is how it shows to end
pub record_ends : (done : Record) → end_of (record_view done) ≡ done.outcome
record_ends done = ap end_of (record_view-is done) ∙ before_end-ends (map taken_view done.taken.items) done.outcome

-- what the steps from the i-th on leave, and what shows of them
pub steps_left : ℕ → List Step → List Taken → End → List Entry
steps_left i steps taken outcome = left_by (steps_view (drop i steps)) (before_end (map taken_view (drop i taken)) (AtEnd outcome))

-- all steps
pub steps_left-start : (block : Block) (done : Record) → left_by (block_view block) (record_view done)
    ≡ steps_left 0 block.steps.items done.taken.items done.outcome
unfolding steps_left
steps_left-start block done = ap (λ b. left_by b (record_view done)) (block_view-is block)
    ∙ ap (left_by (steps_view block.steps.items)) (record_view-is done)

-- one step, and then the others
pub steps_left-more : (i : ℕ) (steps : List Step) (taken : List Taken) (outcome : End) (x : Step) (y : Taken) → i < length steps
    → x ≡ get_or steps i x → i < length taken → y ≡ get_or taken i y
    → steps_left i steps taken outcome ≡ left_by_step (step_view x) (taken_view y) ++ steps_left (i + 1) steps taken outcome
unfolding steps_left
steps_left-more i steps taken outcome x y lt is lt' is' =
    ap (λ ts. left_by (steps_view (drop i steps)) (before_end (map taken_view ts) (AtEnd outcome))) (left taken i y lt' is')
    ∙ ap (λ ss. left_by (steps_view ss) (before_end (map taken_view (y ∷ drop (i + 1) taken)) (AtEnd outcome))) (left steps i x lt is)

-- no step is left
pub steps_left-no_step : (i : ℕ) (steps : List Step) (taken : List Taken) (outcome : End) → length steps ≤ i
    → steps_left i steps taken outcome ≡ []
unfolding steps_left
steps_left-no_step i steps taken outcome le =
    ap (λ ss. left_by (steps_view ss) (before_end (map taken_view (drop i taken)) (AtEnd outcome))) (drop_of_length-le steps le)
    ∙ no_step-left (before_end (map taken_view (drop i taken)) (AtEnd outcome))

-- no step was taken after these
pub steps_left-end : (i : ℕ) (steps : List Step) (taken : List Taken) (outcome : End) → length taken ≤ i
    → steps_left i steps taken outcome ≡ []
unfolding steps_left
steps_left-end i steps taken outcome le =
    ap (λ ts. left_by (steps_view (drop i steps)) (before_end (map taken_view ts) (AtEnd outcome))) (drop_of_length-le taken le)

-- what the children from the i-th on leave, and what shows of them
pub children_left : ℕ → List Subaction → List (Record × Option Record) → List Entry
children_left i children tried = left_by_children (children_view (drop i children)) (all_tried_view (drop i tried))

-- all children
pub children_left-start : (children : List Subaction) (tried : List (Record × Option Record))
    → left_by_children (children_view children) (all_tried_view tried) ≡ children_left 0 children tried
unfolding children_left
children_left-start children tried = refl

-- one child, and then the others
pub children_left-more : (i : ℕ) (children : List Subaction) (tried : List (Record × Option Record)) (x : Subaction)
    (y : Record × Option Record) → i < length children → x ≡ get_or children i x → i < length tried → y ≡ get_or tried i y
    → children_left i children tried
    ≡ left_by_child (subaction_view x).body (subaction_view x).handlers (tried_view y) ++ children_left (i + 1) children tried
unfolding children_left
children_left-more i children tried x y lt is lt' is' =
    ap (λ ts. left_by_children (children_view (drop i children)) (all_tried_view ts)) (left tried i y lt' is')
    ∙ ap (λ cs. left_by_children (children_view cs) (all_tried_view (y ∷ drop (i + 1) tried))) (left children i x lt is)

-- no child is left
pub children_left-no_child : (i : ℕ) (children : List Subaction) (tried : List (Record × Option Record)) → length children ≤ i
    → children_left i children tried ≡ []
unfolding children_left
children_left-no_child i children tried le =
    ap (λ cs. left_by_children (children_view cs) (all_tried_view (drop i tried))) (drop_of_length-le children le)
    ∙ no_child-left (all_tried_view (drop i tried))

-- no child was tried after these
pub children_left-end : (i : ℕ) (children : List Subaction) (tried : List (Record × Option Record)) → length tried ≤ i
    → children_left i children tried ≡ []
unfolding children_left
children_left-end i children tried le =
    ap (λ ts. left_by_children (children_view (drop i children)) (all_tried_view ts)) (drop_of_length-le tried le)

-- a transaction that ended leaves what its block does
pub transaction_left-ended : (block : meant.Block) (done : Record) → done.outcome ≡ Ended
    → left_by_transaction block (record_view done) ≡ left_by block (record_view done)
transaction_left-ended block done is = ap (λ outcome. where_ended outcome (left_by block (record_view done))) (record_ends done ∙ is)

-- a transaction that aborted leaves nothing
pub transaction_left-aborted : (block : meant.Block) (done : Record) (reason : Option ℕ) → done.outcome ≡ Aborted reason
    → left_by_transaction block (record_view done) ≡ []
transaction_left-aborted block done reason is =
    ap (λ outcome. where_ended outcome (left_by block (record_view done))) (record_ends done ∙ is)

-- a subaction of which a handler ran leaves what the handler does
pub child_left-handled : (child : Tried) (body : Record) (handler : Option Record) (done : Record) → handler ≡ Some done
    → left_by_child child.body child.handlers (tried_view (body, handler))
    ≡ left_by (taker_at child.handlers body.outcome) (record_view done)
child_left-handled child body handler done is =
    ap (λ h. left_by_child child.body child.handlers (tried_view (body, h))) is
    ∙ ap (λ outcome. left_by (taker_at child.handlers outcome) (record_view done)) (record_ends body)
