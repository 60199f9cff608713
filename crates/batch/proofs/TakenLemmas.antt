-- The steps and the children that were taken so far, and those that come next.
use Rattle.std.proofs.Common.{◌≡◌, ℕ, suc, ◌+◌, ◌<◌, List, [], ◌∷◌, ◌++◌, map, length, get_or, drop, refl, sym, ap, ◌∙◌, add-one, drop-cons}
use Rattle.std.proofs.Common.{Option}
use Rattle.std.proofs.lemmas.List.{map-append}
use Rattle.meaning.specs.declared.end.End.{End}
use Rattle.meaning.specs.declared.end.End.TheVariants.{Aborted}
use Rattle.meaning.specs.Trees as meant
use Rattle.meaning.specs.Trees.{Children, Child}
use Rattle.meaning.specs.Records as record_tree
use Rattle.meaning.specs.Records.{Nothing, Took, TakenStep, TakenChild, Undone, TakenHandler, NoHandler, Handled, TakenChildren}
use Rattle.meaning.specs.Shown.{Shown, AtEnd, shown, shown_step, shown_child, shown_children, ShownChildren}
use Rattle.batch.specs.Views as views
use Rattle.batch.specs.Views.{Tried, step_view, steps_view, subaction_view, children_view, taken_view, tried_view, before_end}
use Rattle.batch.specs.Views.{before_younger}
use Rattle.batch.specs.Running.{shown_handler}
use Rattle.batch.specs.declared.tree.Step.{Step}
use Rattle.batch.specs.declared.tree.Subaction.{Subaction}
use Rattle.batch.specs.declared.record.Record.{Record}
use Rattle.batch.specs.declared.record.Taken.{Taken}

-- ---- steps

-- the steps from the next one on
pub next_step : (steps : List Step) (i : ℕ) (x : Step) → i < length steps → x ≡ get_or steps i x → steps_view (drop i steps) ≡ meant.Steps
    (step_view x) (steps_view (drop (i + 1) steps))
next_step steps i x lt e =
    ap steps_view (drop-cons steps i x lt) ∙ ap (λ y. meant.Steps (step_view y) (steps_view (drop (suc i) steps))) (sym e) ∙ rw add-one refl

-- the record of these steps, and then of others
unfoldable pub record_after : List TakenStep → record_tree.Taken → record_tree.Taken
record_after [] rest = rest
record_after (step ∷ steps) rest = Took step (record_after steps rest)

pub record_after-more : (steps : List TakenStep) (step : TakenStep) (rest : record_tree.Taken) → record_after (steps ++ step ∷ []) rest
    ≡ record_after steps (Took step rest)
unfolding record_after
record_after-more [] step rest = refl
record_after-more (first ∷ steps) step rest = ap (Took first) (record_after-more steps step rest)

pub shown_record-after : (steps : List TakenStep) (outcome : End) → shown (record_after steps Nothing) outcome ≡ before_end
    (map shown_step steps) (AtEnd outcome)
unfolding record_after
shown_record-after [] outcome = refl
shown_record-after (step ∷ steps) outcome = ap (Shown.First (shown_step step)) (shown_record-after steps outcome)

-- what these steps show, and one more
pub more_steps : (taken : List Taken) (done : List TakenStep) (one_more : Taken) (step : TakenStep)
    → map taken_view taken ≡ map shown_step done → taken_view one_more ≡ shown_step step → map taken_view (taken ++ one_more ∷ [])
    ≡ map shown_step (done ++ step ∷ [])
more_steps taken done one_more step trees tree =
    map-append taken_view taken (one_more ∷ []) ∙ ap (λ xs. xs ++ taken_view one_more ∷ []) trees
    ∙ ap (λ y. map shown_step done ++ y ∷ []) tree ∙ sym (map-append shown_step done (step ∷ []))

-- ---- subactions and children

-- a body and a handler as they are shown
pub shown_undone : (body : record_tree.Taken) (reason : Option ℕ) (handler : TakenHandler)
    → views.shown_child (shown body (Aborted reason), shown_handler handler) ≡ shown_child (Undone body reason handler)
shown_undone body reason NoHandler = refl
shown_undone body reason (Handled handler outcome) = refl

-- the children from the next one on
abbrev pub children_from : Tried → Children → Children
children_from child younger = Child child.body child.handlers child.labelled younger

pub next_child : (children : List Subaction) (i : ℕ) (x : Subaction) → i < length children → x ≡ get_or children i x
    → children_view (drop i children) ≡ children_from (subaction_view x) (children_view (drop (i + 1) children))
next_child children i x lt e =
    ap children_view (drop-cons children i x lt) ∙ ap (λ y. children_from (subaction_view y) (children_view (drop (suc i) children)))
    (sym e) ∙ rw add-one refl

-- the records of these children, and then of others
unfoldable pub children_after : List TakenChild → TakenChildren → TakenChildren
children_after [] younger = younger
children_after (child ∷ children) younger = TakenChildren.Child child (children_after children younger)

pub children_after-more : (children : List TakenChild) (child : TakenChild) (rest : TakenChildren)
    → children_after (children ++ child ∷ []) rest ≡ children_after children (TakenChildren.Child child rest)
unfolding children_after
children_after-more [] child rest = refl
children_after-more (first ∷ children) child rest = ap (TakenChildren.Child first) (children_after-more children child rest)

pub shown_children-after : (children : List TakenChild) → shown_children (children_after children TakenChildren.NoChild) ≡ before_younger
    (map shown_child children) ShownChildren.NoChild
unfolding children_after
shown_children-after [] = refl
shown_children-after (child ∷ children) = ap (ShownChildren.Child (shown_child child)) (shown_children-after children)

-- what these children show, and one more
pub more_children : (tried : List (Record × Option Record)) (done : List TakenChild) (one_more : Record × Option Record)
    (child : TakenChild) → map tried_view tried ≡ map shown_child done → tried_view one_more ≡ shown_child child
    → map tried_view (tried ++ one_more ∷ []) ≡ map shown_child (done ++ child ∷ [])
more_children tried done one_more child trees tree =
    map-append tried_view tried (one_more ∷ []) ∙ ap (λ xs. xs ++ tried_view one_more ∷ []) trees
    ∙ ap (λ y. map shown_child done ++ y ∷ []) tree ∙ sym (map-append shown_child done (child ∷ []))
