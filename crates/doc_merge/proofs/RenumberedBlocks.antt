-- A list of steps, children or handlers that is renumbered from its first element on.
use Rattle.std.proofs.Common.{◌≡◌, ℕ, List, [], ◌∷◌, map, refl, ap, sym, ◌∙◌}
use Rattle.meaning.specs.declared.test.Test.{Test}
use Rattle.meaning.specs.Trees as meant
use Rattle.meaning.specs.Trees.{Block, Steps, Step, If, Handlers, ForReason, Child}
use Rattle.meaning.specs.Trees.{for_reasons}
use Rattle.batch.specs.Views.{Tried, block_view, children_of, handler_view, otherwise_view, step_view, steps_of, subaction_view}
use Rattle.batch.specs.Views.{filling_view}
use Rattle.std.specs.declared.alloc.Global.{Global}
use Rattle.std.specs.declared.boxed.Box.{Box}
use Rattle.std.specs.declared.vec.Vec.{Vec}
use Rattle.batch.specs.declared.tree.Block as declared_block
use Rattle.batch.specs.declared.tree.Filling.{Filling}
use Rattle.batch.specs.declared.tree.Step.{Fill, If as an_if, Sub, Parallel as a_parallel}
use Rattle.batch.specs.declared.tree.Subaction.{Subaction, out-Subaction}
use Rattle.batch.proofs.ViewLemmas.{subaction_view-body, subaction_view-handlers, subaction_view-labelled, step_view-Fill, step_view-If}
use Rattle.batch.proofs.ViewLemmas.{step_view-Sub, step_view-Parallel}
use Rattle.doc_merge.specs.Renumbered.{renumbered, renumbered_children, renumbered_handlers, renumbered_member, renumbered_step}
use Rattle.doc_merge.specs.Renumbered.{renumbered_test, renumbered_tried}

module _ (items reasons : ℕ → ℕ) where
  -- steps are renumbered one by one
  pub steps_again : (steps : List Step) → steps_of (map (renumbered_step items reasons) steps) ≡ renumbered items reasons (steps_of steps)
  steps_again [] = refl
  steps_again (step ∷ rest) = ap (Steps (renumbered_step items reasons step)) (steps_again rest)

  -- so are the handlers of reasons
  pub members_again : (members : List (ℕ × Block)) (others : Handlers)
      → for_reasons (map (renumbered_member items reasons) members) (renumbered_handlers items reasons others)
      ≡ renumbered_handlers items reasons (for_reasons members others)
  members_again [] others = refl
  members_again (first ∷ rest) others = ap (ForReason (reasons first.0) (renumbered items reasons first.1)) (members_again rest others)

  -- and children
  pub children_again : (children : List Tried) → children_of (map (renumbered_tried items reasons) children)
      ≡ renumbered_children items reasons (children_of children)
  children_again [] = refl
  children_again (child ∷ younger) =
      ap (Child (renumbered items reasons child.body) (renumbered_handlers items reasons child.handlers) child.labelled)
      (children_again younger)

  -- a subaction whose parts are renumbered
  pub subaction_again : (old new : Subaction) → block_view (out-Subaction new).body
      ≡ renumbered items reasons (block_view (out-Subaction old).body)
      → map handler_view (out-Subaction new).handlers.items
      ≡ map (renumbered_member items reasons) (map handler_view (out-Subaction old).handlers.items)
      → otherwise_view (out-Subaction new).otherwise ≡ renumbered_handlers items reasons (otherwise_view (out-Subaction old).otherwise)
      → (out-Subaction new).labelled ≡ (out-Subaction old).labelled
      → subaction_view new ≡ renumbered_tried items reasons (subaction_view old)
  subaction_again old new body by_reason last labelled =
      let members = map handler_view (out-Subaction old).handlers.items in
      let others = otherwise_view (out-Subaction old).otherwise in
      let bodies = subaction_view-body new ∙ body ∙ ap (renumbered items reasons) (sym (subaction_view-body old)) in
      let handlers = subaction_view-handlers new ∙ (λ i. for_reasons (by_reason i) (last i)) ∙ members_again members others
      ∙ ap (renumbered_handlers items reasons) (sym (subaction_view-handlers old)) in
      let labels = subaction_view-labelled new ∙ labelled ∙ sym (subaction_view-labelled old) in
      (λ i. record { body = bodies i; handlers = handlers i; labelled = labels i })

  -- an operation whose call is made when it is reached
  pub fill_again : (old new : Box Filling Global) → filling_view new.value ≡ renumbered_step items reasons (filling_view old.value)
      → step_view (Fill new) ≡ renumbered_step items reasons (step_view (Fill old))
  fill_again old new is = step_view-Fill new ∙ is ∙ ap (renumbered_step items reasons) (sym (step_view-Fill old))

  -- an `if` whose test and branches are renumbered
  pub if_again : (label : ℕ) (test sent : Test) (then otherwise first second : Box declared_block.Block Global)
      → sent ≡ renumbered_test items test
      → block_view first.value ≡ renumbered items reasons (block_view then.value)
      → block_view second.value ≡ renumbered items reasons (block_view otherwise.value)
      → step_view (an_if label sent first second) ≡ renumbered_step items reasons (step_view (an_if label test then otherwise))
  if_again label test sent then otherwise first second by one other =
      step_view-If label sent first second ∙ (λ i. If label (by i) (one i) (other i))
      ∙ ap (renumbered_step items reasons) (sym (step_view-If label test then otherwise))

  -- a subaction as a step
  pub sub_again : (old new : Box Subaction Global) → subaction_view new.value ≡ renumbered_tried items reasons (subaction_view old.value)
      → step_view (Sub new) ≡ renumbered_step items reasons (step_view (Sub old))
  sub_again old new is =
      step_view-Sub new ∙ ap (λ (child : Tried). meant.Subaction child.body child.handlers child.labelled) is
      ∙ ap (renumbered_step items reasons) (sym (step_view-Sub old))

  -- a parallel step
  pub parallel_again : (old new : Vec Subaction Global)
      → map subaction_view new.items ≡ map (renumbered_tried items reasons) (map subaction_view old.items)
      → step_view (a_parallel new) ≡ renumbered_step items reasons (step_view (a_parallel old))
  parallel_again old new is =
      step_view-Parallel new ∙ ap (λ all. meant.Parallel (children_of all)) is
      ∙ ap meant.Parallel (children_again (map subaction_view old.items))
      ∙ ap (renumbered_step items reasons) (sym (step_view-Parallel old))
