-- The operations that are left to place.
use Rattle.std.proofs.Common.{◌≡◌, ℕ, ◌+◌, ◌<◌, ◌≤◌, Bool, List, [], ◌∷◌, ◌++◌, length, get_or, drop, map, Option, Some, None, refl, sym}
use Rattle.std.proofs.Common.{ap, ◌∙◌, append-nil, append_assoc}
use Rattle.std.proofs.Math.ListN.{drop_of_length-le}
use Rattle.std.specs.Prelude.{codes, ◌&&◌}
use Rattle.meaning.specs.declared.end.End.{End}
use Rattle.meaning.specs.Trees as meant
use Rattle.meaning.specs.Trees.{NoStep, NoChild}
use Rattle.meaning.specs.Shown.{Shown, AtEnd, First, ShownChildren, end_of}
use Rattle.meaning.specs.Words.{Naming}
use Rattle.meaning.specs.Texts.{reason_of, handler_path, handler_block, part}
use Rattle.batch.specs.Views.{block_view, step_view, steps_view, subaction_view, children_view, taken_view, record_view, before_end}
use Rattle.batch.specs.Views.{tried_view, before_younger}
use Rattle.batch.specs.declared.tree.Step.{Step}
use Rattle.batch.specs.declared.tree.Subaction.{Subaction, out-Subaction}
use Rattle.batch.specs.declared.record.Record.{Record}
use Rattle.batch.specs.declared.record.Taken.{Taken}
use Rattle.batch.proofs.ViewLemmas.{subaction_view-body}
use Rattle.batch.proofs.CountLemmas.{left}
use Rattle.report.proofs.TextLemmas.{end_of-record_view}
use Rattle.explain.specs.Why.{PlacedEntry, has_ended, placed, placed_step, placed_child, placed_children}

module _ (names : Naming) (path : List ℕ) (stays : Bool) where
  -- no step, no operation
  pub none_placed : (n : ℕ) (done : Shown) → placed names path n stays NoStep done ≡ []
  none_placed n (AtEnd outcome) = refl
  none_placed n (First step rest) = refl

  end_placed : (n : ℕ) (block : meant.Block) (outcome : End) → placed names path n stays block (AtEnd outcome) ≡ []
  end_placed n NoStep outcome = refl
  end_placed n (meant.Steps step rest) outcome = refl

  no_children_placed : (n : ℕ) (done : ShownChildren) → placed_children names path n stays NoChild done ≡ []
  no_children_placed n ShownChildren.NoChild = refl
  no_children_placed n (ShownChildren.Child child younger) = refl

  end_children_placed : (n : ℕ) (children : meant.Children) → placed_children names path n stays children ShownChildren.NoChild ≡ []
  end_children_placed n NoChild = refl
  end_children_placed n (meant.Child body handlers labelled younger) = refl

  -- the operations of the steps from the i-th on, counted from 0
  pub rest_placed : ℕ → List Step → List Taken → End → List PlacedEntry
  rest_placed i steps taken outcome = placed names path (i + 1) stays (steps_view (drop i steps))
      (before_end (map taken_view (drop i taken)) (AtEnd outcome))

  pub rest_placed-start : (steps : List Step) (taken : List Taken) (outcome : End) → rest_placed 0 steps taken outcome
      ≡ placed names path 1 stays (steps_view steps) (before_end (map taken_view taken) (AtEnd outcome))
  unfolding rest_placed
  rest_placed-start steps taken outcome = refl

  pub rest_placed-more : (i : ℕ) (steps : List Step) (taken : List Taken) (outcome : End) (x : Step) (y : Taken) → i < length steps
      → x ≡ get_or steps i x → i < length taken → y ≡ get_or taken i y
      → rest_placed i steps taken outcome ≡ placed_step names (part path (i + 1)) stays (step_view x) (taken_view y) ++ rest_placed
      (i + 1) steps taken outcome
  unfolding rest_placed
  rest_placed-more i steps taken outcome x y lt is lt' is' =
      ap (λ ts. placed names path (i + 1) stays (steps_view (drop i steps)) (before_end (map taken_view ts) (AtEnd outcome)))
      (left taken i y lt' is')
      ∙ ap (λ ss. placed names path (i + 1) stays (steps_view ss) (before_end (map taken_view (y ∷ drop (i + 1) taken)) (AtEnd outcome)))
      (left steps i x lt is)

  pub rest_placed-no_step : (i : ℕ) (steps : List Step) (taken : List Taken) (outcome : End) → length steps ≤ i
      → rest_placed i steps taken outcome ≡ []
  unfolding rest_placed
  rest_placed-no_step i steps taken outcome le =
      ap (λ ss. placed names path (i + 1) stays (steps_view ss) (before_end (map taken_view (drop i taken)) (AtEnd outcome)))
      (drop_of_length-le steps le) ∙ none_placed (i + 1) (before_end (map taken_view (drop i taken)) (AtEnd outcome))

  pub rest_placed-end : (i : ℕ) (steps : List Step) (taken : List Taken) (outcome : End) → length taken ≤ i
      → rest_placed i steps taken outcome ≡ []
  unfolding rest_placed
  rest_placed-end i steps taken outcome le =
      ap (λ ts. placed names path (i + 1) stays (steps_view (drop i steps)) (before_end (map taken_view ts) (AtEnd outcome)))
      (drop_of_length-le taken le) ∙ end_placed (i + 1) (steps_view (drop i steps)) outcome

  -- the same for children
  pub rest_children_placed : ℕ → List Subaction → List (Record × Option Record) → List PlacedEntry
  rest_children_placed i children tried = placed_children names path (i + 1) stays (children_view (drop i children))
      (before_younger (map tried_view (drop i tried)) ShownChildren.NoChild)

  pub rest_children_placed-start : (children : List Subaction) (tried : List (Record × Option Record))
      → rest_children_placed 0 children tried
      ≡ placed_children names path 1 stays (children_view children) (before_younger (map tried_view tried) ShownChildren.NoChild)
  unfolding rest_children_placed
  rest_children_placed-start children tried = refl

  pub rest_children_placed-more : (i : ℕ) (children : List Subaction) (tried : List (Record × Option Record)) (x : Subaction)
      (y : Record × Option Record) → i < length children → x ≡ get_or children i x → i < length tried → y ≡ get_or tried i y
      → rest_children_placed i children tried
      ≡ placed_child names (part path (i + 1)) stays (subaction_view x).body (subaction_view x).handlers (tried_view y)
      ++ rest_children_placed (i + 1) children tried
  unfolding rest_children_placed
  rest_children_placed-more i children tried x y lt is lt' is' =
      ap (λ ts. placed_children names path (i + 1) stays (children_view (drop i children))
      (before_younger (map tried_view ts) ShownChildren.NoChild)) (left tried i y lt' is')
      ∙ ap (λ cs. placed_children names path (i + 1) stays (children_view cs)
      (before_younger (map tried_view (y ∷ drop (i + 1) tried)) ShownChildren.NoChild)) (left children i x lt is)

  pub rest_children_placed-no_child : (i : ℕ) (children : List Subaction) (tried : List (Record × Option Record)) → length children ≤ i
      → rest_children_placed i children tried ≡ []
  unfolding rest_children_placed
  rest_children_placed-no_child i children tried le =
      ap (λ cs. placed_children names path (i + 1) stays (children_view cs)
      (before_younger (map tried_view (drop i tried)) ShownChildren.NoChild)) (drop_of_length-le children le)
      ∙ no_children_placed (i + 1) (before_younger (map tried_view (drop i tried)) ShownChildren.NoChild)

  pub rest_children_placed-end : (i : ℕ) (children : List Subaction) (tried : List (Record × Option Record)) → length tried ≤ i
      → rest_children_placed i children tried ≡ []
  unfolding rest_children_placed
  rest_children_placed-end i children tried le =
      ap (λ ts. placed_children names path (i + 1) stays (children_view (drop i children))
      (before_younger (map tried_view ts) ShownChildren.NoChild)) (drop_of_length-le tried le)
      ∙ end_children_placed (i + 1) (children_view (drop i children))

-- lists that are made one after another
pub after_more : {A : Type 0} (mid new these rest more all : List A) → mid ++ rest ≡ all → new ≡ mid ++ these → rest ≡ these ++ more
    → new ++ more ≡ all
after_more mid new these rest more all is made splits = ap (λ x. x ++ more) made ∙ append_assoc mid these more
    ∙ ap (λ x. mid ++ x) (sym splits) ∙ is

-- the operations of a subaction
module _ (names : Naming) (path : List ℕ) (stays : Bool) (child : Subaction) (body : Record) where
  abbrev pub body_placed : List PlacedEntry
  body_placed = placed names (path ++ codes ".b") 1 (stays && has_ended body.outcome) (block_view (out-Subaction child).body)
      (record_view body)

  body_placed-is : placed names (path ++ codes ".b") 1 (stays && has_ended (end_of (record_view body))) (subaction_view child).body
      (record_view body) ≡ body_placed
  body_placed-is =
      ap (λ outcome. placed names (path ++ codes ".b") 1 (stays && has_ended outcome) (subaction_view child).body (record_view body))
      (end_of-record_view body)
      ∙ ap (λ block. placed names (path ++ codes ".b") 1 (stays && has_ended body.outcome) block (record_view body))
      (subaction_view-body child)

  pub placed_child-body : (handler : Option Record) → handler ≡ None → placed_child names path stays (subaction_view child).body
      (subaction_view child).handlers (tried_view (body, handler)) ≡ body_placed
  placed_child-body handler is = ap (λ h. placed_child names path stays (subaction_view child).body (subaction_view child).handlers
      (tried_view (body, h))) is ∙ body_placed-is

  pub placed_child-handler : (handler : Option Record) (done : Record) → handler ≡ Some done
      → placed_child names path stays (subaction_view child).body (subaction_view child).handlers (tried_view (body, handler))
      ≡ body_placed ++ placed names (handler_path names path (subaction_view child).handlers (reason_of body.outcome)) 1 stays
      (handler_block (subaction_view child).handlers (reason_of body.outcome)) (record_view done)
  placed_child-handler handler done is =
      ap (λ h. placed_child names path stays (subaction_view child).body (subaction_view child).handlers (tried_view (body, h))) is
      ∙ ap (λ these. these ++ placed names (handler_path names path (subaction_view child).handlers
      (reason_of (end_of (record_view body)))) 1 stays
      (handler_block (subaction_view child).handlers (reason_of (end_of (record_view body)))) (record_view done)) body_placed-is
      ∙ ap (λ outcome. body_placed ++ placed names (handler_path names path (subaction_view child).handlers (reason_of outcome)) 1 stays
      (handler_block (subaction_view child).handlers (reason_of outcome)) (record_view done)) (end_of-record_view body)

  -- where nothing takes the abort
  pub placed_child-untaken : (handler : Option Record) (done : Record) → handler ≡ Some done
      → handler_block (subaction_view child).handlers (reason_of body.outcome) ≡ NoStep
      → placed_child names path stays (subaction_view child).body (subaction_view child).handlers (tried_view (body, handler)) ≡ body_placed
  placed_child-untaken handler done is none =
      let at : List ℕ = handler_path names path (subaction_view child).handlers (reason_of body.outcome) in
      placed_child-handler handler done is
      ∙ ap (λ block. body_placed ++ placed names at 1 stays block (record_view done)) none
      ∙ ap (λ rest. body_placed ++ rest) (none_placed names at stays 1 (record_view done)) ∙ append-nil body_placed
