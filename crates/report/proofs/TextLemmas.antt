-- The lines that are left to write.
use Rattle.std.proofs.Common.{◌≡◌, ℕ, ◌+◌, ◌<◌, ◌≤◌, List, [], ◌∷◌, ◌++◌, length, get_or, drop, map, Option, Some, None, refl, sym, ap, ◌∙◌}
use Rattle.std.proofs.Common.{append-nil, append_assoc, arith, inl, inr, min}
use Rattle.std.proofs.lemmas.Bool.{cases_lt}
use Rattle.std.proofs.Math.ListN.{drop_of_length-le}
use Rattle.std.specs.Prelude.{codes}
use Rattle.meaning.specs.declared.end.End.{End}
use Rattle.meaning.specs.Trees as meant
use Rattle.meaning.specs.Trees.{NoStep, NoChild}
use Rattle.meaning.specs.Shown.{Shown, AtEnd, First, ShownStep, ShownChildren, end_of}
use Rattle.meaning.specs.Words.{Naming}
use Rattle.meaning.specs.Texts.{line, outcome_text, reason_of, steps_text, step_text, child_text, children_text, handler_path}
use Rattle.meaning.specs.Texts.{handler_block, part}
use Rattle.batch.specs.Views.{block_view, step_view, steps_view, subaction_view, children_view, taken_view, record_view, before_end}
use Rattle.batch.specs.Views.{tried_view, before_younger}
use Rattle.batch.specs.declared.tree.Step.{Step}
use Rattle.batch.specs.declared.tree.Subaction.{Subaction, out-Subaction}
use Rattle.batch.specs.declared.record.Record.{Record}
use Rattle.batch.specs.declared.record.Taken.{Taken}
use Rattle.batch.proofs.ViewLemmas.{record_view-is, subaction_view-body}
use Rattle.batch.proofs.CountLemmas.{left}
use Rattle.report.specs.Parts.{steps_from}

-- a record shows how its block ended
end_of-before_end : (steps : List ShownStep) (outcome : End) → end_of (before_end steps (AtEnd outcome)) ≡ outcome
end_of-before_end [] outcome = refl
end_of-before_end (step ∷ steps) outcome = end_of-before_end steps outcome

pub end_of-record_view : (done : Record) → end_of (record_view done) ≡ done.outcome
end_of-record_view done = ap end_of (record_view-is done) ∙ end_of-before_end (map taken_view done.taken.items) done.outcome

module _ (names : Naming) (path : List ℕ) where
  -- no step, no line
  pub no_text : (n : ℕ) (done : Shown) → steps_text names path n NoStep done ≡ []
  no_text n (AtEnd outcome) = refl
  no_text n (First step rest) = refl

  end_text : (n : ℕ) (block : meant.Block) (outcome : End) → steps_text names path n block (AtEnd outcome) ≡ []
  end_text n NoStep outcome = refl
  end_text n (meant.Steps step rest) outcome = refl

  no_children_text : (n : ℕ) (done : ShownChildren) → children_text names path n NoChild done ≡ []
  no_children_text n ShownChildren.NoChild = refl
  no_children_text n (ShownChildren.Child child younger) = refl

  end_children_text : (n : ℕ) (children : meant.Children) → children_text names path n children ShownChildren.NoChild ≡ []
  end_children_text n NoChild = refl
  end_children_text n (meant.Child body handlers labelled younger) = refl

  pub steps_from-start : (steps : List Step) (taken : List Taken) (outcome : End) → steps_from names path 0 steps taken outcome
      ≡ steps_text names path 1 (steps_view steps) (before_end (map taken_view taken) (AtEnd outcome))
  unfolding steps_from
  steps_from-start steps taken outcome = refl

  pub steps_from-more : (i : ℕ) (steps : List Step) (taken : List Taken) (outcome : End) (x : Step) (y : Taken) → i < length steps
      → x ≡ get_or steps i x → i < length taken → y ≡ get_or taken i y
      → steps_from names path i steps taken outcome ≡ step_text names (part path (i + 1)) (step_view x) (taken_view y)
      ++ steps_from names path (i + 1) steps taken outcome
  unfolding steps_from
  steps_from-more i steps taken outcome x y lt is lt' is' =
      ap (λ ts. steps_text names path (i + 1) (steps_view (drop i steps)) (before_end (map taken_view ts) (AtEnd outcome)))
      (left taken i y lt' is')
      ∙ ap (λ ss. steps_text names path (i + 1) (steps_view ss) (before_end (map taken_view (y ∷ drop (i + 1) taken)) (AtEnd outcome)))
      (left steps i x lt is)

  steps_from-no_step : (i : ℕ) (steps : List Step) (taken : List Taken) (outcome : End) → length steps ≤ i
      → steps_from names path i steps taken outcome ≡ []
  unfolding steps_from
  steps_from-no_step i steps taken outcome le =
      ap (λ ss. steps_text names path (i + 1) (steps_view ss) (before_end (map taken_view (drop i taken)) (AtEnd outcome)))
      (drop_of_length-le steps le) ∙ no_text (i + 1) (before_end (map taken_view (drop i taken)) (AtEnd outcome))

  pub steps_from-end : (i : ℕ) (steps : List Step) (taken : List Taken) (outcome : End) → length taken ≤ i
      → steps_from names path i steps taken outcome ≡ []
  unfolding steps_from
  steps_from-end i steps taken outcome le =
      ap (λ ts. steps_text names path (i + 1) (steps_view (drop i steps)) (before_end (map taken_view ts) (AtEnd outcome)))
      (drop_of_length-le taken le) ∙ end_text (i + 1) (steps_view (drop i steps)) outcome

  -- no step is left that was taken
  pub steps_from-shown : (i : ℕ) (steps : List Step) (taken : List Taken) (outcome : End) → min (length steps) (length taken) ≤ i
      → steps_from names path i steps taken outcome ≡ []
  steps_from-shown i steps taken outcome le = elim (cases_lt i (length steps)) [
    | inl lt ↦ steps_from-end i steps taken outcome (omega (arith, lt, le))
    | inr ge ↦ steps_from-no_step i steps taken outcome ge
  ]

  -- the same for children
  pub rest_children_text : ℕ → List Subaction → List (Record × Option Record) → List ℕ
  rest_children_text i children tried = children_text names path (i + 1) (children_view (drop i children))
      (before_younger (map tried_view (drop i tried)) ShownChildren.NoChild)

  pub rest_children_text-start : (children : List Subaction) (tried : List (Record × Option Record)) → rest_children_text 0 children tried
      ≡ children_text names path 1 (children_view children) (before_younger (map tried_view tried) ShownChildren.NoChild)
  unfolding rest_children_text
  rest_children_text-start children tried = refl

  pub rest_children_text-more : (i : ℕ) (children : List Subaction) (tried : List (Record × Option Record)) (x : Subaction)
      (y : Record × Option Record) → i < length children → x ≡ get_or children i x → i < length tried → y ≡ get_or tried i y
      → rest_children_text i children tried ≡ child_text names (part path (i + 1)) (subaction_view x).body (subaction_view x).handlers
      (tried_view y) ++ rest_children_text (i + 1) children tried
  unfolding rest_children_text
  rest_children_text-more i children tried x y lt is lt' is' =
      ap (λ ts. children_text names path (i + 1) (children_view (drop i children))
      (before_younger (map tried_view ts) ShownChildren.NoChild)) (left tried i y lt' is')
      ∙ ap (λ cs. children_text names path (i + 1) (children_view cs)
      (before_younger (map tried_view (y ∷ drop (i + 1) tried)) ShownChildren.NoChild)) (left children i x lt is)

  rest_children_text-no_child : (i : ℕ) (children : List Subaction) (tried : List (Record × Option Record)) → length children ≤ i
      → rest_children_text i children tried ≡ []
  unfolding rest_children_text
  rest_children_text-no_child i children tried le =
      ap (λ cs. children_text names path (i + 1) (children_view cs) (before_younger (map tried_view (drop i tried)) ShownChildren.NoChild))
      (drop_of_length-le children le) ∙ no_children_text (i + 1) (before_younger (map tried_view (drop i tried)) ShownChildren.NoChild)

  rest_children_text-end : (i : ℕ) (children : List Subaction) (tried : List (Record × Option Record)) → length tried ≤ i
      → rest_children_text i children tried ≡ []
  unfolding rest_children_text
  rest_children_text-end i children tried le =
      ap (λ ts. children_text names path (i + 1) (children_view (drop i children))
      (before_younger (map tried_view ts) ShownChildren.NoChild)) (drop_of_length-le tried le)
      ∙ end_children_text (i + 1) (children_view (drop i children))

  -- no child is left that was tried
  pub rest_children_text-shown : (i : ℕ) (children : List Subaction) (tried : List (Record × Option Record))
      → min (length children) (length tried) ≤ i → rest_children_text i children tried ≡ []
  rest_children_text-shown i children tried le = elim (cases_lt i (length children)) [
    | inl lt ↦ rest_children_text-end i children tried (omega (arith, lt, le))
    | inr ge ↦ rest_children_text-no_child i children tried ge
  ]

-- texts written one after another
pub after_text : (mid new text rest more all : List ℕ) → mid ++ rest ≡ all → new ≡ mid ++ text → rest ≡ text ++ more → new ++ more ≡ all
after_text mid new text rest more all is wrote splits = ap (λ x. x ++ more) wrote ∙ append_assoc mid text more
    ∙ ap (λ x. mid ++ x) (sym splits) ∙ is

pub after_two : (out mid new first second : List ℕ) → mid ≡ out ++ first → new ≡ mid ++ second → new ≡ out ++ (first ++ second)
after_two out mid new first second e f = f ∙ ap (λ x. x ++ second) e ∙ append_assoc out first second

-- the lines of a subaction
module _ (names : Naming) (path : List ℕ) (child : Subaction) (body : Record) where
  abbrev pub body_lines : List ℕ
  body_lines = line (codes "S " ++ path ++ outcome_text names body.outcome) ++ steps_text names (path ++ codes ".b") 1
      (block_view (out-Subaction child).body) (record_view body)

  body_lines-is : line (codes "S " ++ path ++ outcome_text names (end_of (record_view body))) ++ steps_text names (path ++ codes ".b") 1
      (subaction_view child).body (record_view body) ≡ body_lines
  body_lines-is =
      ap (λ outcome. line (codes "S " ++ path ++ outcome_text names outcome) ++ steps_text names (path ++ codes ".b") 1
      (subaction_view child).body (record_view body)) (end_of-record_view body)
      ∙ ap (λ block. line (codes "S " ++ path ++ outcome_text names body.outcome) ++ steps_text names (path ++ codes ".b") 1 block
      (record_view body)) (subaction_view-body child)

  pub child_text-body : (handler : Option Record) → handler ≡ None → child_text names path (subaction_view child).body
      (subaction_view child).handlers (tried_view (body, handler)) ≡ body_lines
  child_text-body handler is = ap (λ h. child_text names path (subaction_view child).body (subaction_view child).handlers
      (tried_view (body, h))) is ∙ body_lines-is

  pub child_text-handler : (handler : Option Record) (done : Record) → handler ≡ Some done
      → child_text names path (subaction_view child).body (subaction_view child).handlers (tried_view (body, handler))
      ≡ body_lines ++ steps_text names (handler_path names path (subaction_view child).handlers (reason_of body.outcome)) 1
      (handler_block (subaction_view child).handlers (reason_of body.outcome)) (record_view done)
  child_text-handler handler done is =
      ap (λ h. child_text names path (subaction_view child).body (subaction_view child).handlers (tried_view (body, h))) is
      ∙ ap (λ lines. lines ++ steps_text names (handler_path names path (subaction_view child).handlers
      (reason_of (end_of (record_view body)))) 1
      (handler_block (subaction_view child).handlers (reason_of (end_of (record_view body)))) (record_view done)) body_lines-is
      ∙ ap (λ outcome. body_lines ++ steps_text names (handler_path names path (subaction_view child).handlers (reason_of outcome)) 1
      (handler_block (subaction_view child).handlers (reason_of outcome)) (record_view done)) (end_of-record_view body)

  -- where nothing takes the abort
  pub child_text-untaken : (handler : Option Record) (done : Record) → handler ≡ Some done
      → handler_block (subaction_view child).handlers (reason_of body.outcome) ≡ NoStep
      → child_text names path (subaction_view child).body (subaction_view child).handlers (tried_view (body, handler)) ≡ body_lines
  child_text-untaken handler done is none =
      let at : List ℕ = handler_path names path (subaction_view child).handlers (reason_of body.outcome) in
      child_text-handler handler done is
      ∙ ap (λ block. body_lines ++ steps_text names at 1 block (record_view done)) none
      ∙ ap (λ rest. body_lines ++ rest) (no_text names at 1 (record_view done)) ∙ append-nil body_lines
