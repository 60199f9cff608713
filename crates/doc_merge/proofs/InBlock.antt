-- What a block asks: tests, and what is counted in a document of its version. No start is counted, and no transaction begins.
use Rattle.std.specs.Prelude.{codes, false, is_some, ⊤}
use Rattle.std.proofs.Common.{◌≡◌, ℕ, zero, suc, Bool, true, cond, List, [], ◌∷◌, ◌++◌, Option, None, Some, refl}
use Rattle.serde_json.specs.Data.{Data, Items, no_items, item, Members, no_members, member}
use Rattle.serde_json.specs.Find.{as_array, as_str, get}
use Rattle.batch.specs.Names.{is_name}
use Rattle.doc_rules.specs.Subjects.{fits_item, fits_number}
use Rattle.doc_rules.specs.declared.rule.ArgumentRule.TheVariants as argument
use Rattle.doc_rules.specs.declared.rule.NameRule.{NameRule}
use Rattle.doc_rules.specs.declared.rule.NameRule.TheVariants.{Else, Handlers, Reason}
use Rattle.doc_rules.specs.declared.rule.OperandPlace.{OperandPlace}
use Rattle.doc_rules.specs.declared.rule.OperandPlace.TheVariants.{Third, Fourth}
use Rattle.doc_rules.specs.declared.rule.Rule.TheVariants.{Argument, Depth, Name}
use Rattle.doc_rules.specs.declared.rule.SourceRule.{SourceRule}
use Rattle.doc_rules.specs.declared.rule.SourceRule.TheVariants as source
use Rattle.vocabulary.specs.declared.verb.Verb.{Verb}
use Rattle.vocabulary.specs.declared.verb.Verb.TheVariants.{OfAmount, OfItem, OfPair, Alone}
use Rattle.doc_rules.specs.declared.subject.Subject.{Subject}
use Rattle.doc_rules.specs.declared.subject.Subject.TheVariants.{Outcome}
use Rattle.doc_tree.specs.declared.steps.Sort.{Sort}
use Rattle.doc_tree.specs.declared.steps.Sort.TheVariants.{Operation as an_operation, If as an_if, Sub as a_sub, Abort as an_abort}
use Rattle.doc_tree.specs.declared.steps.Sort.TheVariants.{Parallel as a_parallel}
use Rattle.doc_tree.specs.Demand.{Demand, holds, in_transaction, one_more_node, one_more_operation, one_more_start}
use Rattle.doc_tree.specs.Look.{has}
use Rattle.doc_tree.specs.Scope.{Scope, Setting, with_label}
use Rattle.doc_tree.specs.Asked.{abort_asked, abort_shape_asked, amount_asked, amount_item, argument_asked, arguments_asked, call_named}
use Rattle.doc_tree.specs.Asked.{children_in, else_reason, handlers_in, index_of, is_source, source_asked}
use Rattle.doc_tree.specs.Asked.{holds_item, holds_number, holds_word, if_label, if_shape_asked, item_asked, label_asked, label_in}
use Rattle.doc_tree.specs.Asked.{object_of, operation_asked, operation_shape_asked, parallel_shape_asked, part, reason_asked, scope_after}
use Rattle.doc_tree.specs.Asked.{seen_asked, sort_of, sub_shape_asked, subject_of, target_asked, test_asked, verb_in}
use Rattle.doc_tree.proofs.Demands.{Asks, array_asked, block_asked, block_asked_if, children_asked, handlers_asked, if_asked}
use Rattle.doc_tree.proofs.Demands.{members_asked, parallel_asked, step_asked, step_asked_by, steps_asked, sub_asked}

abbrev pub InBlock : ℕ → List Demand → Type 0
InBlock version [] = ⊤
InBlock version (holds b rule ∷ ds) = InBlock version ds
InBlock version (one_more_start other ∷ ds) = ⊥
InBlock version (one_more_operation other ∷ ds) = (other ≡ version) × InBlock version ds
InBlock version (one_more_node other ∷ ds) = (other ≡ version) × InBlock version ds
InBlock version (in_transaction n ∷ ds) = ⊥

-- ---- lists in parts

module _ (version : ℕ) where
  both_in : (xs ys : List Demand) → InBlock version xs → InBlock version ys → InBlock version (xs ++ ys)
  both_in [] ys first rest = rest
  both_in (holds b rule ∷ xs) ys first rest = both_in xs ys first rest
  both_in (one_more_start other ∷ xs) ys first rest = absurd first
  both_in (one_more_operation other ∷ xs) ys first rest = (first.0, both_in xs ys first.1 rest)
  both_in (one_more_node other ∷ xs) ys first rest = (first.0, both_in xs ys first.1 rest)
  both_in (in_transaction n ∷ xs) ys first rest = absurd first

  -- ---- what is asked of a step itself

  if_shape_in : (d : Data) → InBlock version (if_shape_asked d)
  unfolding if_shape_asked
  if_shape_in d = tt

  seen_in : (scope : Scope) (name : List ℕ) → InBlock version (seen_asked scope name)
  unfolding seen_asked
  seen_in scope name = tt

  one_of_three : (a b : Bool) (A B C : List Demand) → InBlock version A → InBlock version B → InBlock version C
      → InBlock version (cond a A (cond b B C))
  one_of_three true b A B C first second third = first
  one_of_three false true A B C first second third = second
  one_of_three false false A B C first second third = third

  test_in : (known : ℕ) (subject : Subject) (d : Data) → InBlock version (test_asked known subject d)
  unfolding test_asked
  test_in known subject d = one_of_three (has (codes "is") d) (has (codes "atleast") d) (holds_word subject d) (holds_number subject d)
      (holds_item known subject d) tt tt tt

  sub_shape_in : (known : ℕ) (d : Data) → InBlock version (sub_shape_asked known d)
  unfolding sub_shape_asked
  sub_shape_in known d = tt

  label_is_in : (known : ℕ) (scope earlier : Scope) (o : Option (List ℕ)) → InBlock version (label_asked known scope earlier o)
  unfolding label_asked
  label_is_in known scope earlier None = tt
  label_is_in known scope earlier (Some name) = tt

  operation_shape_in : (known : ℕ) (d : Data) → InBlock version (operation_shape_asked known d)
  unfolding operation_shape_asked
  operation_shape_in known d = tt

  target_in : (setting : Setting) (object call : List ℕ) → InBlock version (target_asked setting object call)
  unfolding target_asked
  target_in setting object call = tt

  one_of_two : (b : Bool) (A B : List Demand) → InBlock version A → InBlock version B → InBlock version (cond b A B)
  one_of_two true A B first second = first
  one_of_two false A B first second = second

  source_in : (scope : Scope) (fits : Subject → Bool) (fit : Subject → SourceRule) (place : OperandPlace) (op : Data)
      → InBlock version (source_asked scope fits fit place op)
  unfolding source_asked
  source_in scope fits fit place op = tt

  item_in : (known : ℕ) (place : OperandPlace) (op : Data) → InBlock version (item_asked known place op)
  unfolding item_asked
  item_in known place op = tt

  amount_in : (known : ℕ) (scope : Scope) (op : Data) → InBlock version (amount_asked known scope op)
  unfolding amount_asked
  amount_in known scope op = one_of_two (is_source known 2 op) (source_asked scope fits_number source.Number Third op)
      (holds (is_some (amount_item 2 op)) (Argument argument.Amount) ∷ []) (source_in scope fits_number source.Number Third op) tt

  argument_in : (known : ℕ) (scope : Scope) (place : OperandPlace) (op : Data) → InBlock version (argument_asked known scope place op)
  unfolding argument_asked
  argument_in known scope place op = one_of_two (is_source known (index_of place) op) (source_asked scope fits_item source.Item place op)
      (item_asked known place op) (source_in scope fits_item source.Item place op) (item_in known place op)

  arguments_in : (known : ℕ) (scope : Scope) (v : Verb) (op : Data) → InBlock version (arguments_asked known scope v op)
  unfolding arguments_asked
  arguments_in known scope (OfAmount v) op = amount_in known scope op
  arguments_in known scope (OfItem v) op = argument_in known scope Third op
  arguments_in known scope (OfPair v) op = both_in (argument_asked known scope Third op) (argument_asked known scope Fourth op)
      (argument_in known scope Third op) (argument_in known scope Fourth op)
  arguments_in known scope (Alone v) op = tt

  parallel_shape_in : (d : Data) → InBlock version (parallel_shape_asked d)
  unfolding parallel_shape_asked
  parallel_shape_in d = tt

  reason_in : (known : ℕ) (which : NameRule) (o : Option (List ℕ)) → InBlock version (reason_asked known which o)
  unfolding reason_asked
  reason_in known which None = tt
  reason_in known which (Some reason) = tt

  abort_in : (d : Data) → InBlock version (abort_asked version d)
  unfolding abort_asked abort_shape_asked
  abort_in d = both_in (abort_shape_asked version d) (reason_asked version Reason (as_str (part (codes "abort") d))) (refl, tt)
      (reason_in version Reason (as_str (part (codes "abort") d)))

-- an operation counts one in a document of its version
operation_in : (setting : Setting) (scope : Scope) (d : Data) → InBlock setting.version (operation_asked setting scope d)
unfolding operation_asked
operation_in setting scope d =
    let op = part (codes "op") d in
    let version = setting.version in
    let A = operation_shape_asked version d in
    let B = one_more_operation version ∷ [] in
    let C = target_asked setting (object_of op) (call_named op) in
    let D = arguments_asked version scope (verb_in setting op) op in
    let E = reason_asked version Else (else_reason d) in
    let F = label_asked version scope [] (label_in d) in
    both_in version (A ++ B ++ C ++ D ++ E) F
    (both_in version (A ++ B ++ C ++ D) E
    (both_in version (A ++ B ++ C) D
    (both_in version (A ++ B) C (both_in version A B (operation_shape_in version version d) (refl, tt))
    (target_in version setting (object_of op) (call_named op)))
    (arguments_in version version scope (verb_in setting op) op))
    (reason_in version version Else (else_reason d)))
    (label_is_in version version scope [] (label_in d))

-- ---- the steps that hold blocks

module _ (setting : Setting) (asks : Asks) (inner : (scope : Scope) (d : Data) → InBlock setting.version (asks scope d)) where
  abbrev In : List Demand → Type 0
  In ds = InBlock setting.version ds

  joined : (xs ys : List Demand) → In xs → In ys → In (xs ++ ys)
  joined = both_in setting.version

  block_if_in : (scope : Scope) (o : Option Data) → In (block_asked_if asks scope o)
  unfolding block_asked_if
  block_if_in scope None = tt
  block_if_in scope (Some d) = inner scope d

  if_in : (scope : Scope) (d : Data) → In (if_asked setting.version asks scope d)
  unfolding if_asked
  if_in scope d =
      let version = setting.version in
      let subject = subject_of (if_label d) scope in
      let A = if_shape_asked d in
      let B = one_more_node version ∷ [] in
      let C = seen_asked scope (if_label d) in
      let D = test_asked version subject d in
      let E = asks scope (part (codes "then") d) in
      let F = block_asked_if asks scope (get (codes "else") d) in
      joined (A ++ B ++ C ++ D ++ E) F
      (joined (A ++ B ++ C ++ D) E
      (joined (A ++ B ++ C) D
      (joined (A ++ B) C (joined A B (if_shape_in version d) (refl, tt)) (seen_in version scope (if_label d)))
      (test_in version version subject d))
      (inner scope (part (codes "then") d)))
      (block_if_in scope (get (codes "else") d))

  members_in : (scope : Scope) (ds : Members) → In (members_asked setting.version asks scope ds)
  members_in scope no_members = tt
  members_in scope (member reason d ds) =
      let version = setting.version in
      joined (holds (is_name version reason) (Name version Handlers) ∷ asks scope d) (members_asked version asks scope ds) (inner scope d)
      (members_in scope ds)

  handlers_are_in : (scope : Scope) (o : Option Members) → In (handlers_asked setting.version asks scope o)
  unfolding handlers_asked
  handlers_are_in scope None = tt
  handlers_are_in scope (Some ds) = members_in scope ds

  sub_in : (scope earlier : Scope) (d : Data) → In (sub_asked setting.version asks scope earlier d)
  unfolding sub_asked
  sub_in scope earlier d =
      let version = setting.version in
      let A = sub_shape_asked version d in
      let B = one_more_node version ∷ [] in
      let C = label_asked version scope earlier (label_in d) in
      let D = asks scope (part (codes "sub") d) in
      let E = handlers_asked version asks scope (handlers_in d) in
      let F = block_asked_if asks scope (get (codes "handler") d) in
      joined (A ++ B ++ C ++ D ++ E) F
      (joined (A ++ B ++ C ++ D) E
      (joined (A ++ B ++ C) D
      (joined (A ++ B) C (joined A B (sub_shape_in version version d) (refl, tt)) (label_is_in version version scope earlier (label_in d)))
      (inner scope (part (codes "sub") d)))
      (handlers_are_in scope (handlers_in d)))
      (block_if_in scope (get (codes "handler") d))

  children_are_in : (scope earlier : Scope) (ds : Items) → In (children_asked setting.version asks scope earlier ds)
  children_are_in scope earlier no_items = tt
  children_are_in scope earlier (item d ds) =
      let next = with_label (label_in d) Outcome earlier in
      joined (sub_asked setting.version asks scope earlier d) (children_asked setting.version asks scope next ds)
      (sub_in scope earlier d) (children_are_in scope next ds)

  parallel_in : (scope : Scope) (d : Data) → In (parallel_asked setting.version asks scope d)
  unfolding parallel_asked
  parallel_in scope d =
      let version = setting.version in
      let A = parallel_shape_asked d in
      let B = one_more_node version ∷ [] in
      joined (A ++ B) (children_asked version asks scope [] (children_in d))
      (joined A B (parallel_shape_in version d) (refl, tt)) (children_are_in scope [] (children_in d))

  step_in : (sort : Option Sort) (scope : Scope) (d : Data) → In (step_asked_by sort asks setting scope d)
  step_in None scope d = tt
  step_in (Some an_operation) scope d = operation_in setting scope d
  step_in (Some an_if) scope d = if_in scope d
  step_in (Some a_sub) scope d = sub_in scope [] d
  step_in (Some an_abort) scope d = abort_in setting.version d
  step_in (Some a_parallel) scope d = parallel_in scope d

  steps_in : (scope : Scope) (ds : Items) → In (steps_asked asks setting scope ds)
  unfolding step_asked
  steps_in scope no_items = tt
  steps_in scope (item d ds) =
      let next = scope_after setting scope d in
      joined (step_asked asks setting scope d) (steps_asked asks setting next ds) (step_in (sort_of d) scope d) (steps_in next ds)

  array_in : (scope : Scope) (o : Option Items) → In (array_asked (steps_asked asks setting scope) o)
  array_in scope None = tt
  array_in scope (Some ds) = steps_in scope ds

-- ---- blocks

-- a block that is too deep asks for nothing else
too_deep : (version : ℕ) (o : Option Items) → InBlock version (array_asked (λ ds. holds false Depth ∷ []) o)
too_deep version None = tt
too_deep version (Some ds) = tt

pub block_in : (setting : Setting) (n : ℕ) (scope : Scope) (d : Data) → InBlock setting.version (block_asked setting n scope d)
unfolding block_asked
block_in setting zero scope d = too_deep setting.version (as_array d)
block_in setting (suc n) scope d = array_in setting (block_asked setting n) (block_in setting n) scope (as_array d)
