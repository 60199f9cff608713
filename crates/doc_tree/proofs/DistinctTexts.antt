-- The texts that a document numbers differ.
use Rattle.std.proofs.Common.{◌≡◌, ℕ, zero, suc, Bool, true, false, cond, List, [], ◌∷◌, ◌++◌, Option, Some, None, refl, sym, subst}
use Rattle.std.proofs.Common.{append-nil, append_assoc}
use Rattle.std.specs.Prelude.{codes}
use Rattle.std.specs.List.{AllByRecursion, IsDistinct}
use Rattle.std.specs.Str.{bytes_eq}
use Rattle.std.proofs.lemmas.Bool.{false_from_ne_true, not-true, or_parts}
use Rattle.std.proofs.lemmas.Slice.Eq.{bytes_eq-Decides}
use Rattle.serde_json.specs.Data.{Data, Items, no_items, item, Members, no_members, member}
use Rattle.serde_json.specs.Find.{as_array, as_str, get}
use Rattle.objects.specs.declared.kind.Kind.{Kind}
use Rattle.objects.specs.declared.kind.ValueForm.{ValueForm}
use Rattle.objects.specs.declared.kind.ValueForm.TheVariants as value_form
use Rattle.objects.specs.Objects.{form_of}
use Rattle.doc_tree.specs.Asked.{children_in, else_reason, handlers_in, if_label, is_source, key_of, kind_in, name_item, objects_in}
use Rattle.doc_tree.specs.Asked.{or_no_items, part, scope_after, setting_in, sort_of, subject_of, text_of, transactions_in, value_of}
use Rattle.doc_tree.specs.Asked.{verb_in, version_in}
use Rattle.doc_tree.specs.Look.{has, or_empty, text_member}
use Rattle.doc_tree.specs.Scope.{Numbers, Scope, Setting, Table, is_listed, no_numbers, with_item, with_reason, with_text}
use Rattle.doc_tree.specs.Spelled.{Spelling, abort_of, block_of, block_of_if, blocks_of, children_spelled, document_in, entries_of}
use Rattle.doc_tree.specs.Spelled.{handlers_spelled, if_of, members_of, operation_of, pairs_of, parallel_of, parts_in, reason_of, start_of}
use Rattle.doc_tree.specs.Spelled.{form_start}
use Rattle.doc_tree.specs.Spelled.{argument_of, refusal_of, starts_of, step_of, step_of_by, steps_spelled, sub_of, template_of, test_of}
use Rattle.doc_tree.specs.Asked.{document_shape_asked, names_of, object_name, object_name_asked, object_shape_asked}
use Rattle.doc_tree.specs.Demand.{no_counts}
use Rattle.doc_tree.specs.declared.steps.Sort.{Sort}
use Rattle.doc_tree.specs.declared.steps.Sort.TheVariants.{Operation as an_operation, If as an_if, Sub as a_sub, Abort as an_abort}
use Rattle.doc_tree.specs.declared.steps.Sort.TheVariants.{Parallel as a_parallel}
use Rattle.doc_rules.specs.declared.subject.Subject.{Subject}
use Rattle.vocabulary.specs.declared.verb.Verb.{Verb}
use Rattle.vocabulary.specs.declared.verb.Verb.TheVariants.{OfAmount, OfItem, OfPair, Alone}
use Rattle.doc_tree.proofs.MetLemmas.{AllMet, first_met, passed, rest_met}
use Rattle.doc_tree.proofs.Demands.{asked, object_asked, objects_asked, start_asked, transactions_asked, faultless}
use Rattle.doc_tree.specs.Places.{first_fault, placed}

-- ---- one more text

-- each differs from those after it
abbrev pub Apart : Table → Type 0
Apart table = IsDistinct bytes_eq table

turned : (text t : List ℕ) → bytes_eq text t ≡ false → bytes_eq t text ≡ false
turned text t apart = false_from_ne_true (bytes_eq t text) (λ same. let is : bytes_eq text t ≡ true = (bytes_eq-Decides text t).1
    (sym ((bytes_eq-Decides t text).0 same)) in cc)

differs_too : (t text : List ℕ) (table : Table) → bytes_eq t text ≡ false → AllByRecursion (λ u. bytes_eq t u ≡ false) table
    → AllByRecursion (λ u. bytes_eq t u ≡ false) (table ++ text ∷ [])
differs_too t text [] ne all = (ne, tt)
differs_too t text (u ∷ table) ne all = (all.0, differs_too t text table ne all.1)

apart_push : (text : List ℕ) (table : Table) → is_listed text table ≡ false → Apart table → Apart (table ++ text ∷ [])
unfolding IsDistinct
apart_push text [] new apart = (tt, tt)
apart_push text (t ∷ table) new apart =
    let both = or_parts (bytes_eq text t) _ new in
    (differs_too t text table (turned text t both.0) apart.0, apart_push text table both.1 apart.1)

none_apart : Apart []
unfolding IsDistinct
none_apart = tt

apart_with : (text : List ℕ) (table : Table) → Apart table → Apart (with_text text table)
apart_with text table apart = by (is_listed text table) refl
  where
    by : (b : Bool) → is_listed text table ≡ b → Apart (cond b table (table ++ text ∷ []))
    by true e = apart
    by false e = apart_push text table e apart

-- ---- each part of a document keeps them apart

abbrev Differ : Numbers → Type 0
Differ numbers = Apart numbers.items

item_kept : (text : List ℕ) (numbers : Numbers) → Differ numbers → Differ (with_item text numbers)
item_kept text numbers apart = apart_with text numbers.items apart

-- one of two, and of three
two_kept : {A : Type 0} (a : Bool) (x y : A × Numbers) → Differ x.1 → Differ y.1 → Differ (cond a x y).1
two_kept true x y first second = first
two_kept false x y first second = second

three_kept : {A : Type 0} (a b : Bool) (x y z : A × Numbers) → Differ x.1 → Differ y.1 → Differ z.1 → Differ (cond a x (cond b y z)).1
three_kept true b x y z first second third = first
three_kept false true x y z first second third = second
three_kept false false x y z first second third = third

reason_kept : (numbers : Numbers) (o : Option (List ℕ)) → Differ numbers → Differ (reason_of numbers o).1
unfolding reason_of
reason_kept numbers None apart = apart
reason_kept numbers (Some reason) apart = apart

argument_kept : (version : ℕ) (scope : Scope) (i : ℕ) (numbers : Numbers) (op : Data) → Differ numbers
    → Differ (argument_of version scope i numbers op).1
argument_kept version scope i numbers op apart = two_kept (is_source version i op) _ _ apart (item_kept (name_item i op) numbers apart)

template_kept : (version : ℕ) (scope : Scope) (v : Verb) (numbers : Numbers) (op : Data) → Differ numbers
    → Differ (template_of version scope v numbers op).1
unfolding template_of
template_kept version scope (OfAmount v) numbers op apart = apart
template_kept version scope (OfItem v) numbers op apart = argument_kept version scope 2 numbers op apart
template_kept version scope (OfPair v) numbers op apart =
    argument_kept version scope 3 (argument_of version scope 2 numbers op).1 op (argument_kept version scope 2 numbers op apart)
template_kept version scope (Alone v) numbers op apart = apart

refusal_kept : (numbers : Numbers) (d : Data) → Differ numbers → Differ (refusal_of numbers d).1
unfolding refusal_of
refusal_kept numbers d apart = two_kept (has (codes "else") d) _ _ (reason_kept numbers (else_reason d) apart) apart

operation_kept : (setting : Setting) (scope : Scope) (numbers : Numbers) (d : Data) → Differ numbers
    → Differ (operation_of setting scope numbers d).1
unfolding operation_of
operation_kept setting scope numbers d apart =
    let op = part (codes "op") d in
    let verb = verb_in setting op in
    refusal_kept (template_of setting.version scope verb numbers op).1 d
    (template_kept setting.version scope verb numbers op apart)

test_kept : (subject : Subject) (numbers : Numbers) (d : Data) → Differ numbers → Differ (test_of subject numbers d).1
unfolding test_of
test_kept subject numbers d apart = three_kept (has (codes "is") d) (has (codes "atleast") d) _ _ _ apart apart
    (item_kept (or_empty (text_member (codes "item") d)) numbers apart)

abort_kept : (numbers : Numbers) (d : Data) → Differ numbers → Differ (abort_of numbers d).1
unfolding abort_of
abort_kept numbers d apart = reason_kept numbers (as_str (part (codes "abort") d)) apart

-- what a block spells keeps them apart
abbrev Keeps : Spelling → Type 0
Keeps block = (scope : Scope) (numbers : Numbers) (d : Data) → Differ numbers → Differ (block scope numbers d).1

module _ (block : Spelling) (kept : Keeps block) where
  block_if_kept : (scope : Scope) (numbers : Numbers) (o : Option Data) → Differ numbers → Differ (block_of_if block scope numbers o).1
  unfolding block_of_if
  block_if_kept scope numbers None apart = apart
  block_if_kept scope numbers (Some d) apart = kept scope numbers d apart

  if_kept : (scope : Scope) (numbers : Numbers) (d : Data) → Differ numbers → Differ (if_of block scope numbers d).1
  unfolding if_of
  if_kept scope numbers d apart =
      let test = test_of (subject_of (if_label d) scope) numbers d in
      let first = block scope test.1 (part (codes "then") d) in
      block_if_kept scope first.1 (get (codes "else") d)
      (kept scope test.1 (part (codes "then") d) (test_kept (subject_of (if_label d) scope) numbers d apart))

  members_kept : (scope : Scope) (numbers : Numbers) (ds : Members) → Differ numbers → Differ (members_of block scope numbers ds).1
  members_kept scope numbers no_members apart = apart
  members_kept scope numbers (member reason d ds) apart =
      members_kept scope (block scope (with_reason reason numbers) d).1 ds (kept scope (with_reason reason numbers) d apart)

  handlers_kept : (scope : Scope) (numbers : Numbers) (o : Option Members) → Differ numbers
      → Differ (handlers_spelled block scope numbers o).1
  unfolding handlers_spelled
  handlers_kept scope numbers None apart = apart
  handlers_kept scope numbers (Some ds) apart = members_kept scope numbers ds apart

  sub_kept : (scope : Scope) (numbers : Numbers) (d : Data) → Differ numbers → Differ (sub_of block scope numbers d).1
  unfolding sub_of
  sub_kept scope numbers d apart =
      let body = block scope numbers (part (codes "sub") d) in
      let handlers = handlers_spelled block scope body.1 (handlers_in d) in
      block_if_kept scope handlers.1 (get (codes "handler") d)
      (handlers_kept scope body.1 (handlers_in d) (kept scope numbers (part (codes "sub") d) apart))

  children_kept : (scope : Scope) (numbers : Numbers) (ds : Items) → Differ numbers → Differ (children_spelled block scope numbers ds).1
  children_kept scope numbers no_items apart = apart
  children_kept scope numbers (item d ds) apart =
      children_kept scope (sub_of block scope numbers d).1 ds (sub_kept scope numbers d apart)

  parallel_kept : (scope : Scope) (numbers : Numbers) (d : Data) → Differ numbers → Differ (parallel_of block scope numbers d).1
  unfolding parallel_of
  parallel_kept scope numbers d apart = children_kept scope numbers (children_in d) apart

  module _ (setting : Setting) where
    step_kept_by : (o : Option Sort) (scope : Scope) (numbers : Numbers) (d : Data) → Differ numbers
        → Differ (step_of_by o block setting scope numbers d).1
    step_kept_by None scope numbers d apart = apart
    step_kept_by (Some an_operation) scope numbers d apart = operation_kept setting scope numbers d apart
    step_kept_by (Some an_if) scope numbers d apart = if_kept scope numbers d apart
    step_kept_by (Some a_sub) scope numbers d apart = sub_kept scope numbers d apart
    step_kept_by (Some an_abort) scope numbers d apart = abort_kept numbers d apart
    step_kept_by (Some a_parallel) scope numbers d apart = parallel_kept scope numbers d apart

    step_kept : (scope : Scope) (numbers : Numbers) (d : Data) → Differ numbers → Differ (step_of block setting scope numbers d).1
    unfolding step_of
    step_kept scope numbers d apart = step_kept_by (sort_of d) scope numbers d apart

    steps_kept : (scope : Scope) (numbers : Numbers) (ds : Items) → Differ numbers → Differ (steps_spelled block setting scope numbers ds).1
    steps_kept scope numbers no_items apart = apart
    steps_kept scope numbers (item d ds) apart =
        steps_kept (scope_after setting scope d) (step_of block setting scope numbers d).1 ds (step_kept scope numbers d apart)

block_kept : (setting : Setting) (n : ℕ) → Keeps (block_of setting n)
unfolding block_of
block_kept setting zero scope numbers d apart = apart
block_kept setting (suc n) scope numbers d apart =
    steps_kept (block_of setting n) (block_kept setting n) setting scope numbers (or_no_items (as_array d)) apart

blocks_kept : (setting : Setting) (numbers : Numbers) (ds : Items) → Differ numbers → Differ (blocks_of setting numbers ds).1
blocks_kept setting numbers no_items apart = apart
blocks_kept setting numbers (item d ds) apart =
    blocks_kept setting (block_of setting 24 [] numbers d).1 ds (block_kept setting 24 [] numbers d apart)

entries_kept : (numbers : Numbers) (ds : Items) → Differ numbers → Differ (entries_of numbers ds).1
entries_kept numbers no_items apart = apart
entries_kept numbers (item d ds) apart = entries_kept (with_item (text_of d) numbers) ds (item_kept (text_of d) numbers apart)

pairs_kept : (numbers : Numbers) (ds : Items) → Differ numbers → Differ (pairs_of numbers ds).1
pairs_kept numbers no_items apart = apart
pairs_kept numbers (item d ds) apart =
    let between = with_item (key_of d) numbers in
    pairs_kept (with_item (value_of d) between) ds (item_kept (value_of d) between (item_kept (key_of d) numbers apart))

form_kept : (form : ValueForm) (numbers : Numbers) (d : Data) → Differ numbers → Differ (form_start form numbers d).1
form_kept (value_form.Number k) numbers d apart = apart
form_kept value_form.Signed numbers d apart = apart
form_kept value_form.Set numbers d apart = entries_kept numbers (or_no_items (as_array d)) apart
form_kept value_form.Queue numbers d apart = entries_kept numbers (or_no_items (as_array d)) apart
form_kept value_form.Directory numbers d apart = pairs_kept numbers (or_no_items (as_array d)) apart

start_kept : (k : Kind) (numbers : Numbers) (d : Data) → Differ numbers → Differ (start_of k numbers d).1
unfolding start_of
start_kept k numbers d apart = form_kept (form_of k) numbers d apart

starts_kept : (version : ℕ) (numbers : Numbers) (ds : Items) → Differ numbers → Differ (starts_of version numbers ds).1
starts_kept version numbers no_items apart = apart
starts_kept version numbers (item d ds) apart =
    let k = kind_in version d in
    let start = part (codes "start") d in
    starts_kept version (start_of k numbers start).1 ds (start_kept k numbers start apart)

pub items_differ : (d : Data) → Apart (document_in d).texts.items
unfolding document_in parts_in
items_differ d = blocks_kept (setting_in d) (starts_of (version_in d) no_numbers (objects_in d)).1 (transactions_in d)
    (starts_kept (version_in d) no_numbers (objects_in d) none_apart)

-- ---- objects

object_new : (version : ℕ) (names : Table) (d : Data) → AllMet (object_asked version names d) → is_listed (object_name d) names ≡ false
unfolding object_asked object_name_asked
object_new version names d met =
    let A = object_shape_asked version d in
    let B = object_name_asked version names (object_name d) in
    let C = start_asked version (kind_in version d) (part (codes "start") d) in
    not-true _ (rest_met A B (first_met (A ++ B) C met)).1.0

names_differ : (version : ℕ) (names : Table) (ds : Items) → AllMet (objects_asked version names ds) → Apart names
    → Apart (names ++ names_of ds)
names_differ version names no_items met apart = subst Apart (sym (append-nil names)) apart
names_differ version names (item d ds) met apart =
    let next = names ++ object_name d ∷ [] in
    let A = object_asked version names d in
    let B = objects_asked version next ds in
    let new = object_new version names d (first_met A B met) in
    subst Apart (append_assoc names (object_name d ∷ []) (names_of ds))
    (names_differ version next ds (rest_met A B met) (apart_push (object_name d) names new apart))

pub objects_differ : (d : Data) → first_fault (placed d) ≡ None → Apart (document_in d).texts.objects
unfolding document_in parts_in asked
objects_differ d none =
    let all = faultless d none in
    let met = (passed (asked d) no_counts all.0 all.1).met in
    let A = document_shape_asked d in
    let B = objects_asked (version_in d) [] (objects_in d) in
    let C = transactions_asked 1 (setting_in d) (transactions_in d) in
    names_differ (version_in d) [] (objects_in d) (rest_met A B (first_met (A ++ B) C met)) none_apart
