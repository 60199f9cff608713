-- What is asked and spelled of the steps that have blocks, where blocks are read as they are asked and spelled.
use Rattle.std.specs.Prelude.{codes}
use Rattle.std.proofs.Common.{◌≡◌, ℕ, zero, suc, ◌+◌, refl, List, [], ◌∷◌, Option, None, Some}
use Rattle.serde_json.specs.Data.{Data, Items, no_items, item, Members, no_members, member}
use Rattle.serde_json.specs.Find.{as_array, as_str, get}
use Rattle.batch.specs.Names.{is_name}
use Rattle.doc_rules.specs.declared.rule.NameRule.TheVariants.{Handlers, Reason}
use Rattle.doc_rules.specs.declared.rule.Rule.TheVariants.{Name}
use Rattle.doc_rules.specs.Forms.{member_names}
use Rattle.doc_rules.specs.declared.form.Form.TheVariants as form
use Rattle.doc_tree.specs.declared.steps.Sort.{Sort}
use Rattle.doc_tree.specs.declared.steps.Sort.TheVariants.{Operation as an_operation, If as an_if, Sub as a_sub, Abort as an_abort}
use Rattle.doc_tree.specs.declared.steps.Sort.TheVariants.{Parallel as a_parallel}
use Rattle.doc_rules.specs.declared.subject.Subject.{Subject}
use Rattle.doc_rules.specs.declared.subject.Subject.TheVariants.{Outcome}
use Rattle.doc_tree.specs.Asked.{abort_asked, abort_shape_asked, children_in, handlers_are_members, handlers_in, has_one_test}
use Rattle.doc_tree.specs.Asked.{if_shape_asked, is_abort, label_in, label_is_text, labels_of, parallel_shape_asked, part, reason_asked}
use Rattle.doc_tree.specs.Asked.{scope_after, scope_after_by, seen_asked, sort_of, sub_shape_asked, test_asked, tested_word}
use Rattle.doc_tree.specs.Demand.{check, holds, one_more_node}
use Rattle.doc_tree.specs.Look.{has, has_only, list_member, text_member, whole_member}
use Rattle.doc_tree.specs.Places.{Places, block_placed, block_placed_if, children_placed, handlers_placed, here, if_placed, itself}
use Rattle.doc_tree.specs.Places.{member_named, members_placed, nothing, parallel_placed, seek, step_placed, step_placed_by, steps_placed}
use Rattle.doc_tree.specs.Places.{sub_placed}
use Rattle.doc_tree.specs.Scope.{Scope, Setting, named, with_label, with_labels, with_reason}
use Rattle.doc_tree.specs.Spelled.{Spelling, abort_of, block_of, block_of_if, children_spelled, handlers_spelled, if_of, members_of}
use Rattle.doc_tree.specs.Spelled.{parallel_of, step_of, step_of_by, steps_spelled, sub_of, test_of}
use Rattle.doc_rules.specs.Subjects.{fits_item, fits_number}
use Rattle.doc_language.specs.Document.{BlockReader, abort_in, block_in, handlers_by_reason, if_in, parallel_in, step_by}
use Rattle.doc_language.specs.Document.{step_in, sub_in, test_in}
use Rattle.doc_language.specs.Reading.{Seen, each, if_there, reason_in}
use Rattle.doc_language.proofs.Joined.{after_is, answer, asks_is, by_test, check_is, counted_is, each_is, inside_is, left_by, needs_is}
use Rattle.doc_language.proofs.Joined.{seen_of}
use Rattle.doc_language.proofs.OperationLemmas.{label_is, operation_reads, reason_is, reason_reads}

-- the test of an `if`
test_reads : (version : ℕ) (subject : Subject) (d : Data) (seen : Seen) → test_in version subject d seen
    ≡ answer (here (check seen.counts (test_asked version subject d))) (test_of subject seen.numbers d).0
    (test_of subject seen.numbers d).1
unfolding test_in test_asked test_of
test_reads version subject d seen =
    by_test (has (codes "is") d)
    (λ is. rw is (needs_is (tested_word subject d) _ (λ no. rw no) (λ word there. rw there)))
    (λ other. rw other (by_test (has (codes "atleast") d)
    (λ is. rw is (
    asks_is (fits_number subject) _ (λ no. rw no) (λ is. rw is (
    needs_is (whole_member (codes "atleast") d) _ (λ no. rw no) (λ n there. rw there)))))
    (λ other. rw other (
    asks_is (fits_item subject) _ (λ no. rw no) (λ is. rw is (
    needs_is (text_member (codes "item") d) _ (λ no. rw no) (λ x there. rw there (
    asks_is (is_name version x) _ (λ no. rw no) (λ is. rw is)))))))))

-- an abort, and the labels after it
abort_reads : (version : ℕ) (scope : Scope) (d : Data) (seen : Seen) → abort_in version scope d seen
    ≡ answer (seek seen.counts (itself (abort_asked version d) nothing)) ((abort_of seen.numbers d).0, scope) (abort_of seen.numbers d).1
unfolding abort_in abort_asked abort_shape_asked abort_of
abort_reads version scope d seen =
    let reason = as_str (part (codes "abort") d) in
    asks_is (has_only (member_names form.Abort) d) _ (λ no. rw no) (λ is. rw is (
    asks_is (is_abort version (part (codes "abort") d)) _ (λ no. rw no) (λ is. rw is (
    counted_is (one_more_node version) _ seen (λ e over. rw over) (λ c within. rw within (
    check_is (if_there (reason_in version Reason) reason) _ (check c (reason_asked version Reason reason))
    (reason_reads version Reason reason (seen_of c seen.numbers))
    (λ e failed. rw failed) (λ c met. rw met)))))))

-- the label of a subaction, among no others and then after these
label_alone : (label : Option (List ℕ)) (scope : Scope)
    → with_labels (with_label label Outcome []) scope ≡ with_label label Outcome scope
label_alone None scope = refl
label_alone (Some name) scope = refl

-- blocks are read as they are asked and spelled
abbrev pub Agrees : BlockReader → Places → Spelling → Type 0
Agrees block places spelling = (scope : Scope) (d : Data) (seen : Seen) → block scope d seen
    ≡ answer (seek seen.counts (places scope d)) (spelling scope seen.numbers d).0 (spelling scope seen.numbers d).1

module _ (block : BlockReader) (places : Places) (spelling : Spelling) (same : Agrees block places spelling) where
  -- a block that a step may have
  block_if_reads : (scope : Scope) (o : Option Data) (seen : Seen) → if_there (block scope) o seen
      ≡ answer (seek seen.counts (block_placed_if places scope o)) (block_of_if spelling scope seen.numbers o).0
      (block_of_if spelling scope seen.numbers o).1
  unfolding block_placed_if block_of_if
  block_if_reads scope None seen = refl
  block_if_reads scope (Some d) seen = after_is (block scope d) _ (seek seen.counts (places scope d)) (same scope d seen)
      (λ found failed. rw failed) (λ c met. rw met)

  -- an `if`, and the labels after it
  if_reads : (version : ℕ) (scope : Scope) (d : Data) (seen : Seen) → if_in version block scope d seen
      ≡ answer (seek seen.counts (if_placed version places scope d)) ((if_of spelling scope seen.numbers d).0, scope)
      (if_of spelling scope seen.numbers d).1
  unfolding if_in if_placed if_shape_asked seen_asked if_of
  if_reads version scope d seen =
      asks_is (has_only (member_names form.If) d) _
      (λ no. rw no) (λ is. rw is (
      asks_is (has_one_test d) _ (λ no. rw no) (λ is. rw is (
      needs_is (text_member (codes "if") d) _ (λ no. rw no) (λ label there. rw there (
      needs_is (get (codes "then") d) _ (λ no. rw no) (λ inner there. rw there (
      counted_is (one_more_node version) _ seen (λ e over. rw over) (λ c within. rw within (
      needs_is (named label scope) _ (λ no. rw no) (λ subject there. rw there (
      check_is (test_in version subject d) _ (check c (test_asked version subject d))
      (test_reads version subject d (seen_of c seen.numbers))
      (λ e failed. rw failed) (λ c met. rw met (
      inside_is (member_named (codes "then")) (block scope inner) _ (seek c (places scope inner))
      (same scope inner (seen_of c (test_of subject seen.numbers d).1)) (λ found failed. rw failed) (λ c met. rw met (
      inside_is (member_named (codes "else")) (if_there (block scope) (get (codes "else") d)) _
      (seek c (block_placed_if places scope (get (codes "else") d)))
      (block_if_reads scope (get (codes "else") d)
      (seen_of c (spelling scope (test_of subject seen.numbers d).1 inner).1)) (λ found failed. rw failed)
      (λ c met. rw met)))))))))))))))))

  -- the handlers by reason
  handlers_read : (version : ℕ) (scope : Scope) (ds : Members) (seen : Seen) → handlers_by_reason version block scope ds seen
      ≡ answer (seek seen.counts (members_placed version places scope ds)) (members_of spelling scope seen.numbers ds).0
      (members_of spelling scope seen.numbers ds).1
  handlers_read version scope no_members seen = refl
  handlers_read version scope (member reason d ds) seen =
      let numbers = with_reason reason seen.numbers in
      check_is (reason_in version Handlers reason) _
      (check seen.counts (holds (is_name version reason) (Name version Handlers) ∷ []))
      (reason_is version Handlers reason seen)
      (λ e failed. rw failed) (λ c met. rw met (
      inside_is (member_named reason) (block scope d) _ (seek c (places scope d)) (same scope d (seen_of c numbers))
      (λ found failed. rw failed) (λ c met. rw met (
      after_is (handlers_by_reason version block scope ds) _ (seek c (members_placed version places scope ds))
      (handlers_read version scope ds (seen_of c (spelling scope numbers d).1)) (λ found failed. rw failed) (λ c met. rw met)))))

  -- the same where a subaction may have them
  handlers_if_read : (version : ℕ) (scope : Scope) (o : Option Members) (seen : Seen)
      → if_there (handlers_by_reason version block scope) o seen
      ≡ answer (seek seen.counts (handlers_placed version places scope o)) (handlers_spelled spelling scope seen.numbers o).0
      (handlers_spelled spelling scope seen.numbers o).1
  unfolding handlers_placed handlers_spelled
  handlers_if_read version scope None seen = refl
  handlers_if_read version scope (Some ds) seen = after_is (handlers_by_reason version block scope ds) _
      (seek seen.counts (members_placed version places scope ds)) (handlers_read version scope ds seen) (λ found failed. rw failed)
      (λ c met. rw met)

  -- a subaction or a child, and the labels of the siblings up to it
  sub_reads : (version : ℕ) (scope earlier : Scope) (d : Data) (seen : Seen) → sub_in version block scope earlier d seen
      ≡ answer (seek seen.counts (sub_placed version places scope earlier d))
      ((sub_of spelling scope seen.numbers d).0, with_label (label_in d) Outcome earlier) (sub_of spelling scope seen.numbers d).1
  unfolding sub_in sub_placed sub_shape_asked sub_of
  sub_reads version scope earlier d seen =
      asks_is (has_only (member_names form.Subaction) d) _ (λ no. rw no) (λ is. rw is (
      needs_is (get (codes "sub") d) _ (λ no. rw no) (λ sub there. rw there (
      asks_is (label_is_text d) _ (λ no. rw no) (λ is. rw is (
      asks_is (handlers_are_members version d) _ (λ no. rw no) (λ is. rw is (
      counted_is (one_more_node version) _ seen (λ e over. rw over) (λ c within. rw within (
      label_is version scope earlier (label_in d) _ (λ e failed. rw failed) (λ new. rw new (
      let body = (spelling scope seen.numbers sub).1 in
      inside_is (member_named (codes "sub")) (block scope sub) _ (seek c (places scope sub)) (same scope sub (seen_of c seen.numbers))
      (λ found failed. rw failed) (λ c met. rw met (
      inside_is (member_named (codes "handlers")) (if_there (handlers_by_reason version block scope) (handlers_in d)) _
      (seek c (handlers_placed version places scope (handlers_in d))) (handlers_if_read version scope (handlers_in d) (seen_of c body))
      (λ found failed. rw failed) (λ c met. rw met (
      inside_is (member_named (codes "handler")) (if_there (block scope) (get (codes "handler") d)) _
      (seek c (block_placed_if places scope (get (codes "handler") d)))
      (block_if_reads scope (get (codes "handler") d)
      (seen_of c (handlers_spelled spelling scope body (handlers_in d)).1)) (λ found failed. rw failed)
      (λ c met. rw met)))))))))))))))))

  -- the children of a parallel step from an index on
  children_read : (version : ℕ) (scope earlier : Scope) (i : ℕ) (ds : Items) (seen : Seen)
      → each (sub_in version block scope) i earlier ds seen
      ≡ answer (seek seen.counts (children_placed version places scope earlier i ds))
      ((children_spelled spelling scope seen.numbers ds).0, labels_of earlier ds) (children_spelled spelling scope seen.numbers ds).1
  children_read version scope earlier i no_items seen = refl
  children_read version scope earlier i (item d ds) seen =
      let after = with_label (label_in d) Outcome earlier in
      each_is (sub_in version block scope) i earlier d ds seen (seek seen.counts (sub_placed version places scope earlier d))
      (λ c. seek c (children_placed version places scope after (i + 1) ds)) _ _ _ _ (sub_reads version scope earlier d seen)
      (λ c. children_read version scope after (i + 1) ds (seen_of c (sub_of spelling scope seen.numbers d).1))

  -- a parallel step, and the labels after it
  parallel_reads : (version : ℕ) (scope : Scope) (d : Data) (seen : Seen) → parallel_in version block scope d seen
      ≡ answer (seek seen.counts (parallel_placed version places scope d))
      ((parallel_of spelling scope seen.numbers d).0, with_labels (labels_of [] (children_in d)) scope)
      (parallel_of spelling scope seen.numbers d).1
  unfolding parallel_in parallel_placed parallel_shape_asked parallel_of
  parallel_reads version scope d seen =
      asks_is (has_only (member_names form.Parallel) d) _ (λ no. rw no) (λ is. rw is (
      needs_is (list_member (codes "parallel") d) _ (λ no. rw no) (λ ds there. rw there (
      counted_is (one_more_node version) _ seen (λ e over. rw over) (λ c within. rw within (
      inside_is (member_named (codes "parallel")) (each (sub_in version block scope) 0 [] ds) _
      (seek c (children_placed version places scope [] 0 ds)) (children_read version scope [] 0 ds (seen_of c seen.numbers))
      (λ found failed. rw failed) (λ c met. rw met)))))))

  -- a step of this sort, and the labels after it
  step_by_reads : (sort : Sort) (setting : Setting) (scope : Scope) (d : Data) (seen : Seen) → step_by sort block setting scope d seen
      ≡ answer (seek seen.counts (step_placed_by (Some sort) places setting scope d))
      ((step_of_by (Some sort) spelling setting scope seen.numbers d).0, scope_after_by (Some sort) setting scope d)
      (step_of_by (Some sort) spelling setting scope seen.numbers d).1
  step_by_reads an_operation setting scope d seen = operation_reads setting scope d seen
  step_by_reads an_if setting scope d seen = if_reads setting.version scope d seen
  step_by_reads a_sub setting scope d seen = after_is (sub_in setting.version block scope [] d) _
      (seek seen.counts (sub_placed setting.version places scope [] d)) (sub_reads setting.version scope [] d seen)
      (λ found failed. rw failed) (λ c met. rw (met, label_alone (label_in d) scope))
  step_by_reads an_abort setting scope d seen = abort_reads setting.version scope d seen
  step_by_reads a_parallel setting scope d seen = parallel_reads setting.version scope d seen

  -- a step, and the labels after it
  step_reads : (setting : Setting) (scope : Scope) (d : Data) (seen : Seen) → step_in block setting scope d seen
      ≡ answer (seek seen.counts (step_placed places setting scope d))
      ((step_of spelling setting scope seen.numbers d).0, scope_after setting scope d)
      (step_of spelling setting scope seen.numbers d).1
  unfolding step_in step_placed step_of scope_after
  step_reads setting scope d seen = needs_is (sort_of d) _ (λ no. rw no)
      (λ sort there. rw there (step_by_reads sort setting scope d seen))

  -- the steps of a block from an index on
  steps_read : (setting : Setting) (scope : Scope) (i : ℕ) (ds : Items) (seen : Seen) → each (step_in block setting) i scope ds seen
      ≡ answer (seek seen.counts (steps_placed places setting scope i ds))
      ((steps_spelled spelling setting scope seen.numbers ds).0, left_by (scope_after setting) scope ds)
      (steps_spelled spelling setting scope seen.numbers ds).1
  steps_read setting scope i no_items seen = refl
  steps_read setting scope i (item d ds) seen =
      let after = scope_after setting scope d in
      each_is (step_in block setting) i scope d ds seen (seek seen.counts (step_placed places setting scope d))
      (λ c. seek c (steps_placed places setting after (i + 1) ds)) _ _ _ _ (step_reads setting scope d seen)
      (λ c. steps_read setting after (i + 1) ds (seen_of c (step_of spelling setting scope seen.numbers d).1))

-- a block within so many more levels
pub block_reads : (setting : Setting) (n : ℕ) → Agrees (block_in setting n) (block_placed setting n) (block_of setting n)
unfolding block_in block_placed block_of
block_reads setting zero scope d seen = needs_is (as_array d) _ (λ no. rw no) (λ ds there. rw there)
block_reads setting (suc n) scope d seen = needs_is (as_array d) _ (λ no. rw no) (λ ds there. rw there (
    after_is (each (step_in (block_in setting n) setting) 0 scope ds) _
    (seek seen.counts (steps_placed (block_placed setting n) setting scope 0 ds))
    (steps_read (block_in setting n) (block_placed setting n) (block_of setting n) (block_reads setting n) setting scope 0 ds seen)
    (λ found failed. rw failed) (λ c met. rw met)))
