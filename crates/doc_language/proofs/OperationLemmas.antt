-- What is asked and spelled of an operation.
use Rattle.std.specs.Prelude.{codes, is_some, option_and_then, slice_get, not, ◌||◌}
use Rattle.std.specs.List.{position_or_len}
use Rattle.std.specs.Str.{bytes_eq}
use Rattle.std.proofs.Common.{◌≡◌, ◌<◌, ◌+◌, ℕ, Bool, true, false, cond, refl, length, List, [], ◌∷◌, Option, None, Some, Result, Ok, Err}
use Rattle.std.proofs.Common.{◌++◌, append_assoc, arith}
use Rattle.serde_json.specs.Data.{Data}
use Rattle.serde_json.specs.Find.{as_str, get}
use Rattle.atoms.specs.declared.item.Item.{Item}
use Rattle.vocabulary.specs.declared.verb.AmountVerb.{AmountVerb}
use Rattle.meaning.specs.Amounts.{amount_of}
use Rattle.meaning.specs.declared.template.Argument.{Argument}
use Rattle.meaning.specs.declared.template.Argument.TheVariants.{Is, From}
use Rattle.meaning.specs.declared.template.Refusal.TheVariants.{GoesOn, Aborts}
use Rattle.meaning.specs.declared.template.Template.{Template}
use Rattle.meaning.specs.declared.template.Template.TheVariants as template
use Rattle.vocabulary.specs.declared.verb.Verb.{Verb}
use Rattle.vocabulary.specs.declared.verb.Verb.TheVariants.{OfAmount, OfItem, OfPair, Alone}
use Rattle.vocabulary.specs.Words.{amount_call, verb_of_text}
use Rattle.batch.specs.Names.{is_name}
use Rattle.doc_rules.specs.declared.failure.Failure.{Failure}
use Rattle.doc_rules.specs.declared.subject.Subject.{Subject}
use Rattle.doc_rules.specs.declared.subject.Subject.TheVariants.{Reply}
use Rattle.doc_rules.specs.declared.rule.ArgumentRule.TheVariants as argument_rule
use Rattle.doc_rules.specs.declared.rule.NameRule.{NameRule}
use Rattle.doc_rules.specs.declared.rule.NameRule.TheVariants.{Else}
use Rattle.doc_rules.specs.declared.rule.OperandPlace.{OperandPlace}
use Rattle.doc_rules.specs.declared.rule.OperandPlace.TheVariants.{Third, Fourth}
use Rattle.doc_rules.specs.declared.rule.Rule.TheVariants as rule
use Rattle.doc_rules.specs.declared.rule.SourceRule.{SourceRule}
use Rattle.doc_rules.specs.declared.rule.SourceRule.TheVariants as source
use Rattle.doc_rules.specs.Subjects.{fits_item, fits_number}
use Rattle.doc_rules.specs.Forms.{member_names}
use Rattle.doc_rules.specs.declared.form.Form.TheVariants as form
use Rattle.doc_tree.specs.Asked.{amount_asked, amount_item, argument_asked, arguments_asked, else_reason, has_count, index_of, is_else}
use Rattle.doc_tree.specs.Asked.{is_source, item_asked, label_asked, label_in, label_is_text, name_item, operation_asked}
use Rattle.doc_tree.specs.Asked.{operation_shape_asked, part, reason_asked, source_asked, source_label, target_asked, verb_in}
use Rattle.doc_tree.specs.Demand.{check, holds, one_more_operation}
use Rattle.doc_tree.specs.Look.{has_only, text_item}
use Rattle.doc_tree.specs.Places.{Found, found_here, here, itself, nothing, seek}
use Rattle.doc_tree.specs.Scope.{Numbers, Scope, Setting, Table, is_listed, is_named, named, number_of, place_of, with_item}
use Rattle.doc_tree.specs.Scope.{with_label, with_reason}
use Rattle.doc_tree.specs.Spelled.{argument_of, item_of, item_template, operation_of, pair_template, reason_of, refusal_of}
use Rattle.doc_tree.specs.Spelled.{source_of, spelled_map, template_of}
use Rattle.doc_tree.proofs.Checks.{check_failed, check_met}
use Rattle.doc_tree.proofs.TableLemmas.{unlisted_text}
use Rattle.doc_language.specs.Document.{argument_in, call_in, item_argument, new_label, operation_in, refusal_in, source_argument}
use Rattle.doc_language.specs.Reading.{Reading, Seen, after, if_there, needs, reason_in, spells}
use Rattle.doc_language.proofs.Joined.{answer, asks_is, by_test, check_is, counted_is, needs_is, seen_of}

-- The label that gives an argument leaves the rest its number, an item the item and an argument either of them. Else there is a fault.
module _ {A : Type 0} {right : Result (A × Seen) Found} (seen : Seen) where
  source_is : (scope : Scope) (fits : Subject → Bool) (fit : Subject → SourceRule) (place : OperandPlace) (op : Data) (rest : ℕ → Reading A)
      → ((e : Failure) → check seen.counts (source_asked scope fits fit place op) ≡ Err e → Err (found_here e) ≡ right)
      → (check seen.counts (source_asked scope fits fit place op) ≡ Ok seen.counts
      → rest (source_of scope (index_of place) op) seen ≡ right)
      → source_argument scope fits fit place op rest seen ≡ right
  unfolding source_asked
  source_is scope fits fit place op rest unmet met =
      needs_is (source_label (index_of place) op) _ (λ no. unmet _ (rw no)) (λ name there.
      needs_is (named name scope) _ (λ no. unmet _ (rw (there, no))) (λ subject known.
      asks_is (fits subject) _ (λ no. unmet _ (rw (there, known, no))) (λ is. rw there at (met (rw (there, known, is))))))

  item_is : (version : ℕ) (place : OperandPlace) (op : Data) (rest : Item → Reading A)
      → ((e : Failure) → check seen.counts (item_asked version place op) ≡ Err e → Err (found_here e) ≡ right)
      → (check seen.counts (item_asked version place op) ≡ Ok seen.counts
      → rest (item_of (name_item (index_of place) op) seen.numbers)
      (seen_of seen.counts (with_item (name_item (index_of place) op) seen.numbers)) ≡ right)
      → item_argument version place op rest seen ≡ right
  unfolding item_asked
  item_is version place op rest unmet met =
      needs_is (text_item (index_of place) op) _ (λ no. unmet _ (rw no)) (λ name there.
      asks_is (is_name version name) _ (λ no. unmet _ (rw (there, no))) (λ is. rw there at (met (rw (there, is)))))

  argument_is : (version : ℕ) (scope : Scope) (place : OperandPlace) (op : Data) (rest : Argument → Reading A)
      → ((e : Failure) → check seen.counts (argument_asked version scope place op) ≡ Err e → Err (found_here e) ≡ right)
      → (check seen.counts (argument_asked version scope place op) ≡ Ok seen.counts
      → rest (argument_of version scope (index_of place) seen.numbers op).0
      (seen_of seen.counts (argument_of version scope (index_of place) seen.numbers op).1) ≡ right)
      → argument_in version scope place op rest seen ≡ right
  unfolding argument_asked
  argument_is version scope place op rest unmet met = by (is_source version (index_of place) op) unmet met
    where
      of : Bool → Argument × Numbers
      of b = cond b (From (source_of scope (index_of place) op), seen.numbers)
          (Is (item_of (name_item (index_of place) op) seen.numbers), with_item (name_item (index_of place) op) seen.numbers)

      by : (b : Bool)
          → ((e : Failure)
          → check seen.counts (cond b (source_asked scope fits_item source.Item place op) (item_asked version place op)) ≡ Err e
          → Err (found_here e) ≡ right)
          → (check seen.counts (cond b (source_asked scope fits_item source.Item place op) (item_asked version place op)) ≡ Ok seen.counts
          → rest (of b).0 (seen_of seen.counts (of b).1) ≡ right)
          → cond b (source_argument scope fits_item source.Item place op (λ label. rest (From label)))
          (item_argument version place op (λ x. rest (Is x))) seen ≡ right
      by true unmet met = source_is scope fits_item source.Item place op (λ label. rest (From label)) unmet met
      by false unmet met = item_is version place op (λ x. rest (Is x)) unmet met

-- the amount of a call, or the label that gives it
amount_reads : (version : ℕ) (scope : Scope) (v : AmountVerb) (op : Data) (seen : Seen)
    → cond (is_source version 2 op)
    (source_argument scope fits_number source.Number Third op (λ label. spells (template.OfAmount v label)))
    (needs (amount_item 2 op) (rule.Argument argument_rule.Amount) (λ n. spells (template.Given (amount_call v (amount_of n))))) seen
    ≡ answer (here (check seen.counts (amount_asked version scope op))) (template_of version scope (OfAmount v) seen.numbers op).0
    seen.numbers
unfolding amount_asked template_of
amount_reads version scope v op seen = by_test (is_source version 2 op)
    (λ is. rw is (source_is seen scope fits_number source.Number Third op (λ label. spells (template.OfAmount v label))
    (λ e failed. rw failed) (λ met. rw met)))
    (λ no. rw no (needs_is (amount_item 2 op) _ (λ no. rw no) (λ n there. rw there)))

-- a call, by its verb
call_reads : (version : ℕ) (scope : Scope) (v : Verb) (op : Data) (seen : Seen) → call_in version scope v op seen
    ≡ answer (here (check seen.counts (arguments_asked version scope v op))) (template_of version scope v seen.numbers op).0
    (template_of version scope v seen.numbers op).1
unfolding arguments_asked template_of
call_reads version scope (OfAmount v) op seen = asks_is (has_count 3 op) _ (λ no. rw no)
    (λ is. rw is (amount_reads version scope v op seen))
call_reads version scope (OfItem v) op seen = asks_is (has_count 3 op) _ (λ no. rw no) (λ is. rw is
    (argument_is seen version scope Third op (λ x. spells (item_template v x)) (λ e failed. rw failed) (λ met. rw met)))
call_reads version scope (OfPair v) op seen =
    let key = argument_asked version scope Third op in
    let item = argument_asked version scope Fourth op in
    let made = argument_of version scope 2 seen.numbers op in
    let rest : Argument → Argument → Reading Template = λ k x. spells (pair_template v k x) in
    asks_is (has_count 4 op) _ (λ no. rw no) (λ is. rw is
    (argument_is seen version scope Third op (λ k. argument_in version scope Fourth op (rest k))
    (λ e failed. rw (check_failed seen.counts e key item failed))
    (λ met. rw (check_met seen.counts seen.counts key item met)
    (argument_is (seen_of seen.counts made.1) version scope Fourth op (rest made.0) (λ e failed. rw failed) (λ met. rw met)))))
call_reads version scope (Alone v) op seen = asks_is (has_count 2 op) _ (λ no. rw no) (λ is. rw is)

-- the number of a reason
pub reason_is : (version : ℕ) (which : NameRule) (reason : List ℕ) (seen : Seen) → reason_in version which reason seen
    ≡ answer (here (check seen.counts (holds (is_name version reason) (rule.Name version which) ∷ [])))
    (number_of reason seen.numbers.reasons) (with_reason reason seen.numbers)
reason_is version which reason seen = asks_is (is_name version reason) _ (λ no. rw no) (λ is. rw is)

-- a reason, where there is one
pub reason_reads : (version : ℕ) (which : NameRule) (o : Option (List ℕ)) (seen : Seen) → if_there (reason_in version which) o seen
    ≡ answer (here (check seen.counts (reason_asked version which o))) (reason_of seen.numbers o).0 (reason_of seen.numbers o).1
unfolding reason_asked reason_of
reason_reads version which None seen = refl
reason_reads version which (Some reason) seen =
    check_is (reason_in version which reason) _ (check seen.counts (holds (is_name version reason) (rule.Name version which) ∷ []))
    (reason_is version which reason seen) (λ e failed. rw failed) (λ c met. rw met)

-- what an operation's refusal does
refusal_reads : (version : ℕ) (d : Data) (seen : Seen) → refusal_in version d seen
    ≡ answer (here (check seen.counts (reason_asked version Else (else_reason d)))) (refusal_of seen.numbers d).0
    (refusal_of seen.numbers d).1
unfolding refusal_of reason_asked
refusal_reads version d seen = by (get (codes "else") d)
  where
    by : (o : Option Data) → cond (is_some o)
        (after (if_there (reason_in version Else) (option_and_then as_str o)) (λ reason. spells (Aborts reason))) (spells GoesOn) seen
        ≡ answer (here (check seen.counts (reason_asked version Else (option_and_then as_str o))))
        (cond (is_some o) (spelled_map Aborts (reason_of seen.numbers (option_and_then as_str o))) (GoesOn, seen.numbers)).0
        (cond (is_some o) (spelled_map Aborts (reason_of seen.numbers (option_and_then as_str o))) (GoesOn, seen.numbers)).1
    by None = refl
    by (Some x) = check_is (if_there (reason_in version Else) (as_str x)) _ (check seen.counts (reason_asked version Else (as_str x)))
        (reason_reads version Else (as_str x) seen) (λ e failed. rw failed) (λ c met. rw met)

-- a label that may be set leaves the rest, and else there is a fault
pub label_is : {A : Type 0} {right : Result (A × Seen) Found} {seen : Seen} (version : ℕ) (scope earlier : Scope)
    (label : Option (List ℕ)) (rest : Reading A)
    → ((e : Failure) → check seen.counts (label_asked version scope earlier label) ≡ Err e → Err (found_here e) ≡ right)
    → (check seen.counts (label_asked version scope earlier label) ≡ Ok seen.counts → rest seen ≡ right)
    → new_label version scope earlier label rest seen ≡ right
unfolding label_asked
label_is version scope earlier None rest unmet met = met refl
label_is version scope earlier (Some name) rest unmet met = asks_is (is_name version name) _ (λ no. unmet _ (rw no))
    (λ is. asks_is (not (is_named name scope || is_named name earlier)) _ (λ no. unmet _ (rw (is, no))) (λ new. met (rw (is, new))))

-- a listed text has a place below the length
listed_below : (text : List ℕ) (table : Table) → is_listed text table ≡ true → position_or_len (bytes_eq text) table < length table
listed_below text [] is = cc
listed_below text (t ∷ table) is = by (bytes_eq text t) (listed_below text table) is
  where
    by : (b : Bool) → (is_listed text table ≡ true → position_or_len (bytes_eq text) table < length table)
        → (b || is_listed text table) ≡ true → cond (not b) (1 + position_or_len (bytes_eq text) table) 0 < length (t ∷ table)
    by true later is = omega arith
    by false later is = omega (arith, later is)

-- a listed text is one that has a place
listed : (text : List ℕ) (table : Table) → is_listed text table ≡ is_some (place_of text table)
listed text table = by (is_listed text table) refl
  where
    by : (b : Bool) → is_listed text table ≡ b → b ≡ is_some (place_of text table)
    by true is = let below = listed_below text table is in grind (arith, below)
    by false is = let last = unlisted_text text table is in grind (arith, last)

-- an operation, and the labels after it
pub operation_reads : (setting : Setting) (scope : Scope) (d : Data) (seen : Seen) → operation_in setting scope d seen
    ≡ answer (seek seen.counts (itself (operation_asked setting scope d) nothing))
    ((operation_of setting scope seen.numbers d).0, with_label (label_in d) (Reply (verb_in setting (part (codes "op") d))) scope)
    (operation_of setting scope seen.numbers d).1
unfolding operation_in operation_asked operation_shape_asked target_asked operation_of
operation_reads setting scope d seen =
    let op = part (codes "op") d in
    asks_is (has_only (member_names form.Operation) d) _ (λ no. rw no) (λ is. rw is (
    needs_is (text_item 0 op) _ (λ no. rw no) (λ object there. rw there (
    needs_is (text_item 1 op) _ (λ no. rw no) (λ word there. rw there (
    asks_is (label_is_text d) _ (λ no. rw no) (λ is. rw is (
    asks_is (is_else setting.version d) _ (λ no. rw no) (λ is. rw is (
    counted_is (one_more_operation setting.version) _ seen (λ e over. rw over) (λ c within. rw (within, listed object setting.names) (
    needs_is (place_of object setting.names) _ (λ no. rw no) (λ place there. rw there (
    let known = option_and_then (λ k. verb_of_text setting.version k word) (slice_get setting.kinds place) in
    needs_is known _ (λ no. rw no) (λ verb there. rw there (
    let arguments = arguments_asked setting.version scope verb op in
    let reason = reason_asked setting.version Else (else_reason d) in
    let labelled = label_asked setting.version scope [] (label_in d) in
    let made = template_of setting.version scope verb seen.numbers op in
    rw (append_assoc arguments reason labelled) (
    check_is (call_in setting.version scope verb op) _ (check c arguments)
    (call_reads setting.version scope verb op (seen_of c seen.numbers))
    (λ e failed. rw (check_failed c e arguments (reason ++ labelled) failed))
    (λ after_call met. rw (check_met c after_call arguments (reason ++ labelled) met) (
    check_is (refusal_in setting.version d) _ (check after_call reason)
    (refusal_reads setting.version d (seen_of after_call made.1))
    (λ e failed. rw (check_failed after_call e reason labelled failed))
    (λ then met. rw (check_met after_call then reason labelled met) (
    label_is setting.version scope [] (label_in d) _ (λ e failed. rw failed) (λ met. rw met))))))))))))))))))))))
