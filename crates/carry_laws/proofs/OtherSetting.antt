-- Transactions that are read with more objects, and in a later version, are the same.
use Rattle.std.proofs.Common.{◌≡◌, ℕ, zero, suc, ◌+◌, ◌≤◌, ◌&&◌, ◌||◌, Bool, true, false, not, cond, List, [], ◌∷◌, ◌++◌, Option, None}
use Rattle.std.proofs.Common.{Some, Ok}
use Rattle.std.proofs.Common.{Err, refl, sym, ap, ap₂, subst, ◌∙◌, arith}
use Rattle.std.specs.Prelude.{codes, is_some, nat_le, nat_lt, option_and_then, unwrap_or, ⊤}
use Rattle.std.proofs.lemmas.Bool.{lt-ltb, ltb-true}
use Rattle.serde_json.specs.Data.{Data, string as a_text, number as a_number, Items, no_items, item, Members, no_members, member}
use Rattle.serde_json.specs.Find.{at, as_array, as_bool, as_object, as_str, get}
use Rattle.objects.specs.declared.kind.Kind.{Kind}
use Rattle.batch.specs.Names.{is_name}
use Rattle.batch.specs.Views.{children_of, steps_of}
use Rattle.meaning.specs.Trees.{If, Parallel}
use Rattle.meaning.specs.Amounts.{amount_of}
use Rattle.meaning.specs.WellFormed.{largest_amount}
use Rattle.meaning.specs.declared.template.Argument.{Argument}
use Rattle.meaning.specs.declared.template.Argument.TheVariants as argument
use Rattle.meaning.specs.declared.template.Template.TheVariants as template
use Rattle.meaning.specs.declared.template.Template.TheVariants.{Given}
use Rattle.doc_rules.specs.declared.rule.CountRule.TheVariants.{Nodes, Operations}
use Rattle.doc_rules.specs.declared.rule.ArgumentRule.TheVariants as argument_rule
use Rattle.doc_rules.specs.declared.rule.NameRule.{NameRule}
use Rattle.doc_rules.specs.declared.rule.NameRule.TheVariants as names
use Rattle.doc_rules.specs.declared.rule.OperandPlace.{OperandPlace}
use Rattle.doc_rules.specs.declared.rule.OperandPlace.TheVariants.{Third, Fourth}
use Rattle.doc_rules.specs.declared.rule.SourceRule.TheVariants as source
use Rattle.doc_rules.specs.Subjects.{fits_item, fits_number}
use Rattle.doc_rules.specs.declared.rule.Rule.{Rule}
use Rattle.doc_rules.specs.declared.rule.Rule.TheVariants.{Depth, KnownObject, KnownOperation, Name, Shape}
use Rattle.doc_rules.specs.declared.rule.Rule.TheVariants as rule
use Rattle.doc_rules.specs.declared.rule.ShapeRule.TheVariants as shape
use Rattle.vocabulary.specs.Words.{amount_call, verb_of_text}
use Rattle.vocabulary.specs.declared.verb.Verb.{Verb}
use Rattle.vocabulary.specs.declared.verb.Verb.TheVariants.{OfAmount, OfItem, OfPair, Alone}
use Rattle.vocabulary.specs.declared.verb.LoneVerb.TheVariants.{Balance}
use Rattle.meaning.specs.declared.limits.TheConstants.{MAX_DEPTH}
use Rattle.doc_rules.specs.declared.subject.Subject.{Subject}
use Rattle.doc_rules.specs.declared.subject.Subject.TheVariants.{Outcome, Reply}
use Rattle.doc_tree.specs.declared.steps.Sort.{Sort}
use Rattle.doc_tree.specs.declared.steps.Sort.TheVariants.{Operation as an_operation, If as an_if, Sub as a_sub, Abort as an_abort}
use Rattle.doc_tree.specs.declared.steps.Sort.TheVariants.{Parallel as a_parallel}
use Rattle.doc_tree.specs.Demand.{Demand, and_then, broken_at, check, holds, in_transaction, limited, one_more_node}
use Rattle.doc_tree.specs.Demand.{one_more_operation, one_more_start}
use Rattle.doc_rules.specs.Limits.{limits_of}
use Rattle.doc_tree.specs.Look.{has, or_empty, text_member, whole, within}
use Rattle.doc_tree.specs.Scope.{Numbers, Scope, Setting, is_listed, kind_named, label_number, number_of, place_of, with_label}
use Rattle.doc_tree.specs.Scope.{with_item, with_reason}
use Rattle.doc_tree.specs.Asked.{abort_asked, abort_shape_asked, amount_asked, amount_item, argument_asked, arguments_asked, call_named}
use Rattle.doc_tree.specs.Asked.{children_in, else_reason, handlers_are_members, has_count, has_fills, index_of, is_else, is_source}
use Rattle.doc_tree.specs.Asked.{item_asked, name_item, reason_asked, source_asked}
use Rattle.doc_tree.specs.Asked.{handlers_in, holds_item, holds_number, holds_word}
use Rattle.doc_tree.specs.Asked.{if_label, if_shape_asked, is_abort, label_asked, label_in, object_of, operation_asked}
use Rattle.doc_tree.specs.Asked.{operation_shape_asked}
use Rattle.doc_tree.specs.Asked.{or_no_items, parallel_shape_asked, part, scope_after, scope_after_by, seen_asked, sort_of}
use Rattle.doc_tree.specs.Asked.{sub_shape_asked, subject_of, target_asked, test_asked, verb_at, verb_in}
use Rattle.doc_tree.specs.Spelled.{Spelling, block_of, block_of_if, blocks_of, children_spelled, handlers_spelled, if_of, item_of}
use Rattle.doc_tree.specs.Spelled.{item_template, operation_step, pair_template, refusal_of, source_of, template_of}
use Rattle.doc_tree.specs.Spelled.{members_of}
use Rattle.doc_tree.specs.Spelled.{operation_of, or_no_step, or_zero, parallel_of, spelled_map, step_of, step_of_by, steps_spelled, sub_of}
use Rattle.doc_tree.specs.Spelled.{sub_step, target_of, test_of, tried}
use Rattle.doc_tree.proofs.Checks.{check_met, check_parts}
use Rattle.doc_tree.proofs.Demands.{Asks, array_asked, block_asked, block_asked_if, children_asked, handlers_asked, if_asked}
use Rattle.doc_tree.proofs.Demands.{members_asked, parallel_asked, step_asked, step_asked_by, steps_asked, sub_asked, transaction_asked}
use Rattle.doc_tree.proofs.Demands.{transactions_asked}
use Rattle.doc_tree.proofs.MetLemmas.{What, count}
use Rattle.lang.proofs.PartCounts.{if_shape_counts, parallel_shape_counts, seen_counts}
use Rattle.carry_laws.proofs.Meeting.{Counts}

-- What the one setting declares, the other declares at the same places, and it may have what the one may.
pub record Declares (old new : Setting) : Type 0 where
  pub verbs : (k : Kind) (word : List ℕ) (v : Verb) → verb_of_text old.version k word ≡ Some v → verb_of_text new.version k word ≡ Some v
  pub reasons : nat_le 3 old.version ≡ true → nat_le 3 new.version ≡ true
  pub fills : has_fills old.version ≡ true → has_fills new.version ≡ true
  pub operations : (n : ℕ) → nat_lt n (limits_of old.version).operations ≡ true → nat_lt n (limits_of new.version).operations ≡ true
  pub nodes : (n : ℕ) → nat_lt n (limits_of old.version).nodes ≡ true → nat_lt n (limits_of new.version).nodes ≡ true
  pub named : (name : List ℕ) → is_name old.version name ≡ true → is_name new.version name ≡ true
  pub listed : (name : List ℕ) → is_listed name old.names ≡ true → is_listed name new.names ≡ true
  pub places : (name : List ℕ) → is_listed name old.names ≡ true → place_of name new.names ≡ place_of name old.names
  pub kinds : (name : List ℕ) (k : Kind) → kind_named name old ≡ Some k → kind_named name new ≡ Some k

-- ---- demands that are met by both

-- as many operations and nodes at most
pub record Fewer (c d : Counts) : Type 0 where
  pub operations : c.operations ≤ d.operations
  pub nodes : c.nodes ≤ d.nodes

-- they are met, and count as much at most
abbrev MetToo : Counts → List Demand → Counts → Type 0
MetToo c ds next = (last : Counts) × (check c ds ≡ Ok last) × Fewer last next

-- Where the one list is met, the other is, after whatever entries started before, and this is known.
pub record Kept (old new : List Demand) (P : Type 0) : Type 0 where
  pub kept : (c d next : Counts) → Fewer d c → check c old ≡ Ok next → MetToo d new next × P

kept_then : (xs xs' ys ys' : List Demand) (P Q : Type 0) → Kept xs xs' P → (P → Kept ys ys' Q) → Kept (xs ++ ys) (xs' ++ ys') (P × Q)
kept_then xs xs' ys ys' P Q first second = record {
  kept = λ c d next fewer met.
      let parts = check_parts c next xs ys met in
      let one = first.kept c d parts.0 fewer parts.1 in
      let other = (second one.1).kept parts.0 one.0.0 next one.0.2 parts.2 in
      ((other.0.0, check_met d one.0.0 xs' ys' one.0.1 ∙ other.0.1, other.0.2), (one.1, other.1));
}

-- one list after the other, where the second may go by what is known of the first
kept_on : (xs xs' ys ys' : List Demand) (P Q : Type 0) → Kept xs xs' P → Kept ys ys' Q → Kept (xs ++ ys) (xs' ++ ys') (P × Q)
kept_on xs xs' ys ys' P Q first second = kept_then xs xs' ys ys' P Q first (λ _. second)

-- and what follows from what is known
kept_so : (xs ys : List Demand) (P Q : Type 0) → (P → Q) → Kept xs ys P → Kept xs ys Q
kept_so xs ys P Q so it = record { kept = λ c d next fewer met. let both = it.kept c d next fewer met in (both.0, so both.1) }

-- no demand
none_met : (c d next : Counts) → Fewer d c → check c [] ≡ Ok next → MetToo d [] next
none_met c d next fewer met = let same : c ≡ next = cc in (d, refl, subst (Fewer d) same fewer)

-- fewer are below a limit, too
below_too : (n m most : ℕ) → n ≤ m → nat_lt m most ≡ true → nat_lt n most ≡ true
below_too n m most le below = let lt = ltb-true m most below in lt-ltb n most (omega (arith, lt, le))

one_operation : Counts → Counts
one_operation c = record c { operations = c.operations + 1 }

one_node : Counts → Counts
one_node c = record c { nodes = c.nodes + 1 }

fewer_operations : (c d : Counts) → Fewer d c → Fewer (one_operation d) (one_operation c)
unfolding one_operation
fewer_operations c d fewer =
    let o = fewer.operations in record { operations = omega (arith, o); nodes = fewer.nodes }

fewer_nodes : (c d : Counts) → Fewer d c → Fewer (one_node d) (one_node c)
unfolding one_node
fewer_nodes c d fewer =
    let n = fewer.nodes in record { operations = fewer.operations; nodes = omega (arith, n) }

-- a list that counts no entry is met after whatever entries
same_met : (ds : List Demand) (c d next : Counts) → Fewer d c → count What.starts ds ≡ 0 → check c ds ≡ Ok next → MetToo d ds next
unfolding one_operation one_node
same_met [] c d next fewer none met = none_met c d next fewer met
same_met (holds true rule ∷ ds) c d next fewer none met = same_met ds c d next fewer (omega (arith, none)) met
same_met (holds false rule ∷ ds) c d next fewer none met = cc
same_met (one_more_start version ∷ ds) c d next fewer none met = absurd (omega (arith, none))
same_met (one_more_operation version ∷ ds) c d next fewer none met =
    by (nat_lt c.operations (limits_of version).operations) refl
    (same_met ds (one_operation c) (one_operation d) next (fewer_operations c d fewer) (omega (arith, none))) met
  where
    by : (b : Bool) → nat_lt c.operations (limits_of version).operations ≡ b
        → (check (one_operation c) ds ≡ Ok next → MetToo (one_operation d) ds next)
        → and_then (limited b (Operations version) c (one_operation c)) (λ x. check x ds) ≡ Ok next
        → MetToo d (one_more_operation version ∷ ds) next
    by true within later rest =
        let it = later rest in
        let too = below_too d.operations c.operations (limits_of version).operations fewer.operations within in
        (it.0, ap (λ t. and_then (limited t (Operations version) d (one_operation d)) (λ x. check x ds)) too ∙ it.1, it.2)
    by false within later rest = cc
same_met (one_more_node version ∷ ds) c d next fewer none met =
    by (nat_lt c.nodes (limits_of version).nodes) refl
    (same_met ds (one_node c) (one_node d) next (fewer_nodes c d fewer) (omega (arith, none))) met
  where
    by : (b : Bool) → nat_lt c.nodes (limits_of version).nodes ≡ b
        → (check (one_node c) ds ≡ Ok next → MetToo (one_node d) ds next)
        → and_then (limited b (Nodes version) c (one_node c)) (λ x. check x ds) ≡ Ok next
        → MetToo d (one_more_node version ∷ ds) next
    by true within later rest =
        let it = later rest in
        let too = below_too d.nodes c.nodes (limits_of version).nodes fewer.nodes within in
        (it.0, ap (λ t. and_then (limited t (Nodes version) d (one_node d)) (λ x. check x ds)) too ∙ it.1, it.2)
    by false within later rest = cc
same_met (in_transaction i ∷ ds) c d next fewer none met =
    same_met ds (record c { transaction = i }) (record d { transaction = i }) next
    (record { operations = fewer.operations; nodes = fewer.nodes }) (omega (arith, none)) met

kept_same : (xs : List Demand) (P : Type 0) → count What.starts xs ≡ 0 → P → Kept xs xs P
kept_same xs P none known = record { kept = λ c d next fewer met. (same_met xs c d next fewer none met, known) }

-- before a list of which nothing is known
kept_with : (xs xs' ys ys' : List Demand) (P : Type 0) → Kept xs xs' P → Kept ys ys' ⊤ → Kept (xs ++ ys) (xs' ++ ys') P
kept_with xs xs' ys ys' P first second =
    kept_so (xs ++ ys) (xs' ++ ys') (P × ⊤) P (λ both. both.0) (kept_on xs xs' ys ys' P ⊤ first second)

-- after, or before, a list that is the same
kept_before : (xs ys ys' : List Demand) (P : Type 0) → count What.starts xs ≡ 0 → Kept ys ys' P → Kept (xs ++ ys) (xs ++ ys') P
kept_before xs ys ys' P none rest =
    kept_so (xs ++ ys) (xs ++ ys') (⊤ × P) P (λ both. both.1) (kept_on xs xs ys ys' ⊤ P (kept_same xs ⊤ none tt) rest)

kept_after : (xs xs' ys : List Demand) (P : Type 0) → count What.starts ys ≡ 0 → Kept xs xs' P → Kept (xs ++ ys) (xs' ++ ys) P
kept_after xs xs' ys P none first = kept_with xs xs' ys ys P first (kept_same ys ⊤ none tt)

-- a test that holds where another does, by whatever rules
kept_test : (a b : Bool) (rule later : Rule) → (a ≡ true → b ≡ true) → Kept (holds a rule ∷ []) (holds b later ∷ []) (a ≡ true)
kept_test true b rule later so = record {
  kept = λ c d next fewer met.
      let it = none_met c d next fewer met in
      ((it.0, ap (λ t. and_then (cond t (Ok d) (Err (broken_at later d))) (λ x. check x [])) (so refl) ∙ it.1, it.2), refl);
}
kept_test false b rule later so = record { kept = λ c d next fewer met. cc }

-- ---- arguments that labels give

-- what is a text, or an amount, is no object of JSON
text_no_object : (o : Option Data) → is_some (option_and_then as_str o) ≡ true → is_some (option_and_then as_object o) ≡ false
text_no_object None met = cc
text_no_object (Some (a_text s)) met = refl
text_no_object (Some d) met = cc

amount_no_object : (o : Option Data) → is_some (option_and_then (within 1 largest_amount) (option_and_then whole o)) ≡ true
    → is_some (option_and_then as_object o) ≡ false
amount_no_object None met = cc
amount_no_object (Some (a_number n)) met = refl
amount_no_object (Some d) met = cc

first_is : (b : Bool) (r : Rule) (ds : List Demand) (c next : Counts) → check c (holds b r ∷ ds) ≡ Ok next → b ≡ true
first_is true r ds c next met = refl
first_is false r ds c next met = cc

-- One of two lists, by whether an argument is an object and the version has such arguments. Where it has none, the list that is
-- met says that the argument is no object.
kept_choice : (is_object old_has new_has : Bool) (source given given' : List Demand) → (old_has ≡ true → new_has ≡ true)
    → count What.starts source ≡ 0 → Kept given given' ⊤
    → ((c next : Counts) → check c given ≡ Ok next → is_object ≡ false)
    → Kept (cond (is_object && old_has) source given) (cond (is_object && new_has) source given')
    ((is_object && new_has) ≡ (is_object && old_has))
kept_choice true true true source given given' later none also no_object = kept_same source _ none refl
kept_choice true true false source given given' later none also no_object = let it = later refl in cc
kept_choice true false new_has source given given' later none also no_object =
    record { kept = λ c d next fewer met. let no = no_object c next met in cc }
kept_choice false old_has new_has source given given' later none also no_object = kept_so given given' ⊤ _ (λ _. refl) also

-- One of three lists. Of the third nothing is known.
kept_third : (a b : Bool) (xs ys zs zs' : List Demand) → count What.starts xs ≡ 0 → count What.starts ys ≡ 0 → Kept zs zs' ⊤
    → Kept (cond a xs (cond b ys zs)) (cond a xs (cond b ys zs')) ⊤
kept_third true b xs ys zs zs' none also third = kept_same xs ⊤ none tt
kept_third false true xs ys zs zs' none also third = kept_same ys ⊤ also tt
kept_third false false xs ys zs zs' none also third = third

-- what may be left out may be so in a later version, too
or_later : (a b old_has new_has : Bool) → (old_has ≡ true → new_has ≡ true) → (a || (old_has && b)) ≡ true → (a || (new_has && b)) ≡ true
or_later true b old_has new_has later known = refl
or_later false true true new_has later known = ap (λ t. t && true) (later refl)
or_later false false true new_has later known = cc
or_later false b false new_has later known = cc

-- ---- the rows that differ

module _ (old new : Setting) (declares : Declares old new) where
  -- one more operation is within the limit of the other version
  one_more : Kept (one_more_operation old.version ∷ []) (one_more_operation new.version ∷ []) ⊤
  unfolding one_operation
  one_more = record {
    kept = λ c d next fewer met. (by c d next fewer (nat_lt c.operations (limits_of old.version).operations) refl met, tt);
  }
    where
      by : (c d next : Counts) → Fewer d c → (b : Bool) → nat_lt c.operations (limits_of old.version).operations ≡ b
          → and_then (limited b (Operations old.version) c (one_operation c)) (λ x. check x []) ≡ Ok next
          → MetToo d (one_more_operation new.version ∷ []) next
      by c d next fewer true within met =
          let it = none_met (one_operation c) (one_operation d) next (fewer_operations c d fewer) met in
          let too = below_too d.operations c.operations (limits_of old.version).operations fewer.operations within in (
            it.0,
            ap (λ t. and_then (limited t (Operations new.version) d (one_operation d)) (λ x. check x []))
                (declares.operations d.operations too) ∙ it.1,
            it.2,
          )
      by c d next fewer false within met = cc

  -- so is one more node
  node_kept : Kept (one_more_node old.version ∷ []) (one_more_node new.version ∷ []) ⊤
  unfolding one_node
  node_kept = record {
    kept = λ c d next fewer met. (by c d next fewer (nat_lt c.nodes (limits_of old.version).nodes) refl met, tt);
  }
    where
      by : (c d next : Counts) → Fewer d c → (b : Bool) → nat_lt c.nodes (limits_of old.version).nodes ≡ b
          → and_then (limited b (Nodes old.version) c (one_node c)) (λ x. check x []) ≡ Ok next
          → MetToo d (one_more_node new.version ∷ []) next
      by c d next fewer true within met =
          let it = none_met (one_node c) (one_node d) next (fewer_nodes c d fewer) met in
          let too = below_too d.nodes c.nodes (limits_of old.version).nodes fewer.nodes within in (
            it.0,
            ap (λ t. and_then (limited t (Nodes new.version) d (one_node d)) (λ x. check x [])) (declares.nodes d.nodes too) ∙ it.1,
            it.2,
          )
      by c d next fewer false within met = cc

  -- a name is one of the other version
  name_kept : (name : List ℕ) (which : NameRule) → Kept (holds (is_name old.version name) (Name old.version which) ∷ [])
      (holds (is_name new.version name) (Name new.version which) ∷ []) ⊤
  name_kept name which = kept_so _ _ _ ⊤ (λ _. tt)
      (kept_test (is_name old.version name) _ (Name old.version which) (Name new.version which) (declares.named name))

  -- so is that of a reason, of a label, of an item, and of a test's item
  reason_kept : (which : NameRule) (o : Option (List ℕ)) → Kept (reason_asked old.version which o) (reason_asked new.version which o) ⊤
  unfolding reason_asked
  reason_kept which None = kept_same [] ⊤ refl tt
  reason_kept which (Some reason) = name_kept reason which

  label_kept : (scope earlier : Scope) (o : Option (List ℕ))
      → Kept (label_asked old.version scope earlier o) (label_asked new.version scope earlier o) ⊤
  unfolding label_asked
  label_kept scope earlier None = kept_same [] ⊤ refl tt
  label_kept scope earlier (Some name) = kept_after (holds (is_name old.version name) (Name old.version names.Label) ∷ [])
      (holds (is_name new.version name) (Name new.version names.Label) ∷ []) (_ ∷ []) ⊤ refl (name_kept name names.Label)

  item_kept : (place : OperandPlace) (op : Data) → Kept (item_asked old.version place op) (item_asked new.version place op) ⊤
  unfolding item_asked
  item_kept place op =
      let name = name_item (index_of place) op in
      kept_before (_ ∷ []) (holds (is_name old.version name) (Name old.version (names.Argument place)) ∷ [])
      (holds (is_name new.version name) (Name new.version (names.Argument place)) ∷ []) ⊤ refl (name_kept name (names.Argument place))

  test_kept : (subject : Subject) (d : Data) → Kept (test_asked old.version subject d) (test_asked new.version subject d) ⊤
  unfolding test_asked
  test_kept subject d =
      let name = or_empty (text_member (codes "item") d) in
      kept_third (has (codes "is") d) (has (codes "atleast") d) (holds_word subject d) (holds_number subject d)
      (holds_item old.version subject d) (holds_item new.version subject d) refl refl
      (kept_before (_ ∷ _ ∷ []) (holds (is_name old.version name) (Name old.version names.TestedItem) ∷ [])
      (holds (is_name new.version name) (Name new.version names.TestedItem) ∷ []) ⊤ refl (name_kept name names.TestedItem))

  -- a word names the same verb of an object
  verb_kept : (object call : List ℕ) → is_some (verb_at old object call) ≡ true → verb_at new object call ≡ verb_at old object call
  verb_kept object call known = by (kind_named object old) refl known
    where
      by_verb : (k : Kind) (o : Option Verb) → verb_of_text old.version k call ≡ o → is_some o ≡ true
          → verb_of_text new.version k call ≡ o
      by_verb k None here found = cc
      by_verb k (Some v) here found = declares.verbs k call v here

      by : (o : Option Kind) → kind_named object old ≡ o → is_some (option_and_then (λ k. verb_of_text old.version k call) o) ≡ true
          → verb_at new object call ≡ option_and_then (λ k. verb_of_text old.version k call) o
      by None here found = cc
      by (Some k) here found =
          ap (option_and_then (λ x. verb_of_text new.version x call)) (declares.kinds object k here)
          ∙ by_verb k (verb_of_text old.version k call) refl found

  -- the object is the same, and so is the verb of the call
  abbrev SameTarget : Data → Type 0
  SameTarget op = (verb_in new op ≡ verb_in old op) × (target_of new (object_of op) ≡ target_of old (object_of op))

  target_kept : (op : Data) → Kept (target_asked old (object_of op) (call_named op)) (target_asked new (object_of op) (call_named op))
      (SameTarget op)
  unfolding target_asked
  target_kept op =
      let object = object_of op in
      let call = call_named op in
      let A = is_listed object old.names in
      let B = is_some (verb_at old object call) in
      let by_old = KnownOperation old.version (kind_named object old) in
      let by_new = KnownOperation new.version (kind_named object new) in
      kept_so _ _ ((A ≡ true) × (B ≡ true)) (SameTarget op) (λ known. (
        ap (λ o. unwrap_or o (Alone Balance)) (verb_kept object call known.1),
        ap or_zero (declares.places object known.0),
      ))
      (kept_on (holds A KnownObject ∷ []) (holds (is_listed object new.names) KnownObject ∷ []) (holds B by_old ∷ [])
      (holds (is_some (verb_at new object call)) by_new ∷ []) (A ≡ true) (B ≡ true)
      (kept_test A _ KnownObject KnownObject (declares.listed object))
      (kept_test B _ by_old by_new (λ known. ap is_some (verb_kept object call known) ∙ known)))

  operation_shape_kept : (d : Data) → Kept (operation_shape_asked old.version d) (operation_shape_asked new.version d) ⊤
  unfolding operation_shape_asked
  operation_shape_kept d =
      let by_old = Shape (shape.Else old.version) in
      let by_new = Shape (shape.Else new.version) in
      let given = part (codes "else") d in
      kept_so _ _ _ ⊤ (λ _. tt) (kept_before (_ ∷ _ ∷ _ ∷ _ ∷ []) (holds (is_else old.version d) by_old ∷ [])
      (holds (is_else new.version d) by_new ∷ []) _ refl (kept_test (is_else old.version d) _ by_old by_new
      (or_later (not (has (codes "else") d)) (unwrap_or (as_bool given) false || is_some (as_str given)) (has_fills old.version)
      (has_fills new.version) declares.fills)))

  -- the same arguments are given by labels
  amount_kept : (scope : Scope) (op : Data) → Kept (amount_asked old.version scope op) (amount_asked new.version scope op)
      (is_source new.version 2 op ≡ is_source old.version 2 op)
  unfolding amount_asked source_asked
  amount_kept scope op =
      kept_choice (is_some (option_and_then as_object (at 2 op))) (has_fills old.version) (has_fills new.version)
      (source_asked scope fits_number source.Number Third op) (holds (is_some (amount_item 2 op)) (rule.Argument argument_rule.Amount) ∷ [])
      _ declares.fills refl (kept_same _ ⊤ refl tt) (λ c next met. amount_no_object (at 2 op) (first_is _ _ [] c next met))

  argument_kept : (scope : Scope) (place : OperandPlace) (op : Data)
      → Kept (argument_asked old.version scope place op) (argument_asked new.version scope place op)
      (is_source new.version (index_of place) op ≡ is_source old.version (index_of place) op)
  unfolding argument_asked source_asked item_asked
  argument_kept scope place op =
      let named = holds (is_name old.version (name_item (index_of place) op)) (Name old.version (names.Argument place)) in
      kept_choice (is_some (option_and_then as_object (at (index_of place) op))) (has_fills old.version) (has_fills new.version)
      (source_asked scope fits_item source.Item place op) (item_asked old.version place op) (item_asked new.version place op)
      declares.fills refl (item_kept place op)
      (λ c next met. text_no_object (at (index_of place) op)
      (first_is _ _ (named ∷ []) c next met))

  -- the same call is spelled
  abbrev SameCall : Scope → Verb → Data → Type 0
  SameCall scope v op = (numbers : Numbers) → template_of new.version scope v numbers op ≡ template_of old.version scope v numbers op

  argument_at : Scope → ℕ → Data → Bool → Numbers → Argument × Numbers
  argument_at scope i op given numbers =
      cond given (argument.From (source_of scope i op), numbers)
      (argument.Is (item_of (name_item i op) numbers), with_item (name_item i op) numbers)

  arguments_kept : (scope : Scope) (v : Verb) (op : Data)
      → Kept (arguments_asked old.version scope v op) (arguments_asked new.version scope v op) (SameCall scope v op)
  unfolding arguments_asked template_of argument_at
  arguments_kept scope (OfAmount v) op =
      let shape = holds (has_count 3 op) (rule.Argument (argument_rule.Count (OfAmount v))) ∷ [] in
      kept_so _ _ _ (SameCall scope (OfAmount v) op) (λ same numbers.
      ap (λ b. (
        cond b (template.OfAmount v (source_of scope 2 op)) (Given (amount_call v (amount_of (or_zero (amount_item 2 op))))),
        numbers,
      ))
      same)
      (kept_before shape (amount_asked old.version scope op) (amount_asked new.version scope op) _ refl (amount_kept scope op))
  arguments_kept scope (OfItem v) op =
      let shape = holds (has_count 3 op) (rule.Argument (argument_rule.Count (OfItem v))) ∷ [] in
      kept_so _ _ _ (SameCall scope (OfItem v) op)
      (λ same numbers. ap (λ b. spelled_map (item_template v) (argument_at scope 2 op b numbers)) same)
      (kept_before shape (argument_asked old.version scope Third op) (argument_asked new.version scope Third op) _ refl
      (argument_kept scope Third op))
  arguments_kept scope (OfPair v) op =
      let shape = holds (has_count 4 op) (rule.Argument (argument_rule.Count (OfPair v))) ∷ [] in
      let A = argument_asked old.version scope Third op in
      let A' = argument_asked new.version scope Third op in
      let B = argument_asked old.version scope Fourth op in
      let B' = argument_asked new.version scope Fourth op in
      kept_so _ _ _ (SameCall scope (OfPair v) op)
      (λ both numbers. ap₂ (λ b c. let key = argument_at scope 2 op b numbers in
      spelled_map (pair_template v key.0) (argument_at scope 3 op c key.1)) both.0 both.1)
      (kept_before shape (A ++ B) (A' ++ B') _ refl
      (kept_on A A' B B' _ _ (argument_kept scope Third op) (argument_kept scope Fourth op)))
  arguments_kept scope (Alone v) op = kept_same _ _ refl (λ numbers. refl)

  -- the operation is the same
  abbrev SameOperation : Scope → Data → Type 0
  SameOperation scope op = SameTarget op × SameCall scope (verb_in old op) op

  operation_kept : (scope : Scope) (d : Data)
      → Kept (operation_asked old scope d) (operation_asked new scope d) (SameOperation scope (part (codes "op") d))
  unfolding operation_asked
  operation_kept scope d =
      let op = part (codes "op") d in
      let A = operation_shape_asked old.version d in
      let A' = operation_shape_asked new.version d in
      let B = one_more_operation old.version ∷ [] in
      let B' = one_more_operation new.version ∷ [] in
      let C = target_asked old (object_of op) (call_named op) in
      let C' = target_asked new (object_of op) (call_named op) in
      let D = arguments_asked old.version scope (verb_in old op) op in
      let D' = arguments_asked new.version scope (verb_in new op) op in
      let E = reason_asked old.version names.Else (else_reason d) in
      let E' = reason_asked new.version names.Else (else_reason d) in
      let F = label_asked old.version scope [] (label_in d) in
      let F' = label_asked new.version scope [] (label_in d) in
      let call = SameCall scope (verb_in old op) op in
      let head = kept_on (A ++ B) (A' ++ B') C C' (⊤ × ⊤) (SameTarget op)
      (kept_on A A' B B' ⊤ ⊤ (operation_shape_kept d) one_more) (target_kept op) in
      let rest = λ (same : (⊤ × ⊤) × SameTarget op). subst (λ v. Kept D (arguments_asked new.version scope v op) call) (sym same.1.0)
      (arguments_kept scope (verb_in old op) op) in
      let four = kept_so (A ++ B ++ C ++ D) (A' ++ B' ++ C' ++ D') (((⊤ × ⊤) × SameTarget op) × call) (SameOperation scope op)
      (λ known. (known.0.1, known.1))
      (kept_then (A ++ B ++ C) (A' ++ B' ++ C') D D' ((⊤ × ⊤) × SameTarget op) call head rest) in
      kept_with (A ++ B ++ C ++ D ++ E) (A' ++ B' ++ C' ++ D' ++ E') F F' (SameOperation scope op)
      (kept_with (A ++ B ++ C ++ D) (A' ++ B' ++ C' ++ D') E E' (SameOperation scope op) four (reason_kept names.Else (else_reason d)))
      (label_kept scope [] (label_in d))

  operation_same : (scope : Scope) (numbers : Numbers) (d : Data) → SameOperation scope (part (codes "op") d)
      → operation_of new scope numbers d ≡ operation_of old scope numbers d
  unfolding operation_of
  operation_same scope numbers d same =
      let op = part (codes "op") d in
      let made = ap (λ v. template_of new.version scope v numbers op) same.0.0 ∙ same.1 numbers in
      ap₂ (λ object call. spelled_map (operation_step object call.0 (is_some (label_in d))) (refusal_of call.1 d)) same.0.1 made

  -- reasons, and handlers by reason, are in the other version, too
  or_reasons : (a b : Bool) → (a || (nat_le 3 old.version && b)) ≡ true → (a || (nat_le 3 new.version && b)) ≡ true
  or_reasons a b known = or_later a b (nat_le 3 old.version) (nat_le 3 new.version) declares.reasons known

  sub_shape_kept : (d : Data) → Kept (sub_shape_asked old.version d) (sub_shape_asked new.version d) ⊤
  unfolding sub_shape_asked
  sub_shape_kept d =
      let by_old = Shape (shape.Handlers old.version) in
      let by_new = Shape (shape.Handlers new.version) in
      kept_so _ _ _ ⊤ (λ _. tt) (kept_before (_ ∷ _ ∷ _ ∷ []) (holds (handlers_are_members old.version d) by_old ∷ [])
      (holds (handlers_are_members new.version d) by_new ∷ []) _ refl (kept_test (handlers_are_members old.version d) _ by_old by_new
      (or_reasons (not (has (codes "handlers") d)) (is_some (option_and_then as_object (get (codes "handlers") d))))))

  abort_kept : (d : Data) → Kept (abort_asked old.version d) (abort_asked new.version d) ⊤
  unfolding abort_asked abort_shape_asked
  abort_kept d =
      let asked = part (codes "abort") d in
      let by_old = Shape (shape.Abort old.version) in
      let by_new = Shape (shape.Abort new.version) in
      let test = holds (is_abort old.version asked) by_old ∷ [] in
      let later = holds (is_abort new.version asked) by_new ∷ [] in
      let node = one_more_node old.version ∷ [] in
      let node' = one_more_node new.version ∷ [] in
      kept_with (_ ∷ test ++ node) (_ ∷ later ++ node') _ _ ⊤
      (kept_before (_ ∷ []) (test ++ node) (later ++ node') ⊤ refl
      (kept_so (test ++ node) (later ++ node') _ ⊤ (λ _. tt) (kept_on test later node node' _ ⊤
      (kept_test (is_abort old.version asked) _ by_old by_new
      (or_reasons (unwrap_or (as_bool asked) false) (is_some (as_str asked))))
      node_kept)))
      (reason_kept names.Reason (as_str asked))

  -- ---- the steps that hold blocks

  module _ (old_asks new_asks : Asks) (old_block new_block : Spelling)
      (inner : (scope : Scope) (d : Data) → Kept (old_asks scope d) (new_asks scope d)
      ((numbers : Numbers) → new_block scope numbers d ≡ old_block scope numbers d)) where
    block_if_kept : (scope : Scope) (o : Option Data) → Kept (block_asked_if old_asks scope o) (block_asked_if new_asks scope o)
        ((numbers : Numbers) → block_of_if new_block scope numbers o ≡ block_of_if old_block scope numbers o)
    unfolding block_asked_if block_of_if
    block_if_kept scope None = kept_same [] _ refl (λ numbers. refl)
    block_if_kept scope (Some d) = kept_so _ _ _ _ (λ same numbers. ap (spelled_map (λ b. Some b)) (same numbers)) (inner scope d)

    if_kept : (scope : Scope) (d : Data) → Kept (if_asked old.version old_asks scope d) (if_asked new.version new_asks scope d)
        ((numbers : Numbers) → if_of new_block scope numbers d ≡ if_of old_block scope numbers d)
    unfolding if_asked if_of
    if_kept scope d =
        let then = part (codes "then") d in
        let else = get (codes "else") d in
        let subject = subject_of (if_label d) scope in
        let A = if_shape_asked d in
        let B = one_more_node old.version ∷ [] in
        let B' = one_more_node new.version ∷ [] in
        let C = seen_asked scope (if_label d) in
        let D = test_asked old.version subject d in
        let D' = test_asked new.version subject d in
        let E = old_asks scope then in
        let E' = new_asks scope then in
        let F = block_asked_if old_asks scope else in
        let F' = block_asked_if new_asks scope else in
        let counted = kept_before A B B' ⊤ (if_shape_counts What.starts d) node_kept in
        let tested = kept_with (A ++ B ++ C) (A ++ B' ++ C) D D' ⊤
        (kept_after (A ++ B) (A ++ B') C ⊤ (seen_counts What.starts scope (if_label d)) counted) (test_kept subject d) in
        let head = kept_on (A ++ B ++ C ++ D) (A ++ B' ++ C ++ D') E E' _ _ tested (inner scope then) in
        kept_so (A ++ B ++ C ++ D ++ E ++ F) (A ++ B' ++ C ++ D' ++ E' ++ F') _ _ (λ same numbers.
        let test = test_of subject numbers d in
        λ i. spelled_map (λ second. If (label_number (if_label d) scope) test.0 (same.0.1 test.1 i).0 (or_no_step second))
        (same.1 (same.0.1 test.1 i).1 i))
        (kept_on (A ++ B ++ C ++ D ++ E) (A ++ B' ++ C ++ D' ++ E') F F' _ _ head (block_if_kept scope else))

    members_kept : (scope : Scope) (ds : Members)
        → Kept (members_asked old.version old_asks scope ds) (members_asked new.version new_asks scope ds)
        ((numbers : Numbers) → members_of new_block scope numbers ds ≡ members_of old_block scope numbers ds)
    members_kept scope no_members = kept_same [] _ refl (λ numbers. refl)
    members_kept scope (member reason d ds) =
        let A = holds (is_name old.version reason) (Name old.version names.Handlers) ∷ [] in
        let A' = holds (is_name new.version reason) (Name new.version names.Handlers) ∷ [] in
        let E = old_asks scope d in
        let E' = new_asks scope d in
        let F = members_asked old.version old_asks scope ds in
        let F' = members_asked new.version new_asks scope ds in
        kept_so (A ++ E ++ F) (A' ++ E' ++ F') _ _ (λ same numbers. λ i.
        let one = same.0.1 (with_reason reason numbers) i in
        let rest = same.1 one.1 i in
        ((number_of reason numbers.reasons, one.0) ∷ rest.0, rest.1))
        (kept_on (A ++ E) (A' ++ E') F F' _ _ (kept_on A A' E E' ⊤ _ (name_kept reason names.Handlers) (inner scope d))
        (members_kept scope ds))

    handlers_kept : (scope : Scope) (o : Option Members)
        → Kept (handlers_asked old.version old_asks scope o) (handlers_asked new.version new_asks scope o)
        ((numbers : Numbers) → handlers_spelled new_block scope numbers o ≡ handlers_spelled old_block scope numbers o)
    unfolding handlers_asked handlers_spelled
    handlers_kept scope None = kept_same [] _ refl (λ numbers. refl)
    handlers_kept scope (Some ds) = kept_so _ _ _ _ (λ same numbers. ap (spelled_map (λ handlers. Some handlers)) (same numbers))
        (members_kept scope ds)

    sub_kept : (scope earlier : Scope) (d : Data)
        → Kept (sub_asked old.version old_asks scope earlier d) (sub_asked new.version new_asks scope earlier d)
        ((numbers : Numbers) → sub_of new_block scope numbers d ≡ sub_of old_block scope numbers d)
    unfolding sub_asked sub_of
    sub_kept scope earlier d =
        let sub = part (codes "sub") d in
        let members = handlers_in d in
        let handler = get (codes "handler") d in
        let A = sub_shape_asked old.version d in
        let A' = sub_shape_asked new.version d in
        let B = one_more_node old.version ∷ [] in
        let B' = one_more_node new.version ∷ [] in
        let C = label_asked old.version scope earlier (label_in d) in
        let C' = label_asked new.version scope earlier (label_in d) in
        let D = old_asks scope sub in
        let D' = new_asks scope sub in
        let E = handlers_asked old.version old_asks scope members in
        let E' = handlers_asked new.version new_asks scope members in
        let F = block_asked_if old_asks scope handler in
        let F' = block_asked_if new_asks scope handler in
        let counted = kept_so (A ++ B) (A' ++ B') _ ⊤ (λ _. tt) (kept_on A A' B B' ⊤ ⊤ (sub_shape_kept d) node_kept) in
        let head = kept_with (A ++ B) (A' ++ B') C C' ⊤ counted (label_kept scope earlier (label_in d)) in
        let body = kept_on (A ++ B ++ C) (A' ++ B' ++ C') D D' _ _ head (inner scope sub) in
        let handled = kept_on (A ++ B ++ C ++ D) (A' ++ B' ++ C' ++ D') E E' _ _ body (handlers_kept scope members) in
        kept_so (A ++ B ++ C ++ D ++ E ++ F) (A' ++ B' ++ C' ++ D' ++ E' ++ F') _ _ (λ same numbers. λ i.
        let one = same.0.0.1 numbers i in
        let by_reasons = same.0.1 one.1 i in
        spelled_map (λ otherwise. tried one.0 by_reasons.0 otherwise (is_some (label_in d))) (same.1 by_reasons.1 i))
        (kept_on (A ++ B ++ C ++ D ++ E) (A' ++ B' ++ C' ++ D' ++ E') F F' _ _ handled (block_if_kept scope handler))

    children_kept : (scope earlier : Scope) (ds : Items)
        → Kept (children_asked old.version old_asks scope earlier ds) (children_asked new.version new_asks scope earlier ds)
        ((numbers : Numbers) → children_spelled new_block scope numbers ds ≡ children_spelled old_block scope numbers ds)
    children_kept scope earlier no_items = kept_same [] _ refl (λ numbers. refl)
    children_kept scope earlier (item d ds) =
        let next = with_label (label_in d) Outcome earlier in
        kept_so _ _ _ _ (λ same numbers. λ i.
        let one = same.0 numbers i in
        let rest = same.1 one.1 i in
        (one.0 ∷ rest.0, rest.1))
        (kept_on (sub_asked old.version old_asks scope earlier d) (sub_asked new.version new_asks scope earlier d)
        (children_asked old.version old_asks scope next ds) (children_asked new.version new_asks scope next ds) _ _
        (sub_kept scope earlier d) (children_kept scope next ds))

    parallel_kept : (scope : Scope) (d : Data)
        → Kept (parallel_asked old.version old_asks scope d) (parallel_asked new.version new_asks scope d)
        ((numbers : Numbers) → parallel_of new_block scope numbers d ≡ parallel_of old_block scope numbers d)
    unfolding parallel_asked parallel_of
    parallel_kept scope d =
        let A = parallel_shape_asked d in
        let B = one_more_node old.version ∷ [] in
        let B' = one_more_node new.version ∷ [] in
        kept_so _ _ _ _ (λ same numbers. ap (spelled_map (λ children. Parallel (children_of children))) (same.1 numbers))
        (kept_on (A ++ B) (A ++ B') (children_asked old.version old_asks scope [] (children_in d))
        (children_asked new.version new_asks scope [] (children_in d)) ⊤ _
        (kept_before A B B' ⊤ (parallel_shape_counts What.starts d) node_kept) (children_kept scope [] (children_in d)))

    -- ---- any step

    -- the step is the same, and so are the labels after it
    abbrev SameStep : Option Sort → Scope → Data → Type 0
    SameStep sort scope d =
        ((numbers : Numbers) → step_of_by sort new_block new scope numbers d ≡ step_of_by sort old_block old scope numbers d)
        × (scope_after_by sort new scope d ≡ scope_after_by sort old scope d)

    step_kept : (sort : Option Sort) (scope : Scope) (d : Data)
        → Kept (step_asked_by sort old_asks old scope d) (step_asked_by sort new_asks new scope d) (SameStep sort scope d)
    step_kept None scope d = kept_same (holds false (Shape shape.Sort) ∷ []) _ refl (λ numbers. refl, refl)
    step_kept (Some an_operation) scope d = kept_so _ _ (SameOperation scope (part (codes "op") d)) _
        (λ same. (λ numbers. operation_same scope numbers d same, ap (λ v. with_label (label_in d) (Reply v) scope) same.0.0))
        (operation_kept scope d)
    step_kept (Some an_if) scope d = kept_so _ _ _ _ (λ same. (same, refl)) (if_kept scope d)
    step_kept (Some a_sub) scope d =
        kept_so _ _ _ _ (λ same. (λ numbers. ap (spelled_map sub_step) (same numbers), refl)) (sub_kept scope [] d)
    step_kept (Some an_abort) scope d = kept_so _ _ _ _ (λ _. (λ numbers. refl, refl)) (abort_kept d)
    step_kept (Some a_parallel) scope d = kept_so _ _ _ _ (λ same. (same, refl)) (parallel_kept scope d)

    steps_kept : (scope : Scope) (ds : Items) → Kept (steps_asked old_asks old scope ds) (steps_asked new_asks new scope ds)
        ((numbers : Numbers) → steps_spelled new_block new scope numbers ds ≡ steps_spelled old_block old scope numbers ds)
    unfolding step_asked step_of scope_after
    steps_kept scope no_items = kept_same [] _ refl (λ numbers. refl)
    steps_kept scope (item d ds) =
        let after = scope_after old scope d in
        let Rest = λ (later : Scope). (numbers : Numbers) → steps_spelled new_block new later numbers ds
        ≡ steps_spelled old_block old after numbers ds in
        kept_so _ _ _ _ (λ same numbers. λ i.
        let one = same.0.0 numbers i in
        let rest = same.1 one.1 i in
        (one.0 ∷ rest.0, rest.1))
        (kept_then (step_asked old_asks old scope d) (step_asked new_asks new scope d) (steps_asked old_asks old after ds)
        (steps_asked new_asks new (scope_after new scope d) ds) (SameStep (sort_of d) scope d) (Rest (scope_after new scope d))
        (step_kept (sort_of d) scope d)
        (λ same. subst (λ later. Kept (steps_asked old_asks old after ds) (steps_asked new_asks new later ds) (Rest later)) (sym same.1)
        (steps_kept after ds)))

    array_kept : (scope : Scope) (o : Option Items)
        → Kept (array_asked (steps_asked old_asks old scope) o) (array_asked (steps_asked new_asks new scope) o)
        ((numbers : Numbers) → steps_spelled new_block new scope numbers (or_no_items o)
        ≡ steps_spelled old_block old scope numbers (or_no_items o))
    array_kept scope None = kept_same (holds false (Shape shape.Block) ∷ []) _ refl (λ numbers. refl)
    array_kept scope (Some ds) = steps_kept scope ds

  -- ---- blocks

  -- a block that is too deep counts no entry
  too_deep : (o : Option Items) → count What.starts (array_asked (λ ds. holds false Depth ∷ []) o) ≡ 0
  too_deep None = refl
  too_deep (Some ds) = refl

  block_kept : (n : ℕ) (scope : Scope) (d : Data) → Kept (block_asked old n scope d) (block_asked new n scope d)
      ((numbers : Numbers) → block_of new n scope numbers d ≡ block_of old n scope numbers d)
  unfolding block_asked block_of
  block_kept zero scope d = kept_same _ _ (too_deep (as_array d)) (λ numbers. refl)
  block_kept (suc n) scope d = kept_so _ _ _ _ (λ same numbers. ap (spelled_map steps_of) (same numbers))
      (array_kept (block_asked old n) (block_asked new n) (block_of old n) (block_of new n) (block_kept n) scope (as_array d))

  -- transactions that meet their demands by the one setting meet them by the other, and are the same
  pub transactions_kept : (number : ℕ) (ds : Items) → Kept (transactions_asked number old ds) (transactions_asked number new ds)
      ((numbers : Numbers) → blocks_of new numbers ds ≡ blocks_of old numbers ds)
  transactions_kept number no_items = kept_same [] _ refl (λ numbers. refl)
  transactions_kept number (item d ds) =
      kept_so _ _ _ _ (λ same numbers. λ i.
      let one = same.0 numbers i in
      let rest = same.1 one.1 i in
      (one.0 ∷ rest.0, rest.1))
      (kept_on (transaction_asked number old d) (transaction_asked number new d) (transactions_asked (number + 1) old ds)
      (transactions_asked (number + 1) new ds) _ _
      (kept_before (in_transaction number ∷ []) (block_asked old MAX_DEPTH [] d) (block_asked new MAX_DEPTH [] d) _ refl
      (block_kept MAX_DEPTH [] d))
      (transactions_kept (number + 1) ds))
