-- What a document spells has its texts: each item and reason that a transaction names.
use Rattle.std.proofs.Common.{◌≡◌, ◌<◌, ◌+◌, ℕ, zero, suc, Bool, true, false, cond, List, [], ◌∷◌, ◌++◌, length, Option, None, Some, subst}
use Rattle.std.proofs.Common.{arith, sym}
use Rattle.std.specs.Prelude.{codes, is_some, ⊤}
use Rattle.std.specs.Option.{ForSome}
use Rattle.serde_json.specs.Data.{Data, Items, no_items, item, Members, no_members, member}
use Rattle.serde_json.specs.Find.{get, as_array, as_str}
use Rattle.atoms.specs.declared.item.Item.{Item}
use Rattle.meaning.specs.declared.template.Argument.{Argument}
use Rattle.meaning.specs.declared.template.Argument.TheVariants as argument
use Rattle.meaning.specs.declared.template.Refusal.{Refusal}
use Rattle.meaning.specs.declared.template.Refusal.TheVariants.{GoesOn, Aborts}
use Rattle.meaning.specs.declared.template.Template.{Template}
use Rattle.meaning.specs.declared.template.Template.TheVariants as template
use Rattle.meaning.specs.declared.test.Test.{Test}
use Rattle.meaning.specs.Trees as tree
use Rattle.meaning.specs.Trees.{Handlers, for_reasons, handlers_of}
use Rattle.batch.specs.Names.{Texts, is_name}
use Rattle.batch.specs.Named.{AllNamed, AreNamed, AreNamedHandlers, HasReason, HasText, IsNamed, IsNamedArgument, IsNamedCall}
use Rattle.batch.specs.Named.{IsNamedRefusal, IsNamedStep, IsNamedTemplate, IsNamedTest}
use Rattle.batch.specs.Views.{Tried, children_of, steps_of}
use Rattle.doc_tree.specs.declared.steps.Sort.{Sort}
use Rattle.doc_tree.specs.declared.steps.Sort.TheVariants.{Operation as an_operation, If as an_if, Sub as a_sub, Abort as an_abort}
use Rattle.doc_tree.specs.declared.steps.Sort.TheVariants.{Parallel as a_parallel}
use Rattle.vocabulary.specs.declared.verb.ItemVerb.{ItemVerb}
use Rattle.vocabulary.specs.declared.verb.AmountVerb.{AmountVerb}
use Rattle.vocabulary.specs.declared.verb.LoneVerb.{LoneVerb}
use Rattle.vocabulary.specs.declared.verb.PairVerb.{PairVerb}
use Rattle.doc_rules.specs.declared.subject.Subject.{Subject}
use Rattle.doc_rules.specs.declared.subject.Subject.TheVariants.{Outcome}
use Rattle.vocabulary.specs.declared.verb.Verb.{Verb}
use Rattle.vocabulary.specs.declared.verb.Verb.TheVariants.{OfAmount, OfItem, OfPair, Alone}
use Rattle.doc_rules.specs.declared.rule.OperandPlace.{OperandPlace}
use Rattle.doc_rules.specs.declared.rule.OperandPlace.TheVariants.{Third, Fourth}
use Rattle.doc_rules.specs.declared.rule.SourceRule.TheVariants.{Item as HasItem}
use Rattle.doc_rules.specs.Subjects.{fits_item}
use Rattle.doc_rules.specs.declared.rule.ArgumentRule.TheVariants.{Count}
use Rattle.doc_rules.specs.declared.rule.NameRule.{NameRule}
use Rattle.doc_rules.specs.declared.rule.NameRule.TheVariants as names
use Rattle.doc_rules.specs.declared.rule.Rule.TheVariants as rule
use Rattle.meaning.specs.Amounts.{amount_of}
use Rattle.meaning.specs.declared.limits.TheConstants.{MAX_DEPTH}
use Rattle.doc_tree.specs.Demand.{Demand, holds, in_transaction, one_more_node, one_more_operation}
use Rattle.doc_tree.specs.Look.{has, or_empty, text_member}
use Rattle.doc_tree.specs.Scope.{Numbers, Scope, Setting, number_of, with_item, with_label, with_reason}
use Rattle.vocabulary.specs.Words.{ItemsAre, amount_call, item_call, lone_call, pair_call}
use Rattle.vocabulary.proofs.Words.{amount_phrase, item_phrase, lone_phrase, pair_phrase}
use Rattle.doc_tree.specs.Asked.{abort_asked, abort_shape_asked, amount_item, argument_asked, arguments_asked}
use Rattle.doc_tree.specs.Asked.{call_named, children_in, handlers_in, has_count, holds_item, holds_number}
use Rattle.doc_tree.specs.Asked.{holds_word, if_label, if_shape_asked, item_asked, label_asked, label_in}
use Rattle.doc_tree.specs.Asked.{name_item, object_of, operation_asked, operation_shape_asked, or_no_items}
use Rattle.doc_tree.specs.Asked.{parallel_shape_asked, part, reason_asked, scope_after, seen_asked, sort_of}
use Rattle.doc_tree.specs.Asked.{sub_shape_asked, subject_of, target_asked, test_asked}
use Rattle.doc_tree.specs.Asked.{else_reason, index_of, is_source, source_asked, verb_in}
use Rattle.doc_tree.specs.Spelled.{abort_of, argument_of, block_of, block_of_if, blocks_of, children_spelled, handlers_spelled, if_of}
use Rattle.doc_tree.specs.Spelled.{item_of, item_template, members_of, operation_of, operation_step, or_no_step, or_zero, pair_template}
use Rattle.doc_tree.specs.Spelled.{parallel_of, reason_of, refusal_of, source_of, spelled_map, step_of, target_of, template_of}
use Rattle.doc_tree.specs.Spelled.{step_of_by, steps_spelled}
use Rattle.doc_tree.specs.Spelled.{sub_of, test_of}
use Rattle.lang.proofs.Later.{argument_later, block_later, handlers_later, step_later, template_later, test_later}
use Rattle.doc_merge.proofs.NumberedTexts.{number_below}
use Rattle.lang.proofs.Tables.{Grows, Numbered, grows_before, grows_behind, grows_item, grows_none, grows_on, grows_reason}
use Rattle.lang.proofs.Tables.{texts_in}
use Rattle.doc_tree.proofs.Demands.{array_asked, block_asked, block_asked_if, children_asked, handlers_asked, if_asked, member_asked}
use Rattle.doc_tree.proofs.Demands.{members_asked, parallel_asked, step_asked, step_asked_by, steps_asked, sub_asked, transaction_asked}
use Rattle.doc_tree.proofs.Demands.{transactions_asked}

-- ---- given calls

item_call_named : (texts : Texts) (v : ItemVerb) (x : Item) → HasText texts x → IsNamedCall texts (item_call v x)
item_call_named texts v x named = subst (ItemsAre (HasText texts)) (sym (item_phrase v x)) named

pair_call_named : (texts : Texts) (v : PairVerb) (k x : Item) → HasText texts k → HasText texts x → IsNamedCall texts (pair_call v k x)
pair_call_named texts v k x key named = subst (ItemsAre (HasText texts)) (sym (pair_phrase v k x)) (key, named)

amount_call_named : (texts : Texts) (v : AmountVerb) (n : ℕ) → IsNamedCall texts (amount_call v (amount_of n))
amount_call_named texts v n = subst (ItemsAre (HasText texts)) (sym (amount_phrase v (amount_of n))) tt

lone_call_named : (texts : Texts) (v : LoneVerb) → IsNamedCall texts (lone_call v)
lone_call_named texts v = subst (ItemsAre (HasText texts)) (sym (lone_phrase v)) tt

-- ---- arguments

argument_numbered : (version : ℕ) (scope : Scope) (place : OperandPlace) (numbers : Numbers) (op : Data)
    → Numbered version IsNamedArgument numbers (argument_of version scope (index_of place) numbers op)
    (argument_asked version scope place op)
unfolding argument_asked item_asked
argument_numbered version scope place numbers op = by (is_source version (index_of place) op)
  where
    by : (source : Bool) → Numbered version IsNamedArgument numbers
        (cond source (argument.From (source_of scope (index_of place) op), numbers)
        (argument.Is (item_of (name_item (index_of place) op) numbers), with_item (name_item (index_of place) op) numbers))
        (cond source (source_asked scope fits_item HasItem place op) (item_asked version place op))
    by true = record { named = tt; grows = grows_none numbers _ }
    by false = record {
      named = number_below (name_item (index_of place) op) numbers.items;
      grows = grows_item version (name_item (index_of place) op) numbers (item_asked version place op) (λ met. met.1.0);
    }

item_template_named : (texts : Texts) (v : ItemVerb) (x : Argument) → IsNamedArgument texts x → IsNamedTemplate texts (item_template v x)
item_template_named texts v (argument.Is x) named = item_call_named texts v x named
item_template_named texts v (argument.From label) named = tt

pair_template_named : (texts : Texts) (v : PairVerb) (k x : Argument) → IsNamedArgument texts k → IsNamedArgument texts x
    → IsNamedTemplate texts (pair_template v k x)
pair_template_named texts v (argument.Is k) (argument.Is x) key named = pair_call_named texts v k x key named
pair_template_named texts v (argument.Is k) (argument.From label) key named = (key, named)
pair_template_named texts v (argument.From label) x key named = (key, named)

amount_template_named : (texts : Texts) (v : AmountVerb) (source : Bool) (label n : ℕ)
    → IsNamedTemplate texts (cond source (template.OfAmount v label) (template.Given (amount_call v (amount_of n))))
amount_template_named texts v true label n = tt
amount_template_named texts v false label n = amount_call_named texts v n

template_numbered : (version : ℕ) (scope : Scope) (v : Verb) (numbers : Numbers) (op : Data)
    → Numbered version IsNamedTemplate numbers (template_of version scope v numbers op) (arguments_asked version scope v op)
unfolding template_of arguments_asked
template_numbered version scope (OfAmount v) numbers op = record {
  named = amount_template_named (texts_in numbers) v (is_source version 2 op) (source_of scope 2 op) (or_zero (amount_item 2 op));
  grows = grows_none numbers _;
}
template_numbered version scope (OfItem v) numbers op =
    let shape = holds (has_count 3 op) (rule.Argument (Count (OfItem v))) ∷ [] in
    let x = argument_numbered version scope Third numbers op in
    let read = argument_of version scope 2 numbers op in
    record {
      named = item_template_named (texts_in read.1) v read.0 x.named;
      grows = grows_behind numbers read.1 shape (argument_asked version scope Third op) x.grows;
    }
template_numbered version scope (OfPair v) numbers op =
    let shape = holds (has_count 4 op) (rule.Argument (Count (OfPair v))) ∷ [] in
    let A = argument_asked version scope Third op in
    let B = argument_asked version scope Fourth op in
    let key = argument_of version scope 2 numbers op in
    let read = argument_of version scope 3 key.1 op in
    let first = argument_numbered version scope Third numbers op in
    let second = argument_numbered version scope Fourth key.1 op in
    let key_named = argument_later (texts_in key.1) (texts_in read.1) second.grows.items second.grows.reasons key.0 first.named in
    record {
      named = pair_template_named (texts_in read.1) v key.0 read.0 key_named second.named;
      grows = grows_behind numbers read.1 shape (A ++ B) (grows_on numbers key.1 read.1 A B first.grows second.grows);
    }
template_numbered version scope (Alone v) numbers op =
    record { named = lone_call_named (texts_in numbers) v; grows = grows_none numbers _ }

-- ---- operations

reason_numbered : (version : ℕ) (which : NameRule) (numbers : Numbers) (o : Option (List ℕ))
    → Numbered version (λ texts reason. ForSome reason (HasReason texts)) numbers (reason_of numbers o) (reason_asked version which o)
unfolding reason_of reason_asked
reason_numbered version which numbers None = record { named = λ r is. absurd cc; grows = grows_none numbers _ }
reason_numbered version which numbers (Some reason) = record {
  named = λ r is. let same : number_of reason numbers.reasons ≡ r = cc in subst (λ n. n < length (with_reason reason numbers).reasons) same
      (number_below reason numbers.reasons);
  grows = grows_reason version reason numbers _ (λ met. met.0);
}

refusal_numbered : (version : ℕ) (numbers : Numbers) (d : Data)
    → Numbered version IsNamedRefusal numbers (refusal_of numbers d) (reason_asked version names.Else (else_reason d))
unfolding refusal_of
refusal_numbered version numbers d = by (has (codes "else") d)
  where
    by : (b : Bool) → Numbered version IsNamedRefusal numbers
        (cond b (spelled_map Aborts (reason_of numbers (else_reason d))) (GoesOn, numbers))
        (reason_asked version names.Else (else_reason d))
    by true =
        let reason = reason_numbered version names.Else numbers (else_reason d) in record { named = reason.named; grows = reason.grows }
    by false = record { named = tt; grows = grows_none numbers _ }

step_named : (texts : Texts) (object : ℕ) (t : Template) (labelled : Bool) (refusal : Refusal) → IsNamedTemplate texts t
    → IsNamedRefusal texts refusal → IsNamedStep texts (operation_step object t labelled refusal)
step_named texts object (template.Given call) labelled GoesOn named also = named
step_named texts object (template.Given call) labelled (Aborts reason) named also = (named, also)
step_named texts object (template.OfAmount v label) labelled refusal named also = (named, also)
step_named texts object (template.OfItem v label) labelled refusal named also = (named, also)
step_named texts object (template.OfPair v key x) labelled refusal named also = (named, also)

operation_numbered : (setting : Setting) (scope : Scope) (numbers : Numbers) (d : Data)
    → Numbered setting.version IsNamedStep numbers (operation_of setting scope numbers d) (operation_asked setting scope d)
unfolding operation_of operation_asked
operation_numbered setting scope numbers d =
    let op = part (codes "op") d in
    let A = operation_shape_asked setting.version d in
    let B = one_more_operation setting.version ∷ [] in
    let C = target_asked setting (object_of op) (call_named op) in
    let D = arguments_asked setting.version scope (verb_in setting op) op in
    let E = reason_asked setting.version names.Else (else_reason d) in
    let F = label_asked setting.version scope [] (label_in d) in
    let made = template_of setting.version scope (verb_in setting op) numbers op in
    let last = refusal_of made.1 d in
    let call = template_numbered setting.version scope (verb_in setting op) numbers op in
    let refusal = refusal_numbered setting.version made.1 d in
    let call_named_still = template_later (texts_in made.1) (texts_in last.1) refusal.grows.items refusal.grows.reasons made.0 call.named in
    record {
      named = step_named (texts_in last.1) (target_of setting (object_of op)) made.0 (is_some (label_in d)) last.0 call_named_still
          refusal.named;
      grows = grows_before _ _ (A ++ B ++ C ++ D ++ E) F
          (grows_on numbers made.1 last.1 (A ++ B ++ C ++ D) E (grows_behind _ _ (A ++ B ++ C) D call.grows) refusal.grows);
    }

-- ---- tests and aborts

-- one of three tests
one_of_three : {version : ℕ} (a b : Bool) (numbers : Numbers) (x y z : Test × Numbers) (X Y Z : List Demand)
    → Numbered version IsNamedTest numbers x X → Numbered version IsNamedTest numbers y Y → Numbered version IsNamedTest numbers z Z
    → Numbered version IsNamedTest numbers (cond a x (cond b y z)) (cond a X (cond b Y Z))
one_of_three true b numbers x y z X Y Z first second third = first
one_of_three false true numbers x y z X Y Z first second third = second
one_of_three false false numbers x y z X Y Z first second third = third

test_numbered : (version : ℕ) (subject : Subject) (numbers : Numbers) (d : Data)
    → Numbered version IsNamedTest numbers (test_of subject numbers d) (test_asked version subject d)
unfolding test_of test_asked
test_numbered version subject numbers d =
    let text = or_empty (text_member (codes "item") d) in
    one_of_three (has (codes "is") d) (has (codes "atleast") d) numbers _ _ _ (holds_word subject d) (holds_number subject d)
    (holds_item version subject d)
    (record { named = tt; grows = grows_none numbers _ })
    (record { named = tt; grows = grows_none numbers _ })
    (record {
      named = number_below text numbers.items;
      grows = grows_item version text numbers (holds_item version subject d) (λ met. met.1.1.0);
    })

abort_numbered : (version : ℕ) (numbers : Numbers) (d : Data)
    → Numbered version IsNamedStep numbers (abort_of numbers d) (abort_asked version d)
unfolding abort_of abort_asked
abort_numbered version numbers d =
    let reason = reason_numbered version names.Reason numbers (as_str (part (codes "abort") d)) in
    record { named = reason.named; grows = grows_behind _ _ (abort_shape_asked version d) _ reason.grows }

-- ---- the steps that hold blocks

NamedIf : Texts → Option tree.Block → Type 0
NamedIf texts None = ⊤
NamedIf texts (Some block) = IsNamed texts block

or_no_step_named : (texts : Texts) (o : Option tree.Block) → NamedIf texts o → IsNamed texts (or_no_step o)
unfolding NamedIf
or_no_step_named texts None named = tt
or_no_step_named texts (Some block) named = named

NamedMembers : Texts → List (ℕ × tree.Block) → Type 0
NamedMembers texts [] = ⊤
NamedMembers texts (first ∷ rest) = HasReason texts first.0 × IsNamed texts first.1 × NamedMembers texts rest

NamedMembersIf : Texts → Option (List (ℕ × tree.Block)) → Type 0
NamedMembersIf texts None = ⊤
NamedMembersIf texts (Some members) = NamedMembers texts members

members_named : (texts : Texts) (members : List (ℕ × tree.Block)) (others : Handlers) → NamedMembers texts members
    → AreNamedHandlers texts others → AreNamedHandlers texts (for_reasons members others)
unfolding NamedMembers
members_named texts [] others named last = last
members_named texts (first ∷ rest) others named last = (named.0, named.1, members_named texts rest others named.2 last)

handlers_named : (texts : Texts) (members : Option (List (ℕ × tree.Block))) (o : Option tree.Block) → NamedMembersIf texts members
    → NamedIf texts o → AreNamedHandlers texts (handlers_of members o)
unfolding NamedMembersIf NamedIf
handlers_named texts None None named last = tt
handlers_named texts None (Some handler) named last = last
handlers_named texts (Some members) None named last = members_named texts members _ named tt
handlers_named texts (Some members) (Some handler) named last = members_named texts members _ named last

members_later : {version : ℕ} (before after : Numbers) (ds : List Demand) → Grows version before after ds
    → (members : List (ℕ × tree.Block)) → NamedMembers (texts_in before) members → NamedMembers (texts_in after) members
unfolding NamedMembers
members_later before after ds grows [] named = tt
members_later before after ds grows (first ∷ rest) named = (
  omega (arith, grows.reasons, named.0),
  block_later (texts_in before) (texts_in after) grows.items grows.reasons first.1 named.1,
  members_later before after ds grows rest named.2,
)

members_if_later : {version : ℕ} (before after : Numbers) (ds : List Demand) → Grows version before after ds
    → (members : Option (List (ℕ × tree.Block))) → NamedMembersIf (texts_in before) members → NamedMembersIf (texts_in after) members
unfolding NamedMembersIf
members_if_later before after ds grows None named = tt
members_if_later before after ds grows (Some members) named = members_later before after ds grows members named

module _ (setting : Setting) (asks : Scope → Data → List Demand) (block : Scope → Numbers → Data → tree.Block × Numbers)
    (inner : (scope : Scope) (numbers : Numbers) (d : Data)
    → Numbered setting.version IsNamed numbers (block scope numbers d) (asks scope d)) where
  block_if_numbered : (scope : Scope) (numbers : Numbers) (o : Option Data)
      → Numbered setting.version NamedIf numbers (block_of_if block scope numbers o) (block_asked_if asks scope o)
  unfolding block_of_if block_asked_if NamedIf
  block_if_numbered scope numbers None = record { named = tt; grows = grows_none numbers _ }
  block_if_numbered scope numbers (Some d) = let it = inner scope numbers d in record { named = it.named; grows = it.grows }

  if_numbered : (scope : Scope) (numbers : Numbers) (d : Data)
      → Numbered setting.version IsNamedStep numbers (if_of block scope numbers d) (if_asked setting.version asks scope d)
  unfolding if_of if_asked
  if_numbered scope numbers d =
      let subject = subject_of (if_label d) scope in
      let tested = test_of subject numbers d in
      let one = block scope tested.1 (part (codes "then") d) in
      let other = block_of_if block scope one.1 (get (codes "else") d) in
      let test = test_numbered setting.version subject numbers d in
      let first = inner scope tested.1 (part (codes "then") d) in
      let second = block_if_numbered scope one.1 (get (codes "else") d) in
      let A = if_shape_asked d in
      let B = one_more_node setting.version ∷ [] in
      let C = seen_asked scope (if_label d) in
      let D = test_asked setting.version subject d in
      let E = asks scope (part (codes "then") d) in
      let F = block_asked_if asks scope (get (codes "else") d) in
      let both = grows_on tested.1 one.1 other.1 E F first.grows second.grows in
      record {
        named = (
          test_later (texts_in tested.1) (texts_in other.1) both.items both.reasons tested.0 test.named,
          block_later (texts_in one.1) (texts_in other.1) second.grows.items second.grows.reasons one.0 first.named,
          or_no_step_named (texts_in other.1) other.0 second.named,
        );
        grows = grows_on numbers one.1 other.1 (A ++ B ++ C ++ D ++ E) F (grows_on numbers tested.1 one.1 (A ++ B ++ C ++ D) E
            (grows_behind numbers tested.1 (A ++ B ++ C) D test.grows) first.grows) second.grows;
      }

  members_numbered : (scope : Scope) (numbers : Numbers) (ds : Members)
      → Numbered setting.version NamedMembers numbers (members_of block scope numbers ds) (members_asked setting.version asks scope ds)
  unfolding NamedMembers
  members_numbered scope numbers no_members = record { named = tt; grows = grows_none numbers _ }
  members_numbered scope numbers (member reason d ds) =
      let begun = with_reason reason numbers in
      let here = block scope begun d in
      let first = inner scope begun d in
      let rest = members_numbered scope here.1 ds in
      let last = (members_of block scope here.1 ds).1 in
      let named : HasReason (texts_in begun) (number_of reason numbers.reasons) = number_below reason numbers.reasons in
      let one = grows_on numbers begun here.1
      (holds (is_name setting.version reason) (rule.Name setting.version names.Handlers) ∷ []) (asks scope d)
      (grows_reason setting.version reason numbers _ (λ met. met.0)) first.grows in
      record {
        named = (
          omega (arith, named, first.grows.reasons, rest.grows.reasons),
          block_later (texts_in here.1)
              (texts_in last) rest.grows.items rest.grows.reasons here.0 first.named,
          rest.named,
        );
        grows = grows_on numbers here.1 last (member_asked setting.version asks scope reason d)
            (members_asked setting.version asks scope ds) one rest.grows;
      }

  handlers_numbered : (scope : Scope) (numbers : Numbers) (o : Option Members) → Numbered setting.version NamedMembersIf numbers
      (handlers_spelled block scope numbers o) (handlers_asked setting.version asks scope o)
  unfolding handlers_spelled handlers_asked NamedMembersIf
  handlers_numbered scope numbers None = record { named = tt; grows = grows_none numbers _ }
  handlers_numbered scope numbers (Some ds) = let it = members_numbered scope numbers ds in record { named = it.named; grows = it.grows }

  NamedTried : Texts → Tried → Type 0
  NamedTried texts child = IsNamed texts child.body × AreNamedHandlers texts child.handlers

  sub_numbered : (scope earlier : Scope) (numbers : Numbers) (d : Data)
      → Numbered setting.version NamedTried numbers (sub_of block scope numbers d) (sub_asked setting.version asks scope earlier d)
  unfolding sub_of sub_asked NamedTried
  sub_numbered scope earlier numbers d =
      let body = block scope numbers (part (codes "sub") d) in
      let by_reasons = handlers_spelled block scope body.1 (handlers_in d) in
      let otherwise = block_of_if block scope by_reasons.1 (get (codes "handler") d) in
      let first = inner scope numbers (part (codes "sub") d) in
      let second = handlers_numbered scope body.1 (handlers_in d) in
      let third = block_if_numbered scope by_reasons.1 (get (codes "handler") d) in
      let A = sub_shape_asked setting.version d in
      let B = one_more_node setting.version ∷ [] in
      let C = label_asked setting.version scope earlier (label_in d) in
      let D = asks scope (part (codes "sub") d) in
      let E = handlers_asked setting.version asks scope (handlers_in d) in
      let F = block_asked_if asks scope (get (codes "handler") d) in
      let both = grows_on body.1 by_reasons.1 otherwise.1 E F second.grows third.grows in
      record {
        named = (
          block_later (texts_in body.1) (texts_in otherwise.1) both.items both.reasons body.0 first.named,
          handlers_named (texts_in otherwise.1) by_reasons.0 otherwise.0
              (members_if_later by_reasons.1 otherwise.1 F third.grows by_reasons.0 second.named) third.named,
        );
        grows = grows_on numbers by_reasons.1 otherwise.1 (A ++ B ++ C ++ D ++ E) F
            (grows_on numbers body.1 by_reasons.1 (A ++ B ++ C ++ D) E (grows_behind numbers body.1 (A ++ B ++ C) D first.grows)
            second.grows) third.grows;
      }

  children_numbered : (scope earlier : Scope) (numbers : Numbers) (ds : Items)
      → Numbered setting.version (λ texts children. AreNamed texts (children_of children)) numbers
      (children_spelled block scope numbers ds) (children_asked setting.version asks scope earlier ds)
  unfolding NamedTried
  children_numbered scope earlier numbers no_items = record { named = tt; grows = grows_none numbers _ }
  children_numbered scope earlier numbers (item d ds) =
      let next = with_label (label_in d) Outcome earlier in
      let here = sub_of block scope numbers d in
      let last = (children_spelled block scope here.1 ds).1 in
      let first = sub_numbered scope earlier numbers d in
      let rest = children_numbered scope next here.1 ds in
      record {
        named = (
          block_later (texts_in here.1) (texts_in last) rest.grows.items rest.grows.reasons here.0.body first.named.0,
          handlers_later (texts_in here.1) (texts_in last) rest.grows.items rest.grows.reasons here.0.handlers first.named.1,
          rest.named,
        );
        grows = grows_on numbers here.1 last (sub_asked setting.version asks scope earlier d)
            (children_asked setting.version asks scope next ds) first.grows rest.grows;
      }

  parallel_numbered : (scope : Scope) (numbers : Numbers) (d : Data)
      → Numbered setting.version IsNamedStep numbers (parallel_of block scope numbers d) (parallel_asked setting.version asks scope d)
  unfolding parallel_of parallel_asked
  parallel_numbered scope numbers d =
      let children = children_numbered scope [] numbers (children_in d) in
      record {
        named = children.named;
        grows = grows_behind _ _ (parallel_shape_asked d ++ one_more_node setting.version ∷ []) _ children.grows;
      }

  -- ---- any step

  by_sort : (sort : Option Sort) (scope : Scope) (numbers : Numbers) (d : Data)
      → Numbered setting.version IsNamedStep numbers (step_of_by sort block setting scope numbers d)
      (step_asked_by sort asks setting scope d)
  unfolding NamedTried
  by_sort None scope numbers d = record { named = λ r is. absurd cc; grows = grows_none numbers _ }
  by_sort (Some an_operation) scope numbers d = operation_numbered setting scope numbers d
  by_sort (Some an_if) scope numbers d = if_numbered scope numbers d
  by_sort (Some a_sub) scope numbers d = let it = sub_numbered scope [] numbers d in record { named = it.named; grows = it.grows }
  by_sort (Some an_abort) scope numbers d = abort_numbered setting.version numbers d
  by_sort (Some a_parallel) scope numbers d = parallel_numbered scope numbers d

  steps_numbered : (scope : Scope) (numbers : Numbers) (ds : Items)
      → Numbered setting.version (λ texts steps. IsNamed texts (steps_of steps)) numbers (steps_spelled block setting scope numbers ds)
      (steps_asked asks setting scope ds)
  unfolding step_of step_asked
  steps_numbered scope numbers no_items = record { named = tt; grows = grows_none numbers _ }
  steps_numbered scope numbers (item d ds) =
      let next = scope_after setting scope d in
      let here = step_of block setting scope numbers d in
      let last = (steps_spelled block setting next here.1 ds).1 in
      let first = by_sort (sort_of d) scope numbers d in
      let rest = steps_numbered next here.1 ds in
      record {
        named = (step_later (texts_in here.1) (texts_in last) rest.grows.items rest.grows.reasons here.0 first.named, rest.named);
        grows = grows_on numbers here.1 last (step_asked asks setting scope d) (steps_asked asks setting next ds) first.grows rest.grows;
      }

  array_numbered : (scope : Scope) (numbers : Numbers) (o : Option Items)
      → Numbered setting.version (λ texts steps. IsNamed texts (steps_of steps)) numbers
      (steps_spelled block setting scope numbers (or_no_items o)) (array_asked (steps_asked asks setting scope) o)
  array_numbered scope numbers None = record { named = tt; grows = grows_none numbers _ }
  array_numbered scope numbers (Some ds) = steps_numbered scope numbers ds

-- ---- blocks

block_numbered : (setting : Setting) (n : ℕ) (scope : Scope) (numbers : Numbers) (d : Data)
    → Numbered setting.version IsNamed numbers (block_of setting n scope numbers d) (block_asked setting n scope d)
unfolding block_of block_asked
block_numbered setting zero scope numbers d = record { named = tt; grows = grows_none numbers _ }
block_numbered setting (suc n) scope numbers d =
    let it = array_numbered setting (block_asked setting n) (block_of setting n) (block_numbered setting n) scope numbers (as_array d) in
    record { named = it.named; grows = it.grows }

pub blocks_numbered : (setting : Setting) (number : ℕ) (numbers : Numbers) (ds : Items)
    → Numbered setting.version AllNamed numbers (blocks_of setting numbers ds) (transactions_asked number setting ds)
blocks_numbered setting number numbers no_items = record { named = tt; grows = grows_none numbers _ }
blocks_numbered setting number numbers (item d ds) =
    let here = block_of setting MAX_DEPTH [] numbers d in
    let last = (blocks_of setting here.1 ds).1 in
    let first = block_numbered setting MAX_DEPTH [] numbers d in
    let rest = blocks_numbered setting (number + 1) here.1 ds in
    record {
      named = (block_later (texts_in here.1) (texts_in last) rest.grows.items rest.grows.reasons here.0 first.named, rest.named);
      grows = grows_on numbers here.1 last (transaction_asked number setting d) (transactions_asked (number + 1) setting ds)
          (grows_behind numbers here.1 (in_transaction number ∷ []) (block_asked setting MAX_DEPTH [] d) first.grows) rest.grows;
    }
