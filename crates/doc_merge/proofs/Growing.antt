-- Tables of texts only grow at their ends, by no more texts than a transaction has operations and nodes.
use Rattle.std.proofs.Common.{◌≡◌, ℕ, zero, suc, ◌+◌, ◌*◌, ◌≤◌, Bool, true, false, cond, List, [], ◌∷◌, length, Option, None, Some}
use Rattle.std.proofs.Common.{refl, arith}
use Rattle.std.specs.Prelude.{codes, is_some}
use Rattle.serde_json.specs.Data.{Data, Items, no_items, item, Members, no_members, member}
use Rattle.serde_json.specs.Find.{as_array, as_str, get}
use Rattle.meaning.specs.declared.template.Argument.{Argument}
use Rattle.meaning.specs.declared.template.Argument.TheVariants as argument
use Rattle.meaning.specs.declared.template.Refusal.{Refusal}
use Rattle.meaning.specs.declared.template.Refusal.TheVariants.{GoesOn, Aborts}
use Rattle.meaning.specs.declared.template.Template.{Template}
use Rattle.meaning.specs.declared.template.Template.TheVariants as template
use Rattle.meaning.specs.declared.test.Test.{Test}
use Rattle.meaning.specs.Trees.{Block, Step, Handlers, Children, for_reasons, handlers_of}
use Rattle.meaning.specs.WellFormed.{operations, operations_of_children, operations_of_handlers, operations_of_step}
use Rattle.meaning.specs.Running.{all_operations}
use Rattle.batch.specs.Limits.{all_nodes, nodes, nodes_of_children, nodes_of_handlers, nodes_of_step}
use Rattle.batch.specs.Views.{Tried, children_of, steps_of}
use Rattle.vocabulary.specs.declared.verb.Verb.{Verb}
use Rattle.vocabulary.specs.declared.verb.Verb.TheVariants.{OfAmount, OfItem, OfPair, Alone}
use Rattle.meaning.specs.declared.limits.TheConstants.{MAX_DEPTH}
use Rattle.doc_rules.specs.declared.subject.Subject.{Subject}
use Rattle.doc_tree.specs.declared.steps.Sort.{Sort}
use Rattle.doc_tree.specs.declared.steps.Sort.TheVariants.{Operation as an_operation, If as an_if, Sub as a_sub, Abort as an_abort}
use Rattle.doc_tree.specs.declared.steps.Sort.TheVariants.{Parallel as a_parallel}
use Rattle.doc_tree.specs.Asked.{children_in, else_reason, handlers_in, if_label, is_source, label_in, name_item, object_of, or_no_items}
use Rattle.doc_tree.specs.Asked.{part, scope_after, sort_of, subject_of, verb_in}
use Rattle.doc_tree.specs.Look.{has, or_empty, text_member}
use Rattle.doc_tree.specs.Scope.{Numbers, Scope, Setting, with_item, with_reason}
use Rattle.doc_tree.specs.Spelled.{abort_of, argument_of, block_of, block_of_if, blocks_of, children_spelled, handlers_spelled, if_of}
use Rattle.doc_tree.specs.Spelled.{item_of, members_of, operation_step, refusal_of, source_of, spelled_map, target_of, template_of}
use Rattle.doc_tree.specs.Spelled.{Spelling, operation_of, or_no_step, parallel_of, reason_of, step_of, step_of_by, steps_spelled, sub_of}
use Rattle.doc_tree.specs.Spelled.{test_of}
use Rattle.doc_merge.proofs.NumberedTexts.{Grows, grows_both, grows_none, grows_text, one_more}

-- both tables with more texts after them
pub record Begins (before after : Numbers) : Type 0 where
  pub items : Grows before.items after.items
  pub reasons : Grows before.reasons after.reasons

-- a table begins itself, and what it begins begins others with it
pub begins_none : (numbers : Numbers) → Begins numbers numbers
begins_none numbers = record { items = grows_none numbers.items; reasons = grows_none numbers.reasons }

pub begins_both : (a b c : Numbers) → Begins a b → Begins b c → Begins a c
begins_both a b c first second = record {
  items = grows_both a.items b.items c.items first.items second.items;
  reasons = grows_both a.reasons b.reasons c.reasons first.reasons second.reasons;
}

-- with so many more items at most
pub record Longer (most : ℕ) (before after : Numbers) : Type 0 where
  pub begins : Begins before after
  pub few : length after.items ≤ length before.items + most

pub longer_none : (most : ℕ) (numbers : Numbers) → Longer most numbers numbers
longer_none most numbers = record { begins = begins_none numbers; few = omega arith }

-- one part after the other
pub longer_on : (k l most : ℕ) (a b c : Numbers) → k + l ≤ most → Longer k a b → Longer l b c → Longer most a c
longer_on k l most a b c le first second =
    let one = first.few in
    let other = second.few in
    record { begins = begins_both a b c first.begins second.begins; few = omega (arith, one, other, le) }

-- by a greater number
pub longer_within : (k most : ℕ) (a b : Numbers) → k ≤ most → Longer k a b → Longer most a b
longer_within k most a b le first = let one = first.few in record { begins = first.begins; few = omega (arith, one, le) }

-- by one text
pub longer_item : (text : List ℕ) (numbers : Numbers) → Longer 1 numbers (with_item text numbers)
longer_item text numbers = record {
  begins = record { items = grows_text text numbers.items; reasons = grows_none numbers.reasons };
  few = one_more text numbers.items;
}

pub longer_reason : (text : List ℕ) (numbers : Numbers) → Longer 0 numbers (with_reason text numbers)
longer_reason text numbers = record {
  begins = record { items = grows_none numbers.items; reasons = grows_text text numbers.reasons };
  few = omega arith;
}

-- ---- how many items are new at most

abbrev pub weight : Block → ℕ
weight block = 2 * operations block + nodes block

abbrev pub step_weight : Step → ℕ
step_weight step = 2 * operations_of_step step + nodes_of_step step

abbrev handlers_weight : Handlers → ℕ
handlers_weight handlers = 2 * operations_of_handlers handlers + nodes_of_handlers handlers

abbrev children_weight : Children → ℕ
children_weight children = 2 * operations_of_children children + nodes_of_children children

abbrev tried_weight : Tried → ℕ
tried_weight child = weight child.body + handlers_weight child.handlers

abbrev members_weight : List (ℕ × Block) → ℕ
members_weight [] = 0
members_weight (first ∷ rest) = weight first.1 + members_weight rest

abbrev weight_if : Option Block → ℕ
weight_if None = 0
weight_if (Some block) = weight block

abbrev members_weight_if : Option (List (ℕ × Block)) → ℕ
members_weight_if None = 0
members_weight_if (Some members) = members_weight members

-- what is put together weighs as much as its parts
members_weigh : (members : List (ℕ × Block)) (others : Handlers)
    → handlers_weight (for_reasons members others) ≡ members_weight members + handlers_weight others
members_weigh [] others = omega arith
members_weigh (first ∷ rest) others = omega (arith, members_weigh rest others)

handlers_weigh : (members : Option (List (ℕ × Block))) (o : Option Block)
    → handlers_weight (handlers_of members o) ≡ members_weight_if members + weight_if o
handlers_weigh None None = omega arith
handlers_weigh None (Some handler) = omega arith
handlers_weigh (Some members) None = omega (arith, members_weigh members Handlers.Pass)
handlers_weigh (Some members) (Some handler) = omega (arith, members_weigh members (Handlers.Otherwise handler))

else_weighs : (o : Option Block) → weight (or_no_step o) ≡ weight_if o
else_weighs None = omega arith
else_weighs (Some block) = omega arith

-- ---- operations, tests and aborts

reason_longer : (numbers : Numbers) (o : Option (List ℕ)) → Longer 0 numbers (reason_of numbers o).1
unfolding reason_of
reason_longer numbers None = longer_none 0 numbers
reason_longer numbers (Some reason) = longer_reason reason numbers

pub argument_longer : (version : ℕ) (scope : Scope) (i : ℕ) (numbers : Numbers) (op : Data)
    → Longer 1 numbers (argument_of version scope i numbers op).1
argument_longer version scope i numbers op = by (is_source version i op)
  where
    read : Bool → Argument × Numbers
    read b = cond b (argument.From (source_of scope i op), numbers)
        (argument.Is (item_of (name_item i op) numbers), with_item (name_item i op) numbers)

    by : (b : Bool) → Longer 1 numbers (read b).1
    by true = longer_none 1 numbers
    by false = longer_item (name_item i op) numbers

template_longer : (version : ℕ) (scope : Scope) (v : Verb) (numbers : Numbers) (op : Data)
    → Longer 2 numbers (template_of version scope v numbers op).1
unfolding template_of
template_longer version scope (OfAmount v) numbers op = longer_none 2 numbers
template_longer version scope (OfItem v) numbers op =
    longer_within 1 2 numbers _ (omega arith) (argument_longer version scope 2 numbers op)
template_longer version scope (OfPair v) numbers op =
    let key = argument_of version scope 2 numbers op in
    longer_on 1 1 2 numbers key.1 _ (omega arith) (argument_longer version scope 2 numbers op) (argument_longer version scope 3 key.1 op)
template_longer version scope (Alone v) numbers op = longer_none 2 numbers

pub refusal_longer : (numbers : Numbers) (d : Data) → Longer 0 numbers (refusal_of numbers d).1
unfolding refusal_of
refusal_longer numbers d = by (has (codes "else") d)
  where
    by : (b : Bool) → Longer 0 numbers (cond b (spelled_map Aborts (reason_of numbers (else_reason d))) (GoesOn, numbers)).1
    by true = reason_longer numbers (else_reason d)
    by false = longer_none 0 numbers

-- an operation weighs two, for its items
operation_weighs : (object : ℕ) (call : Template) (labelled : Bool) (refusal : Refusal)
    → step_weight (operation_step object call labelled refusal) ≡ 2
operation_weighs object (template.Given call) labelled GoesOn = refl
operation_weighs object (template.Given call) labelled (Aborts reason) = refl
operation_weighs object (template.OfAmount v label) labelled refusal = refl
operation_weighs object (template.OfItem v label) labelled refusal = refl
operation_weighs object (template.OfPair v key x) labelled refusal = refl

pub operation_longer : (setting : Setting) (scope : Scope) (numbers : Numbers) (d : Data)
    → Longer (step_weight (operation_of setting scope numbers d).0) numbers (operation_of setting scope numbers d).1
unfolding operation_of
operation_longer setting scope numbers d =
    let op = part (codes "op") d in
    let made = template_of setting.version scope (verb_in setting op) numbers op in
    let refused = refusal_of made.1 d in
    let weighs = operation_weighs (target_of setting (object_of op)) made.0 (is_some (label_in d)) refused.0 in
    longer_on 2 0 _ numbers made.1 refused.1 (omega (arith, weighs))
    (template_longer setting.version scope (verb_in setting op) numbers op) (refusal_longer made.1 d)

-- one of three tests
one_of_three : (a b : Bool) (numbers : Numbers) (x y z : Test × Numbers) → Longer 1 numbers x.1 → Longer 1 numbers y.1
    → Longer 1 numbers z.1 → Longer 1 numbers (cond a x (cond b y z)).1
one_of_three true b numbers x y z first second third = first
one_of_three false true numbers x y z first second third = second
one_of_three false false numbers x y z first second third = third

pub test_longer : (subject : Subject) (numbers : Numbers) (d : Data) → Longer 1 numbers (test_of subject numbers d).1
unfolding test_of
test_longer subject numbers d = one_of_three (has (codes "is") d) (has (codes "atleast") d) numbers _ _ _ (longer_none 1 numbers)
    (longer_none 1 numbers) (longer_item (or_empty (text_member (codes "item") d)) numbers)

pub abort_longer : (numbers : Numbers) (d : Data) → Longer (step_weight (abort_of numbers d).0) numbers (abort_of numbers d).1
unfolding abort_of
abort_longer numbers d = longer_within 0 1 numbers _ (omega arith) (reason_longer numbers (as_str (part (codes "abort") d)))

-- ---- the steps that hold blocks

module _ (block : Spelling)
    (inner : (scope : Scope) (numbers : Numbers) (d : Data) → Longer (weight (block scope numbers d).0) numbers (block scope numbers d).1)
  where
    pub block_if_longer : (scope : Scope) (numbers : Numbers) (o : Option Data)
        → Longer (weight_if (block_of_if block scope numbers o).0) numbers (block_of_if block scope numbers o).1
    unfolding block_of_if
    block_if_longer scope numbers None = longer_none 0 numbers
    block_if_longer scope numbers (Some d) = inner scope numbers d

    pub if_longer : (scope : Scope) (numbers : Numbers) (d : Data)
        → Longer (step_weight (if_of block scope numbers d).0) numbers (if_of block scope numbers d).1
    unfolding if_of
    if_longer scope numbers d =
        let subject = subject_of (if_label d) scope in
        let tested = test_of subject numbers d in
        let one = block scope tested.1 (part (codes "then") d) in
        let other = block_of_if block scope one.1 (get (codes "else") d) in
        let most = step_weight (if_of block scope numbers d).0 in
        longer_on (1 + weight one.0) (weight_if other.0) _ numbers one.1 other.1 (omega (arith, else_weighs other.0))
        (longer_on 1 (weight one.0) (1 + weight one.0) numbers tested.1 one.1 (omega arith) (test_longer subject numbers d)
        (inner scope tested.1 (part (codes "then") d)))
        (block_if_longer scope one.1 (get (codes "else") d))

    pub members_longer : (scope : Scope) (numbers : Numbers) (ds : Members)
        → Longer (members_weight (members_of block scope numbers ds).0) numbers (members_of block scope numbers ds).1
    members_longer scope numbers no_members = longer_none 0 numbers
    members_longer scope numbers (member reason d ds) =
        let begun = with_reason reason numbers in
        let here = block scope begun d in
        let rest = members_of block scope here.1 ds in
        longer_on (weight here.0) (members_weight rest.0) _ numbers here.1 rest.1 (omega arith)
        (longer_on 0 (weight here.0) (weight here.0) numbers begun here.1 (omega arith) (longer_reason reason numbers)
        (inner scope begun d))
        (members_longer scope here.1 ds)

    pub handlers_longer : (scope : Scope) (numbers : Numbers) (o : Option Members)
        → Longer (members_weight_if (handlers_spelled block scope numbers o).0) numbers (handlers_spelled block scope numbers o).1
    unfolding handlers_spelled
    handlers_longer scope numbers None = longer_none 0 numbers
    handlers_longer scope numbers (Some ds) = members_longer scope numbers ds

    pub sub_longer : (scope : Scope) (numbers : Numbers) (d : Data)
        → Longer (tried_weight (sub_of block scope numbers d).0) numbers (sub_of block scope numbers d).1
    unfolding sub_of
    sub_longer scope numbers d =
        let body = block scope numbers (part (codes "sub") d) in
        let by_reasons = handlers_spelled block scope body.1 (handlers_in d) in
        let otherwise = block_of_if block scope by_reasons.1 (get (codes "handler") d) in
        let most = weight body.0 + members_weight_if by_reasons.0 in
        longer_on most (weight_if otherwise.0) _ numbers by_reasons.1 otherwise.1
        (omega (arith, handlers_weigh by_reasons.0 otherwise.0))
        (longer_on (weight body.0) (members_weight_if by_reasons.0) most numbers body.1 by_reasons.1 (omega arith)
        (inner scope numbers (part (codes "sub") d)) (handlers_longer scope body.1 (handlers_in d)))
        (block_if_longer scope by_reasons.1 (get (codes "handler") d))

    pub children_longer : (scope : Scope) (numbers : Numbers) (ds : Items)
        → Longer (children_weight (children_of (children_spelled block scope numbers ds).0)) numbers
        (children_spelled block scope numbers ds).1
    children_longer scope numbers no_items = longer_none 0 numbers
    children_longer scope numbers (item d ds) =
        let here = sub_of block scope numbers d in
        let rest = children_spelled block scope here.1 ds in
        longer_on (tried_weight here.0) (children_weight (children_of rest.0)) _ numbers here.1 rest.1 (omega arith)
        (sub_longer scope numbers d) (children_longer scope here.1 ds)

    pub parallel_longer : (scope : Scope) (numbers : Numbers) (d : Data)
        → Longer (step_weight (parallel_of block scope numbers d).0) numbers (parallel_of block scope numbers d).1
    unfolding parallel_of
    parallel_longer scope numbers d =
        longer_within (children_weight (children_of (children_spelled block scope numbers (children_in d)).0)) _ numbers _ (omega arith)
        (children_longer scope numbers (children_in d))

    -- ---- any step

    pub step_longer : (sort : Option Sort) (setting : Setting) (scope : Scope) (numbers : Numbers) (d : Data)
        → Longer (step_weight (step_of_by sort block setting scope numbers d).0) numbers (step_of_by sort block setting scope numbers d).1
    step_longer None setting scope numbers d = longer_none 1 numbers
    step_longer (Some an_operation) setting scope numbers d = operation_longer setting scope numbers d
    step_longer (Some an_if) setting scope numbers d = if_longer scope numbers d
    step_longer (Some a_sub) setting scope numbers d =
        longer_within (tried_weight (sub_of block scope numbers d).0) _ numbers _ (omega arith) (sub_longer scope numbers d)
    step_longer (Some an_abort) setting scope numbers d = abort_longer numbers d
    step_longer (Some a_parallel) setting scope numbers d = parallel_longer scope numbers d

    pub steps_longer : (setting : Setting) (scope : Scope) (numbers : Numbers) (ds : Items)
        → Longer (weight (steps_of (steps_spelled block setting scope numbers ds).0)) numbers
        (steps_spelled block setting scope numbers ds).1
    unfolding step_of
    steps_longer setting scope numbers no_items = longer_none 0 numbers
    steps_longer setting scope numbers (item d ds) =
        let next = scope_after setting scope d in
        let here = step_of block setting scope numbers d in
        let rest = steps_spelled block setting next here.1 ds in
        longer_on (step_weight here.0) (weight (steps_of rest.0)) _ numbers here.1 rest.1 (omega arith)
        (step_longer (sort_of d) setting scope numbers d) (steps_longer setting next here.1 ds)

-- ---- blocks

pub block_longer : (setting : Setting) (n : ℕ) (scope : Scope) (numbers : Numbers) (d : Data)
    → Longer (weight (block_of setting n scope numbers d).0) numbers (block_of setting n scope numbers d).1
unfolding block_of
block_longer setting zero scope numbers d = longer_none 0 numbers
block_longer setting (suc n) scope numbers d =
    steps_longer (block_of setting n) (block_longer setting n) setting scope numbers (or_no_items (as_array d))

pub blocks_longer : (setting : Setting) (numbers : Numbers) (ds : Items)
    → Longer (2 * all_operations (blocks_of setting numbers ds).0 + all_nodes (blocks_of setting numbers ds).0) numbers
    (blocks_of setting numbers ds).1
blocks_longer setting numbers no_items = longer_none 0 numbers
blocks_longer setting numbers (item d ds) =
    let here = block_of setting MAX_DEPTH [] numbers d in
    let rest = blocks_of setting here.1 ds in
    longer_on (weight here.0) (2 * all_operations rest.0 + all_nodes rest.0) _ numbers here.1 rest.1 (omega arith)
    (block_longer setting MAX_DEPTH [] numbers d) (blocks_longer setting here.1 ds)
