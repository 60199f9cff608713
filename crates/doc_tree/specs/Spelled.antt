-- The batch that a document with no fault spells. Items and reasons are numbered in reading order, so each part hands
-- on the numbers so far.
use Rattle.std.specs.FinSet as finite_set
use Rattle.std.specs.FinMap as finite_map
use Rattle.std.specs.Prelude.{ℕ, zero, suc, pos, Bool, List, [], ◌∷◌, codes, Option, Some, None, is_some, unwrap_or, if◌then◌else◌}
use Rattle.serde_json.specs.Data.{Data, Items, no_items, item, Members, no_members, member}
use Rattle.serde_json.specs.Find.{get, as_array, as_str}
use Rattle.atoms.specs.Item.{item_cmp}
use Rattle.atoms.specs.declared.item.Item.{Item}
use Rattle.objects.specs.declared.kind.Kind.{Kind}
use Rattle.objects.specs.declared.kind.ValueForm.{ValueForm}
use Rattle.objects.specs.declared.kind.ValueForm.TheVariants as value_form
use Rattle.objects.specs.Objects.{form_of, number_value}
use Rattle.objects.specs.declared.kind.Value.{Value}
use Rattle.objects.specs.declared.kind.Value.TheVariants as value
use Rattle.meaning.specs.declared.template.Argument.{Argument}
use Rattle.meaning.specs.declared.template.Argument.TheVariants as argument
use Rattle.meaning.specs.declared.template.Refusal.{Refusal}
use Rattle.meaning.specs.declared.template.Refusal.TheVariants.{GoesOn, Aborts}
use Rattle.meaning.specs.declared.template.Template.{Template}
use Rattle.meaning.specs.declared.template.Template.TheVariants as template
use Rattle.meaning.specs.declared.template.Template.TheVariants.{Given}
use Rattle.meaning.specs.declared.test.Test.{Test}
use Rattle.meaning.specs.declared.test.Test.TheVariants.{Is, AtLeast, IsItem}
use Rattle.vocabulary.specs.declared.word.Word.TheVariants.{Aborted}
use Rattle.objects.specs.Entries.{State}
use Rattle.meaning.specs.Trees.{Block, NoStep, Step, Operation, Fill, If, Subaction, Abort, Parallel, handlers_of}
use Rattle.batch.specs.Names.{Texts}
use Rattle.batch.specs.Views.{Tried, steps_of, children_of}
use Rattle.vocabulary.specs.declared.verb.ItemVerb.{ItemVerb}
use Rattle.vocabulary.specs.declared.verb.PairVerb.{PairVerb}
use Rattle.vocabulary.specs.declared.verb.Verb.{Verb}
use Rattle.vocabulary.specs.declared.verb.Verb.TheVariants.{OfAmount, OfItem, OfPair, Alone}
use Rattle.doc_rules.specs.declared.subject.Subject.{Subject}
use Rattle.doc_tree.specs.declared.steps.Sort.{Sort}
use Rattle.doc_tree.specs.declared.steps.Sort.TheVariants.{Operation as an_operation, If as an_if, Sub as a_sub, Abort as an_abort}
use Rattle.doc_tree.specs.declared.steps.Sort.TheVariants.{Parallel as a_parallel}
use Rattle.meaning.specs.Amounts.{amount_of}
use Rattle.doc_tree.specs.Look.{has, text_member, whole_member, or_empty}
use Rattle.doc_tree.specs.Scope.{Numbers, no_numbers, Setting, Scope, number_of, label_number, place_of, with_item, with_reason}
use Rattle.vocabulary.specs.Words.{amount_call, item_call, lone_call, pair_call}
use Rattle.doc_tree.specs.Asked.{part, else_reason, is_source, label_in, source_label, amount_item, name_item, object_of, verb_in}
use Rattle.doc_tree.specs.Asked.{if_label, subject_of, tested_word, sort_of}
use Rattle.doc_tree.specs.Asked.{scope_after, handlers_in, children_in, kind_in, text_of, key_of, value_of, number_start, signed_start}
use Rattle.doc_tree.specs.Asked.{names_of, or_no_items, objects_in, transactions_in, setting_in, version_in}
use Rattle.meaning.specs.declared.limits.TheConstants.{MAX_DEPTH}

abbrev pub or_zero : Option ℕ → ℕ
or_zero o = unwrap_or o 0

-- the item of a name
abbrev pub item_of : List ℕ → Numbers → Item
item_of name numbers = record { 0 = number_of name numbers.items }

-- the items of two names, the first of which comes first
abbrev pub items_of : List ℕ → List ℕ → Numbers → (Item × Item) × Numbers
items_of first second numbers =
    ((item_of first numbers, item_of second (with_item first numbers)), with_item second (with_item first numbers))

-- a part, with the numbers after it
abbrev pub spelled_map : {A B : Type 0} → (A → B) → A × Numbers → B × Numbers
spelled_map f p = (f p.0, p.1)

-- the number of the label that gives the argument at an index
abbrev pub source_of : Scope → ℕ → Data → ℕ
source_of scope i op = label_number (or_empty (source_label i op)) scope

-- an item, or a label that gives one
abbrev pub argument_of : ℕ → Scope → ℕ → Numbers → Data → Argument × Numbers
argument_of version scope i numbers op =
    if is_source version i op then (argument.From (source_of scope i op), numbers)
    else (argument.Is (item_of (name_item i op) numbers), with_item (name_item i op) numbers)

abbrev pub item_template : ItemVerb → Argument → Template
item_template v (argument.Is x) = Given (item_call v x)
item_template v (argument.From label) = template.OfItem v label

abbrev pub pair_template : PairVerb → Argument → Argument → Template
pair_template v (argument.Is key) (argument.Is x) = Given (pair_call v key x)
pair_template v key x = template.OfPair v key x

unfoldable pub template_of : ℕ → Scope → Verb → Numbers → Data → Template × Numbers
template_of version scope (OfAmount v) numbers op = (
  if is_source version 2 op then template.OfAmount v (source_of scope 2 op)
      else Given (amount_call v (amount_of (or_zero (amount_item 2 op)))),
  numbers,
)
template_of version scope (OfItem v) numbers op = spelled_map (item_template v) (argument_of version scope 2 numbers op)
template_of version scope (OfPair v) numbers op =
    let key = argument_of version scope 2 numbers op in
    spelled_map (pair_template v key.0) (argument_of version scope 3 key.1 op)
template_of version scope (Alone v) numbers op = (Given (lone_call v), numbers)

unfoldable pub reason_of : Numbers → Option (List ℕ) → Option ℕ × Numbers
reason_of numbers None = (None, numbers)
reason_of numbers (Some reason) = (Some (number_of reason numbers.reasons), with_reason reason numbers)

-- what the operation's refusal does
unfoldable pub refusal_of : Numbers → Data → Refusal × Numbers
refusal_of numbers d = if has (codes "else") d then spelled_map Aborts (reason_of numbers (else_reason d)) else (GoesOn, numbers)

-- an operation: where its call is given and a refusal does nothing, it is the plain step
abbrev pub operation_step : ℕ → Template → Bool → Refusal → Step
operation_step object (Given call) labelled GoesOn = Operation object call labelled
operation_step object template labelled refusal = Fill object template labelled refusal

-- the place of the object that an operation names
abbrev pub target_of : Setting → List ℕ → ℕ
target_of setting object = or_zero (place_of object setting.names)

unfoldable pub operation_of : Setting → Scope → Numbers → Data → Step × Numbers
operation_of setting scope numbers d =
    let op = part (codes "op") d in
    let made = template_of setting.version scope (verb_in setting op) numbers op in
    spelled_map (operation_step (target_of setting (object_of op)) made.0 (is_some (label_in d))) (refusal_of made.1 d)

unfoldable pub test_of : Subject → Numbers → Data → Test × Numbers
test_of subject numbers d =
    if has (codes "is") d then (Is (unwrap_or (tested_word subject d) Aborted), numbers)
    else if has (codes "atleast") d then (AtLeast (unwrap_or (whole_member (codes "atleast") d) (pos 0)), numbers)
    else (IsItem (item_of (or_empty (text_member (codes "item") d)) numbers), with_item (or_empty (text_member (codes "item") d)) numbers)

-- what a block of a step spells, where these labels are seen
abbrev pub Spelling : Type 0
Spelling = Scope → Numbers → Data → Block × Numbers

-- a block that a step may have
unfoldable pub block_of_if : Spelling → Scope → Numbers → Option Data → Option Block × Numbers
block_of_if block scope numbers None = (None, numbers)
block_of_if block scope numbers (Some d) = spelled_map (λ b. Some b) (block scope numbers d)

-- an absent branch is empty
abbrev pub or_no_step : Option Block → Block
or_no_step o = unwrap_or o NoStep

unfoldable pub if_of : Spelling → Scope → Numbers → Data → Step × Numbers
if_of block scope numbers d =
    let test = test_of (subject_of (if_label d) scope) numbers d in
    let first = block scope test.1 (part (codes "then") d) in
    spelled_map (λ second. If (label_number (if_label d) scope) test.0 first.0 (or_no_step second))
    (block_of_if block scope first.1 (get (codes "else") d))

-- the handlers by reason
abbrev pub member_of : Spelling → Scope → Numbers → List ℕ → Data → (ℕ × Block) × Numbers
member_of block scope numbers reason d = spelled_map (λ b. (number_of reason numbers.reasons, b))
    (block scope (with_reason reason numbers) d)

abbrev pub members_of : Spelling → Scope → Numbers → Members → List (ℕ × Block) × Numbers
members_of block scope numbers no_members = ([], numbers)
members_of block scope numbers (member reason d ds) =
    let here = member_of block scope numbers reason d in
    let rest = members_of block scope here.1 ds in
    (here.0 ∷ rest.0, rest.1)

unfoldable pub handlers_spelled : Spelling → Scope → Numbers → Option Members → Option (List (ℕ × Block)) × Numbers
handlers_spelled block scope numbers None = (None, numbers)
handlers_spelled block scope numbers (Some ds) = spelled_map (λ handlers. Some handlers) (members_of block scope numbers ds)

abbrev pub tried : Block → Option (List (ℕ × Block)) → Option Block → Bool → Tried
tried body handlers handler labelled = record { body = body; handlers = handlers_of handlers handler; labelled = labelled }

-- a subaction or a child
unfoldable pub sub_of : Spelling → Scope → Numbers → Data → Tried × Numbers
sub_of block scope numbers d =
    let body = block scope numbers (part (codes "sub") d) in
    let handlers = handlers_spelled block scope body.1 (handlers_in d) in
    spelled_map (λ handler. tried body.0 handlers.0 handler (is_some (label_in d)))
    (block_of_if block scope handlers.1 (get (codes "handler") d))

unfoldable pub abort_of : Numbers → Data → Step × Numbers
abort_of numbers d = spelled_map Abort (reason_of numbers (as_str (part (codes "abort") d)))

abbrev pub children_spelled : Spelling → Scope → Numbers → Items → List Tried × Numbers
children_spelled block scope numbers no_items = ([], numbers)
children_spelled block scope numbers (item d ds) =
    let here = sub_of block scope numbers d in
    let rest = children_spelled block scope here.1 ds in
    (here.0 ∷ rest.0, rest.1)

unfoldable pub parallel_of : Spelling → Scope → Numbers → Data → Step × Numbers
parallel_of block scope numbers d = spelled_map (λ children. Parallel (children_of children))
    (children_spelled block scope numbers (children_in d))

abbrev pub sub_step : Tried → Step
sub_step child = Subaction child.body child.handlers child.labelled

abbrev pub step_of_by : Option Sort → Spelling → Setting → Scope → Numbers → Data → Step × Numbers
step_of_by None block setting scope numbers d = (Abort None, numbers)
step_of_by (Some an_operation) block setting scope numbers d = operation_of setting scope numbers d
step_of_by (Some an_if) block setting scope numbers d = if_of block scope numbers d
step_of_by (Some a_sub) block setting scope numbers d = spelled_map sub_step (sub_of block scope numbers d)
step_of_by (Some an_abort) block setting scope numbers d = abort_of numbers d
step_of_by (Some a_parallel) block setting scope numbers d = parallel_of block scope numbers d

unfoldable pub step_of : Spelling → Setting → Scope → Numbers → Data → Step × Numbers
step_of block setting scope numbers d = step_of_by (sort_of d) block setting scope numbers d

abbrev pub steps_spelled : Spelling → Setting → Scope → Numbers → Items → List Step × Numbers
steps_spelled block setting scope numbers no_items = ([], numbers)
steps_spelled block setting scope numbers (item d ds) =
    let here = step_of block setting scope numbers d in
    let rest = steps_spelled block setting (scope_after setting scope d) here.1 ds in
    (here.0 ∷ rest.0, rest.1)

-- a block within so many more levels
unfoldable pub block_of : Setting → ℕ → Spelling
block_of setting zero scope numbers d = (NoStep, numbers)
block_of setting (suc n) scope numbers d = spelled_map steps_of (steps_spelled (block_of setting n) setting scope numbers
    (or_no_items (as_array d)))

-- ---- objects

abbrev pub entries_of : Numbers → Items → List Item × Numbers
entries_of numbers no_items = ([], numbers)
entries_of numbers (item d ds) =
    let rest = entries_of (with_item (text_of d) numbers) ds in
    (item_of (text_of d) numbers ∷ rest.0, rest.1)

abbrev pub pair_of : Numbers → Data → (Item × Item) × Numbers
pair_of numbers d = (
  (item_of (key_of d) numbers, item_of (value_of d) (with_item (key_of d) numbers)),
  with_item (value_of d)
      (with_item (key_of d) numbers),
)

abbrev pub pairs_of : Numbers → Items → List (Item × Item) × Numbers
pairs_of numbers no_items = ([], numbers)
pairs_of numbers (item d ds) =
    let here = pair_of numbers d in
    let rest = pairs_of here.1 ds in
    (here.0 ∷ rest.0, rest.1)

-- the set and the map once these entries are in
abbrev pub put_all : finite_set.FinSet item_cmp → List Item → finite_set.FinSet item_cmp
put_all s [] = s
put_all s (x ∷ xs) = put_all (finite_set.insert s x) xs

abbrev pub bind_all : finite_map.FinMap item_cmp Item → List (Item × Item) → finite_map.FinMap item_cmp Item
bind_all m [] = m
bind_all m (e ∷ es) = bind_all (finite_map.insert m e.0 e.1) es

abbrev pub form_start : ValueForm → Numbers → Data → Value × Numbers
form_start (value_form.Number k) numbers d = (number_value k (or_zero (number_start d)), numbers)
form_start value_form.Signed numbers d = (value.Counter (unwrap_or (signed_start d) (pos 0)), numbers)
form_start value_form.Set numbers d = spelled_map (λ items. value.Set (put_all finite_set.empty items))
    (entries_of numbers (or_no_items (as_array d)))
form_start value_form.Queue numbers d = spelled_map value.Queue (entries_of numbers (or_no_items (as_array d)))
form_start value_form.Directory numbers d = spelled_map (λ pairs. value.Directory (bind_all finite_map.empty pairs))
    (pairs_of numbers (or_no_items (as_array d)))

unfoldable pub start_of : Kind → Numbers → Data → Value × Numbers
start_of k numbers d = form_start (form_of k) numbers d

abbrev pub starts_of : ℕ → Numbers → Items → State × Numbers
starts_of version numbers no_items = ([], numbers)
starts_of version numbers (item d ds) =
    let here = start_of (kind_in version d) numbers (part (codes "start") d) in
    let rest = starts_of version here.1 ds in
    (here.0 ∷ rest.0, rest.1)

-- ---- the document

abbrev pub blocks_of : Setting → Numbers → Items → List Block × Numbers
blocks_of setting numbers no_items = ([], numbers)
blocks_of setting numbers (item d ds) =
    let here = block_of setting MAX_DEPTH [] numbers d in
    let rest = blocks_of setting here.1 ds in
    (here.0 ∷ rest.0, rest.1)

-- what a document spells: its version, the objects at their start, the texts of their numbers, and the transactions
pub record Document : Type 0 where
  pub version : ℕ
  pub start : State
  pub texts : Texts
  pub transactions : List Block

-- the starting values and the transactions, with the numbers after them
abbrev pub spelled : State → List Block → Numbers → State × List Block × Numbers
spelled start transactions numbers = (start, transactions, numbers)

unfoldable pub parts_in : Numbers → Data → State × List Block × Numbers
parts_in numbers d =
    let starts = starts_of (version_in d) numbers (objects_in d) in
    let blocks = blocks_of (setting_in d) starts.1 (transactions_in d) in
    spelled starts.0 blocks.0 blocks.1

unfoldable pub document_in : Data → Document
document_in d =
    let parts = parts_in no_numbers d in
    record {
      version = version_in d;
      start = parts.0;
      texts = record { objects = names_of (objects_in d); items = parts.2.items; reasons = parts.2.reasons };
      transactions = parts.1;
    }
