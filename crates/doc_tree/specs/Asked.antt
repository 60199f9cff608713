-- What is asked of each part of a document itself, in reading order. `Places` puts them together.
use Rattle.std.specs.Prelude.{ℕ, ℤ, nat_abs, ◌==◌, ◌&&◌, ◌||◌, Bool, true, false, not, List, [], ◌∷◌, ◌++◌, codes, Option}
use Rattle.std.specs.Prelude.{Some, None, is_some, unwrap_or, option_and_then, nat_le, if◌then◌else◌}
use Rattle.std.specs.Option.{option_map_or}
use Rattle.serde_json.specs.Data.{Data, null, Items, no_items, item, Members}
use Rattle.serde_json.specs.Find.{at, get, as_bool, as_object, as_str}
use Rattle.serde_json.specs.Events.{items_len}
use Rattle.objects.specs.declared.kind.Kind.{Kind}
use Rattle.objects.specs.declared.kind.Kind.TheVariants as kind
use Rattle.vocabulary.specs.declared.word.Word.{Word}
use Rattle.doc_rules.specs.Forms.{member_names}
use Rattle.doc_rules.specs.declared.form.Form.TheVariants as form
use Rattle.doc_rules.specs.declared.rule.Rule.TheVariants as rule
use Rattle.doc_rules.specs.declared.rule.ArgumentRule.TheVariants as argument
use Rattle.doc_rules.specs.declared.rule.ConditionRule.TheVariants as condition
use Rattle.doc_rules.specs.declared.rule.CountRule.TheVariants as counted
use Rattle.doc_rules.specs.declared.rule.NameRule.{NameRule}
use Rattle.doc_rules.specs.declared.rule.NameRule.TheVariants as named
use Rattle.doc_rules.specs.declared.rule.SourceRule.{SourceRule}
use Rattle.doc_rules.specs.declared.rule.SourceRule.TheVariants as source
use Rattle.doc_rules.specs.declared.rule.ShapeRule.TheVariants as shape
use Rattle.doc_rules.specs.declared.rule.StartRule.TheVariants as start
use Rattle.doc_rules.specs.declared.rule.OperandPlace.{OperandPlace}
use Rattle.doc_rules.specs.declared.rule.OperandPlace.TheVariants.{Third, Fourth}
use Rattle.vocabulary.specs.declared.verb.LoneVerb.TheVariants.{Balance}
use Rattle.vocabulary.specs.declared.verb.Verb.{Verb}
use Rattle.vocabulary.specs.declared.verb.Verb.TheVariants.{OfAmount, OfItem, OfPair, Alone}
use Rattle.doc_rules.specs.declared.subject.Subject.{Subject}
use Rattle.doc_rules.specs.declared.subject.Subject.TheVariants.{Reply, Outcome}
use Rattle.doc_tree.specs.declared.steps.Sort.{Sort}
use Rattle.doc_tree.specs.declared.steps.Sort.TheVariants.{Operation as an_operation, If as an_if, Sub as a_sub, Abort as an_abort}
use Rattle.doc_tree.specs.declared.steps.Sort.TheVariants.{Parallel as a_parallel}
use Rattle.doc_tree.specs.Demand.{Demand, holds, one_more_start, one_more_operation, one_more_node}
use Rattle.doc_tree.specs.Look.{has, has_only, text_member, text_item, whole_item, whole, whole_member, list_member, count}
use Rattle.doc_tree.specs.Look.{or_empty, within}
use Rattle.doc_tree.specs.Scope.{Table, Setting, Scope, is_listed, kind_named, named, is_named, with_label, with_labels}
use Rattle.batch.specs.Names.{is_name}
use Rattle.doc_rules.specs.Subjects.{fits_word, fits_number, fits_item}
use Rattle.vocabulary.specs.Words.{kind_of_text, verb_of_text, word_of_text}
use Rattle.meaning.specs.declared.limits.TheConstants.{MAX_START}
use Rattle.doc_rules.specs.Limits.{limits_of}
use Rattle.doc_rules.specs.declared.limits.TheConstants.{LAST_VERSION}
use Rattle.meaning.specs.WellFormed.{largest_amount}

-- the member, or null
abbrev pub part : List ℕ → Data → Data
part k d = unwrap_or (get k d) null

-- ---- labels

-- a label, where the step has one, is text
abbrev pub label_is_text : Data → Bool
label_is_text d = not (has (codes "as") d) || is_some (text_member (codes "as") d)

-- the label that a step has
abbrev pub label_in : Data → Option (List ℕ)
label_in d = text_member (codes "as") d

-- a label is a name, and is neither seen nor an earlier sibling's
unfoldable pub label_asked : ℕ → Scope → Scope → Option (List ℕ) → List Demand
label_asked version scope earlier None = []
label_asked version scope earlier (Some name) = holds (is_name version name) (rule.Name version named.Label)
    ∷ holds (not (is_named name scope || is_named name earlier)) rule.NewLabel
    ∷ []

-- a reason, where there is one, is a name, by this rule
unfoldable pub reason_asked : ℕ → NameRule → Option (List ℕ) → List Demand
reason_asked version which None = []
reason_asked version which (Some reason) = holds (is_name version reason) (rule.Name version which) ∷ []

-- what a label is of, once it is seen
abbrev pub subject_of : List ℕ → Scope → Subject
subject_of name scope = unwrap_or (named name scope) Outcome

-- ---- operations

-- the amount in an operation's array
abbrev pub amount_item : ℕ → Data → Option ℕ
amount_item i op = option_and_then (within 1 largest_amount) (whole_item i op)

-- versions whose operations may have arguments that labels give, and `else`
abbrev pub has_fills : ℕ → Bool
has_fills version = nat_le 5 version

-- the argument at an index is given by a label: it is an object of JSON
abbrev pub is_source : ℕ → ℕ → Data → Bool
is_source version i op = is_some (option_and_then as_object (at i op)) && has_fills version

-- the label that gives the argument at an index
abbrev pub source_label : ℕ → Data → Option (List ℕ)
source_label i op = option_and_then source_in (at i op)
  where
    source_in : Data → Option (List ℕ)
    source_in d = if has_only (member_names form.Source) d then text_member (codes "from") d else None

abbrev pub has_count : ℕ → Data → Bool
has_count n op = option_map_or (λ m. m == n) (count op) false

-- the index of a place in an operation's array
abbrev pub index_of : OperandPlace → ℕ
index_of Third = 2
index_of Fourth = 3

-- the name of an item in an operation's array
abbrev pub name_item : ℕ → Data → List ℕ
name_item i op = or_empty (text_item i op)

-- a label gives the argument at a place, and what it is of fits, by this rule
unfoldable pub source_asked : Scope → (Subject → Bool) → (Subject → SourceRule) → OperandPlace → Data → List Demand
source_asked scope fits fit place op =
    let name = or_empty (source_label (index_of place) op) in
    holds (is_some (source_label (index_of place) op)) (rule.Source place source.Label)
    ∷ holds (is_named name scope) (rule.Source place source.Seen)
    ∷ holds (fits (subject_of name scope)) (rule.Source place (fit (subject_of name scope)))
    ∷ []

unfoldable pub item_asked : ℕ → OperandPlace → Data → List Demand
item_asked version place op = holds (is_some (text_item (index_of place) op)) (rule.Argument (argument.Item place))
    ∷ holds (is_name version (name_item (index_of place) op)) (rule.Name version (named.Argument place))
    ∷ []

unfoldable pub amount_asked : ℕ → Scope → Data → List Demand
amount_asked version scope op =
    if is_source version 2 op then source_asked scope fits_number source.Number Third op
    else holds (is_some (amount_item 2 op)) (rule.Argument argument.Amount) ∷ []

-- an item, or a label that gives one
unfoldable pub argument_asked : ℕ → Scope → OperandPlace → Data → List Demand
argument_asked version scope place op =
    if is_source version (index_of place) op then source_asked scope fits_item source.Item place op else item_asked version place op

unfoldable pub arguments_asked : ℕ → Scope → Verb → Data → List Demand
arguments_asked version scope (OfAmount v) op = holds (has_count 3 op) (rule.Argument (argument.Count (OfAmount v)))
    ∷ amount_asked version scope op
arguments_asked version scope (OfItem v) op = holds (has_count 3 op) (rule.Argument (argument.Count (OfItem v)))
    ∷ argument_asked version scope Third op
arguments_asked version scope (OfPair v) op = holds (has_count 4 op) (rule.Argument (argument.Count (OfPair v)))
    ∷ argument_asked version scope Third op ++ argument_asked version scope Fourth op
arguments_asked version scope (Alone v) op = holds (has_count 2 op) (rule.Argument (argument.Count (Alone v))) ∷ []

abbrev pub object_of : Data → List ℕ
object_of op = or_empty (text_item 0 op)

abbrev pub call_named : Data → List ℕ
call_named op = or_empty (text_item 1 op)

-- what a text names among the calls of the kind of an object
abbrev pub verb_at : Setting → List ℕ → List ℕ → Option Verb
verb_at setting object call = option_and_then (λ k. verb_of_text setting.version k call) (kind_named object setting)

abbrev pub operation_verb : Setting → List ℕ → List ℕ → Verb
operation_verb setting object call = unwrap_or (verb_at setting object call) (Alone Balance)

-- `else` of an operation: `true` or a reason, which a version may have
abbrev pub is_else : ℕ → Data → Bool
is_else version d = not (has (codes "else") d)
    || (has_fills version && (unwrap_or (as_bool (part (codes "else") d)) false || is_some (as_str (part (codes "else") d))))

-- the reason of `else`, if it has one
abbrev pub else_reason : Data → Option (List ℕ)
else_reason d = text_member (codes "else") d

unfoldable pub operation_shape_asked : ℕ → Data → List Demand
operation_shape_asked version d =
    holds (has_only (member_names form.Operation) d) (rule.Shape (shape.Members form.Operation))
    ∷ holds (is_some (text_item 0 (part (codes "op") d))) (rule.Shape shape.OperationObject)
    ∷ holds (is_some (text_item 1 (part (codes "op") d))) (rule.Shape shape.OperationWord)
    ∷ holds (label_is_text d) (rule.Shape shape.Label)
    ∷ holds (is_else version d) (rule.Shape (shape.Else version))
    ∷ []

-- the object is known, and its kind has the call
unfoldable pub target_asked : Setting → List ℕ → List ℕ → List Demand
target_asked setting object call =
    holds (is_listed object setting.names) rule.KnownObject
    ∷ holds (is_some (verb_at setting object call)) (rule.KnownOperation setting.version (kind_named object setting))
    ∷ []

-- the call of an operation
abbrev pub verb_in : Setting → Data → Verb
verb_in setting op = operation_verb setting (object_of op) (call_named op)

unfoldable pub operation_asked : Setting → Scope → Data → List Demand
operation_asked setting scope d =
    operation_shape_asked setting.version d
    ++ one_more_operation setting.version ∷ []
    ++ target_asked setting (object_of (part (codes "op") d)) (call_named (part (codes "op") d))
    ++ arguments_asked setting.version scope (verb_in setting (part (codes "op") d)) (part (codes "op") d)
    ++ reason_asked setting.version named.Else (else_reason d)
    ++ label_asked setting.version scope [] (label_in d)

-- ---- the other steps

abbrev pub one_test : Bool → Bool → Bool → Bool
one_test true false false = true
one_test false true false = true
one_test false false true = true
one_test _ _ _ = false

abbrev pub has_one_test : Data → Bool
has_one_test d = one_test (has (codes "is") d) (has (codes "atleast") d) (has (codes "item") d)

abbrev pub fitting : Subject → Word → Option Word
fitting subject w = if fits_word subject w then Some w else None

-- the word that a test asks for, where its label can have it
abbrev pub tested_word : Subject → Data → Option Word
tested_word subject d = option_and_then (fitting subject) (option_and_then word_of_text (text_member (codes "is") d))

abbrev pub holds_word : Subject → Data → List Demand
holds_word subject d = holds (is_some (tested_word subject d)) (rule.Condition (condition.Word subject)) ∷ []

abbrev pub holds_number : Subject → Data → List Demand
holds_number subject d = holds (fits_number subject) (rule.Condition (condition.Number subject))
    ∷ holds (is_some (whole_member (codes "atleast") d)) (rule.Condition condition.AtLeast)
    ∷ []

abbrev pub holds_item : ℕ → Subject → Data → List Demand
holds_item version subject d = holds (fits_item subject) (rule.Condition (condition.HasItem subject))
    ∷ holds (is_some (text_member (codes "item") d)) (rule.Condition condition.TestedItem)
    ∷ holds (is_name version (or_empty (text_member (codes "item") d))) (rule.Name version named.TestedItem)
    ∷ []

-- the test of an `if`, against what its label is of
unfoldable pub test_asked : ℕ → Subject → Data → List Demand
test_asked version subject d = if has (codes "is") d then holds_word subject d else if has (codes "atleast") d then holds_number subject
    d else holds_item version subject d

unfoldable pub if_shape_asked : Data → List Demand
if_shape_asked d =
    holds (has_only (member_names form.If) d) (rule.Shape (shape.Members form.If))
    ∷ holds (has_one_test d) (rule.Shape shape.Test)
    ∷ holds (is_some (text_member (codes "if") d)) (rule.Shape shape.TestedLabel)
    ∷ holds (has (codes "then") d) (rule.Shape shape.Then)
    ∷ []

-- the label is seen
unfoldable pub seen_asked : Scope → List ℕ → List Demand
seen_asked scope name = holds (is_named name scope) rule.SeenLabel ∷ []

-- the label that an `if` tests
abbrev pub if_label : Data → List ℕ
if_label d = or_empty (text_member (codes "if") d)

-- handlers by reason, which a version may have
abbrev pub handlers_are_members : ℕ → Data → Bool
handlers_are_members version d = not (has (codes "handlers") d) ||
    (nat_le 3 version && is_some (option_and_then as_object (get (codes "handlers") d)))

unfoldable pub sub_shape_asked : ℕ → Data → List Demand
sub_shape_asked version d =
    holds (has_only (member_names form.Subaction) d) (rule.Shape (shape.Members form.Subaction))
    ∷ holds (has (codes "sub") d) (rule.Shape shape.Body)
    ∷ holds (label_is_text d) (rule.Shape shape.Label)
    ∷ holds (handlers_are_members version d) (rule.Shape (shape.Handlers version))
    ∷ []

-- the handlers by reason, in the order of the reasons' bytes
abbrev pub handlers_in : Data → Option Members
handlers_in d = option_and_then as_object (get (codes "handlers") d)

-- an abort without a reason, or for one, which a version may have
abbrev pub is_abort : ℕ → Data → Bool
is_abort version d = unwrap_or (as_bool d) false || (nat_le 3 version && is_some (as_str d))

unfoldable pub abort_shape_asked : ℕ → Data → List Demand
abort_shape_asked version d = holds (has_only (member_names form.Abort) d) (rule.Shape (shape.Members form.Abort))
    ∷ holds (is_abort version (part (codes "abort") d)) (rule.Shape (shape.Abort version))
    ∷ one_more_node version
    ∷ []

unfoldable pub abort_asked : ℕ → Data → List Demand
abort_asked version d = abort_shape_asked version d ++ reason_asked version named.Reason (as_str (part (codes "abort") d))

unfoldable pub parallel_shape_asked : Data → List Demand
parallel_shape_asked d = holds (has_only (member_names form.Parallel) d) (rule.Shape (shape.Members form.Parallel))
    ∷ holds (is_some (list_member (codes "parallel") d)) (rule.Shape shape.Children)
    ∷ []

-- the labels of the children
abbrev pub labels_of : Scope → Items → Scope
labels_of earlier no_items = earlier
labels_of earlier (item d ds) = labels_of (with_label (label_in d) Outcome earlier) ds

abbrev pub or_no_items : Option Items → Items
or_no_items o = unwrap_or o no_items

abbrev pub children_in : Data → Items
children_in d = or_no_items (list_member (codes "parallel") d)

-- ---- steps and blocks

abbrev pub one_sort : Bool → Bool → Bool → Bool → Bool → Option Sort
one_sort true false false false false = Some an_operation
one_sort false true false false false = Some an_if
one_sort false false true false false = Some a_sub
one_sort false false false true false = Some an_abort
one_sort false false false false true = Some a_parallel
one_sort _ _ _ _ _ = None

-- what sort of step it is, by the one member that says so
unfoldable pub sort_of : Data → Option Sort
sort_of d = one_sort (has (codes "op") d) (has (codes "if") d) (has (codes "sub") d) (has (codes "abort") d) (has (codes "parallel") d)

abbrev pub scope_after_by : Option Sort → Setting → Scope → Data → Scope
scope_after_by (Some an_operation) setting scope d = with_label (label_in d) (Reply (verb_in setting (part (codes "op") d))) scope
scope_after_by (Some a_sub) setting scope d = with_label (label_in d) Outcome scope
scope_after_by (Some a_parallel) setting scope d = with_labels (labels_of [] (children_in d)) scope
scope_after_by sort setting scope d = scope

-- the labels that are seen after a step
unfoldable pub scope_after : Setting → Scope → Data → Scope
scope_after setting scope d = scope_after_by (sort_of d) setting scope d

-- ---- objects

abbrev pub text_of : Data → List ℕ
text_of d = or_empty (as_str d)

unfoldable pub entry_asked : ℕ → Data → List Demand
entry_asked version d = holds (is_some (as_str d)) (rule.Start start.Entry)
    ∷ holds (is_name version (text_of d)) (rule.Name version named.Entry)
    ∷ one_more_start version
    ∷ []

unfoldable pub element_asked : ℕ → Table → Data → List Demand
element_asked version earlier d =
    holds (is_some (as_str d)) (rule.Start start.Entry)
    ∷ holds (is_name version (text_of d)) (rule.Name version named.Entry)
    ∷ holds (not (is_listed (text_of d) earlier)) (rule.Start start.NewEntry)
    ∷ one_more_start version
    ∷ []

abbrev pub key_of : Data → List ℕ
key_of d = or_empty (text_item 0 d)

abbrev pub value_of : Data → List ℕ
value_of d = or_empty (text_item 1 d)

unfoldable pub pair_asked : ℕ → Table → Data → List Demand
pair_asked version earlier d =
    holds (has_count 2 d) (rule.Start start.Pair)
    ∷ holds (is_some (text_item 0 d)) (rule.Start start.PairKey)
    ∷ holds (is_some (text_item 1 d)) (rule.Start start.PairItem)
    ∷ holds (is_name version (key_of d)) (rule.Name version named.PairKey)
    ∷ holds (is_name version (value_of d)) (rule.Name version named.PairItem)
    ∷ holds (not (is_listed (key_of d) earlier)) (rule.Start start.NewKey)
    ∷ one_more_start version
    ∷ []

-- the number within a limit on its size
abbrev pub number_start : Data → Option ℕ
number_start d = option_and_then (within 0 MAX_START) (whole d)

abbrev pub signed_within : ℕ → ℤ → Option ℤ
signed_within most n = if nat_le (nat_abs n) most then Some n else None

abbrev pub signed_start : Data → Option ℤ
signed_start d = option_and_then (signed_within MAX_START) (whole d)

abbrev pub object_kind : ℕ → Data → Option Kind
object_kind version d = option_and_then (kind_of_text version) (text_member (codes "kind") d)

-- the kind, where a test before has found that there is one
abbrev pub kind_in : ℕ → Data → Kind
kind_in version d = unwrap_or (object_kind version d) kind.Account

abbrev pub object_name : Data → List ℕ
object_name d = or_empty (text_member (codes "name") d)

unfoldable pub object_shape_asked : ℕ → Data → List Demand
object_shape_asked version d =
    holds (has_only (member_names form.Object) d) (rule.Shape (shape.Members form.Object))
    ∷ holds (is_some (text_member (codes "name") d)) (rule.Shape shape.ObjectName)
    ∷ holds (is_some (object_kind version d)) (rule.Shape (shape.ObjectKind version))
    ∷ holds (has (codes "start") d) (rule.Shape shape.ObjectStart)
    ∷ []

-- the name is a name, and no earlier object has it
unfoldable pub object_name_asked : ℕ → Table → List ℕ → List Demand
object_name_asked version names name = holds (is_name version name) (rule.Name version named.Object)
    ∷ holds (not (is_listed name names)) rule.NewObject
    ∷ []

abbrev pub names_of : Items → Table
names_of no_items = []
names_of (item d ds) = object_name d ∷ names_of ds

abbrev pub kinds_of : ℕ → Items → List Kind
kinds_of version no_items = []
kinds_of version (item d ds) = kind_in version d ∷ kinds_of version ds

-- what the objects declare
abbrev pub declared_by : ℕ → Items → Setting
declared_by version ds = record { version = version; names = names_of ds; kinds = kinds_of version ds }

-- ---- the document

abbrev pub objects_in : Data → Items
objects_in d = or_no_items (list_member (codes "objects") d)

abbrev pub transactions_in : Data → Items
transactions_in d = or_no_items (list_member (codes "transactions") d)

abbrev pub version_of : Data → Option ℕ
version_of d = option_and_then (within 1 LAST_VERSION) (whole_member (codes "ordtx") d)

abbrev pub version_in : Data → ℕ
version_in d = unwrap_or (version_of d) 1

unfoldable pub document_shape_asked : Data → List Demand
document_shape_asked d =
    holds (has_only (member_names form.Document) d) (rule.Shape (shape.Members form.Document))
    ∷ holds (is_some (version_of d)) (rule.Shape shape.Version)
    ∷ holds (is_some (list_member (codes "objects") d)) (rule.Shape shape.Objects)
    ∷ holds (is_some (list_member (codes "transactions") d)) (rule.Shape shape.Transactions)
    ∷ holds (nat_le (items_len (objects_in d)) (limits_of (version_in d)).objects) (rule.Few (counted.Objects (version_in d)))
    ∷ holds (nat_le (items_len (transactions_in d)) (limits_of (version_in d)).transactions)
    (rule.Few (counted.Transactions (version_in d)))
    ∷ []

abbrev pub setting_in : Data → Setting
setting_in d = declared_by (version_in d) (objects_in d)
