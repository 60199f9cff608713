-- What a document spells, part by part, in the order in which faults are found.
use Rattle.std.specs.FinSet as finite_set
use Rattle.std.specs.FinMap as finite_map
use Rattle.std.specs.Prelude.{ℕ, Bool, zero, suc, ◌+◌, ◌++◌, ◌||◌, not, List, [], ◌∷◌, codes, Option, Some, None, is_some, nat_le}
use Rattle.std.specs.Prelude.{Result, Ok, option_and_then, slice_get, unwrap_or, if◌then◌else◌}
use Rattle.serde_json.specs.Data.{Data, Members, no_members, member}
use Rattle.serde_json.specs.Events.{items_len}
use Rattle.serde_json.specs.Find.{get, as_array, as_str}
use Rattle.atoms.specs.declared.item.Item.{Item}
use Rattle.objects.specs.declared.kind.Kind.{Kind}
use Rattle.objects.specs.declared.kind.ValueForm.{ValueForm}
use Rattle.objects.specs.declared.kind.ValueForm.TheVariants as value_form
use Rattle.objects.specs.Objects.{form_of, number_value}
use Rattle.objects.specs.declared.kind.Value.{Value}
use Rattle.objects.specs.declared.kind.Value.TheVariants as value
use Rattle.objects.specs.Entries.{kinds}
use Rattle.vocabulary.specs.Words.{amount_call, lone_call, verb_of_text}
use Rattle.vocabulary.specs.declared.verb.Verb.{Verb}
use Rattle.vocabulary.specs.declared.verb.Verb.TheVariants.{OfAmount, OfItem, OfPair, Alone}
use Rattle.meaning.specs.declared.limits.TheConstants.{MAX_DEPTH}
use Rattle.meaning.specs.declared.template.Argument.{Argument}
use Rattle.meaning.specs.declared.template.Argument.TheVariants as argument
use Rattle.meaning.specs.declared.template.Refusal.{Refusal}
use Rattle.meaning.specs.declared.template.Refusal.TheVariants.{GoesOn, Aborts}
use Rattle.meaning.specs.declared.template.Template.{Template}
use Rattle.meaning.specs.declared.template.Template.TheVariants as template
use Rattle.meaning.specs.declared.template.Template.TheVariants.{Given}
use Rattle.meaning.specs.declared.test.Test.{Test}
use Rattle.meaning.specs.declared.test.Test.TheVariants.{Is, AtLeast, IsItem}
use Rattle.meaning.specs.Trees.{Block, NoStep, Step, If, Subaction, Abort, Parallel}
use Rattle.batch.specs.Names.{Texts, is_name}
use Rattle.batch.specs.Views.{Tried, children_of, steps_of}
use Rattle.doc_rules.specs.Forms.{member_names}
use Rattle.doc_rules.specs.declared.form.Form.TheVariants as form
use Rattle.doc_rules.specs.declared.rule.OperandPlace.{OperandPlace}
use Rattle.doc_rules.specs.declared.rule.OperandPlace.TheVariants.{Third, Fourth}
use Rattle.doc_rules.specs.declared.rule.Rule.TheVariants as rule
use Rattle.doc_rules.specs.declared.rule.ArgumentRule.TheVariants as argument_rule
use Rattle.doc_rules.specs.declared.rule.SourceRule.{SourceRule}
use Rattle.doc_rules.specs.declared.rule.SourceRule.TheVariants as source
use Rattle.doc_rules.specs.declared.rule.ConditionRule.TheVariants as condition
use Rattle.doc_rules.specs.declared.rule.CountRule.TheVariants as counted
use Rattle.doc_rules.specs.declared.rule.NameRule.TheVariants as named
use Rattle.doc_rules.specs.declared.rule.ShapeRule.TheVariants as shape
use Rattle.doc_rules.specs.declared.rule.StartRule.TheVariants as start
use Rattle.doc_tree.specs.declared.steps.Sort.{Sort}
use Rattle.doc_tree.specs.declared.steps.Sort.TheVariants.{Operation as an_operation, If as an_if, Sub as a_sub, Abort as an_abort}
use Rattle.doc_tree.specs.declared.steps.Sort.TheVariants.{Parallel as a_parallel}
use Rattle.doc_rules.specs.declared.subject.Subject.{Subject}
use Rattle.doc_rules.specs.declared.subject.Subject.TheVariants.{Reply, Outcome}
use Rattle.meaning.specs.Amounts.{amount_of}
use Rattle.doc_tree.specs.Asked.{amount_item, else_reason, handlers_are_members, handlers_in, has_count, has_one_test, index_of, is_abort}
use Rattle.doc_tree.specs.Asked.{is_else, is_source, label_in, label_is_text, number_start, object_kind, part, signed_start, sort_of}
use Rattle.doc_tree.specs.Asked.{source_label, tested_word, version_of}
use Rattle.doc_tree.specs.Demand.{in_transaction, one_more_node, one_more_operation, one_more_start}
use Rattle.doc_rules.specs.Limits.{limits_of}
use Rattle.doc_tree.specs.Look.{has, has_only, list_member, text_item, text_member, whole_member}
use Rattle.doc_tree.specs.Places.{Found, member_named}
use Rattle.doc_tree.specs.Scope.{Scope, Setting, Table, is_listed, is_named, label_number, named, place_of}
use Rattle.doc_tree.specs.Scope.{with_label, with_labels, with_text}
use Rattle.doc_tree.specs.Spelled.{Document, bind_all, item_template, operation_step, pair_template, put_all, tried}
use Rattle.doc_rules.specs.Subjects.{fits_item, fits_number}
use Rattle.doc_language.specs.Reading.{Reading, after, asks, breaks, counted, each, if_there, inside, item_named}
use Rattle.doc_language.specs.Reading.{needs, needs_item, nothing_seen, reason_in, spells, then_read}

-- ---- operations

-- the item at a place of an operation's array
abbrev pub item_argument : {A : Type 0} → ℕ → OperandPlace → Data → (Item → Reading A) → Reading A
item_argument version place op =
    needs_item version (text_item (index_of place) op) (rule.Argument (argument_rule.Item place)) (named.Argument place)

-- the label that gives an argument: it is seen, and what it is of fits, by this rule
abbrev pub source_argument : {A : Type 0} → Scope → (Subject → Bool) → (Subject → SourceRule) → OperandPlace → Data
    → (ℕ → Reading A) → Reading A
source_argument scope fits fit place op rest =
    needs (source_label (index_of place) op) (rule.Source place source.Label) (λ name.
    needs (named name scope) (rule.Source place source.Seen) (λ subject.
    asks (fits subject) (rule.Source place (fit subject)) (
    rest (label_number name scope))))

-- an item, or the label that gives one
abbrev pub argument_in : {A : Type 0} → ℕ → Scope → OperandPlace → Data → (Argument → Reading A) → Reading A
argument_in version scope place op rest =
    if is_source version (index_of place) op then source_argument scope fits_item source.Item place op (λ label. rest (argument.From label))
    else item_argument version place op (λ x. rest (argument.Is x))

-- a call of a verb, with the arguments in an operation's array
abbrev pub call_in : ℕ → Scope → Verb → Data → Reading Template
call_in version scope (OfAmount v) op = asks (has_count 3 op) (rule.Argument (argument_rule.Count (OfAmount v))) (
    if is_source version 2 op
    then source_argument scope fits_number source.Number Third op (λ label. spells (template.OfAmount v label))
    else needs (amount_item 2 op) (rule.Argument argument_rule.Amount) (λ n. spells (Given (amount_call v (amount_of n)))))
call_in version scope (OfItem v) op = asks (has_count 3 op) (rule.Argument (argument_rule.Count (OfItem v))) (
    argument_in version scope Third op (λ x. spells (item_template v x)))
call_in version scope (OfPair v) op = asks (has_count 4 op) (rule.Argument (argument_rule.Count (OfPair v))) (
    argument_in version scope Third op (λ key.
    argument_in version scope Fourth op (λ x.
    spells (pair_template v key x))))
call_in version scope (Alone v) op = asks (has_count 2 op) (rule.Argument (argument_rule.Count (Alone v))) (spells (Given (lone_call v)))

-- what the operation's refusal does
abbrev pub refusal_in : ℕ → Data → Reading Refusal
refusal_in version d =
    if has (codes "else") d then after (if_there (reason_in version named.Else) (else_reason d)) (λ reason. spells (Aborts reason))
    else spells GoesOn

-- a label, if there is one: a name that is neither seen nor an earlier sibling's
abbrev pub new_label : {A : Type 0} → ℕ → Scope → Scope → Option (List ℕ) → Reading A → Reading A
new_label version scope earlier None rest = rest
new_label version scope earlier (Some name) rest =
    asks (is_name version name) (rule.Name version named.Label) (
    asks (not (is_named name scope || is_named name earlier)) rule.NewLabel
    rest)

-- an operation, and the labels that are seen after it
unfoldable pub operation_in : Setting → Scope → Data → Reading (Step × Scope)
operation_in setting scope d =
    let op = part (codes "op") d in
    asks (has_only (member_names form.Operation) d) (rule.Shape (shape.Members form.Operation)) (
    needs (text_item 0 op) (rule.Shape shape.OperationObject) (λ object.
    needs (text_item 1 op) (rule.Shape shape.OperationWord) (λ word.
    asks (label_is_text d) (rule.Shape shape.Label) (
    asks (is_else setting.version d) (rule.Shape (shape.Else setting.version)) (
    counted (one_more_operation setting.version) (
    needs (place_of object setting.names) rule.KnownObject (λ place.
    let kind = slice_get setting.kinds place in
    needs (option_and_then (λ k. verb_of_text setting.version k word) kind) (rule.KnownOperation setting.version kind) (λ verb.
    after (call_in setting.version scope verb op) (λ template.
    after (refusal_in setting.version d) (λ refusal.
    new_label setting.version scope [] (label_in d) (
    spells (operation_step place template (is_some (label_in d)) refusal, with_label (label_in d) (Reply verb) scope))))))))))))

-- ---- the other steps

-- how a block of a step is read, where these labels are seen
abbrev pub BlockReader : Type 0
BlockReader = Scope → Data → Reading Block

-- the test of an `if`, against what its label is of
unfoldable pub test_in : ℕ → Subject → Data → Reading Test
test_in version subject d =
    if has (codes "is") d then needs (tested_word subject d) (rule.Condition (condition.Word subject)) (λ word. spells (Is word))
    else if has (codes "atleast") d then asks (fits_number subject) (rule.Condition (condition.Number subject)) (
    needs (whole_member (codes "atleast") d) (rule.Condition condition.AtLeast) (λ n. spells (AtLeast n)))
    else asks (fits_item subject) (rule.Condition (condition.HasItem subject)) (
    needs_item version (text_member (codes "item") d) (rule.Condition condition.TestedItem) named.TestedItem (λ x. spells (IsItem x)))

-- an `if`, after which the same labels are seen
unfoldable pub if_in : ℕ → BlockReader → Scope → Data → Reading (Step × Scope)
if_in version block scope d =
    asks (has_only (member_names form.If) d) (rule.Shape (shape.Members form.If)) (
    asks (has_one_test d) (rule.Shape shape.Test) (
    needs (text_member (codes "if") d) (rule.Shape shape.TestedLabel) (λ label.
    needs (get (codes "then") d) (rule.Shape shape.Then) (λ inner.
    counted (one_more_node version) (
    needs (named label scope) rule.SeenLabel (λ subject.
    after (test_in version subject d) (λ test.
    inside (member_named (codes "then")) (block scope inner) (λ branch.
    inside (member_named (codes "else")) (if_there (block scope) (get (codes "else") d)) (λ other.
    spells (If (label_number label scope) test branch (unwrap_or other NoStep), scope))))))))))

-- The handlers by reason, in the order of the reasons' bytes, as a value has its members. A reason that is no name breaks a rule of
-- them all.
abbrev pub handlers_by_reason : ℕ → BlockReader → Scope → Members → Reading (List (ℕ × Block))
handlers_by_reason version block scope no_members = spells []
handlers_by_reason version block scope (member reason d ds) =
    after (reason_in version named.Handlers reason) (λ number.
    inside (member_named reason) (block scope d) (λ handler.
    after (handlers_by_reason version block scope ds) (λ others.
    spells ((number, handler) ∷ others))))

-- a subaction, or a child whose earlier siblings have these labels; and those labels with its own
unfoldable pub sub_in : ℕ → BlockReader → Scope → Scope → Data → Reading (Tried × Scope)
sub_in version block scope earlier d =
    asks (has_only (member_names form.Subaction) d) (rule.Shape (shape.Members form.Subaction)) (
    needs (get (codes "sub") d) (rule.Shape shape.Body) (λ sub.
    asks (label_is_text d) (rule.Shape shape.Label) (
    asks (handlers_are_members version d) (rule.Shape (shape.Handlers version)) (
    counted (one_more_node version) (
    new_label version scope earlier (label_in d) (
    inside (member_named (codes "sub")) (block scope sub) (λ body.
    inside (member_named (codes "handlers")) (if_there (handlers_by_reason version block scope) (handlers_in d)) (λ handlers.
    inside (member_named (codes "handler")) (if_there (block scope) (get (codes "handler") d)) (λ handler.
    spells (tried body handlers handler (is_some (label_in d)), with_label (label_in d) Outcome earlier))))))))))

-- a parallel step, and the labels that are seen after it
unfoldable pub parallel_in : ℕ → BlockReader → Scope → Data → Reading (Step × Scope)
parallel_in version block scope d =
    asks (has_only (member_names form.Parallel) d) (rule.Shape (shape.Members form.Parallel)) (
    needs (list_member (codes "parallel") d) (rule.Shape shape.Children) (λ ds.
    counted (one_more_node version) (
    inside (member_named (codes "parallel")) (each (sub_in version block scope) 0 [] ds) (λ children.
    spells (Parallel (children_of children.0), with_labels children.1 scope)))))

-- an abort, after which the same labels are seen
unfoldable pub abort_in : ℕ → Scope → Data → Reading (Step × Scope)
abort_in version scope d =
    asks (has_only (member_names form.Abort) d) (rule.Shape (shape.Members form.Abort)) (
    asks (is_abort version (part (codes "abort") d)) (rule.Shape (shape.Abort version)) (
    counted (one_more_node version) (
    after (if_there (reason_in version named.Reason) (as_str (part (codes "abort") d))) (λ reason.
    spells (Abort reason, scope)))))

-- ---- steps and blocks

-- a step of this sort, and the labels that are seen after it
abbrev pub step_by : Sort → BlockReader → Setting → Scope → Data → Reading (Step × Scope)
step_by an_operation block setting scope d = operation_in setting scope d
step_by an_if block setting scope d = if_in setting.version block scope d
step_by a_sub block setting scope d = after (sub_in setting.version block scope [] d) (λ sub.
    spells (Subaction sub.0.body sub.0.handlers sub.0.labelled, with_labels sub.1 scope))
step_by an_abort block setting scope d = abort_in setting.version scope d
step_by a_parallel block setting scope d = parallel_in setting.version block scope d

-- a step, and the labels that are seen after it
unfoldable pub step_in : BlockReader → Setting → Scope → Data → Reading (Step × Scope)
step_in block setting scope d = needs (sort_of d) (rule.Shape shape.Sort) (λ sort. step_by sort block setting scope d)

-- a block within so many more levels; its labels are no longer seen after it
unfoldable pub block_in : Setting → ℕ → BlockReader
block_in setting zero scope d = needs (as_array d) (rule.Shape shape.Block) (λ ds. breaks rule.Depth)
block_in setting (suc n) scope d = needs (as_array d) (rule.Shape shape.Block) (λ ds.
    after (each (step_in (block_in setting n) setting) 0 scope ds) (λ steps. spells (steps_of steps.0)))

-- ---- objects

-- an entry of a queue
abbrev pub entry_in : ℕ → Table → Data → Reading (Item × Table)
entry_in version earlier d =
    needs (as_str d) (rule.Start start.Entry) (λ name.
    asks (is_name version name) (rule.Name version named.Entry) (
    counted (one_more_start version) (
    item_named name (λ x. spells (x, earlier)))))

-- an item of a set, which differs from the earlier ones
abbrev pub element_in : ℕ → Table → Data → Reading (Item × Table)
element_in version earlier d =
    needs (as_str d) (rule.Start start.Entry) (λ name.
    asks (is_name version name) (rule.Name version named.Entry) (
    asks (not (is_listed name earlier)) (rule.Start start.NewEntry) (
    counted (one_more_start version) (
    item_named name (λ x. spells (x, with_text name earlier))))))

-- a key and its item; keys differ from the earlier ones
abbrev pub pair_in : ℕ → Table → Data → Reading ((Item × Item) × Table)
pair_in version earlier d =
    asks (has_count 2 d) (rule.Start start.Pair) (
    needs (text_item 0 d) (rule.Start start.PairKey) (λ key.
    needs (text_item 1 d) (rule.Start start.PairItem) (λ name.
    asks (is_name version key) (rule.Name version named.PairKey) (
    asks (is_name version name) (rule.Name version named.PairItem) (
    asks (not (is_listed key earlier)) (rule.Start start.NewKey) (
    counted (one_more_start version) (
    item_named key (λ k. item_named name (λ x. spells ((k, x), with_text key earlier))))))))))

-- a start that is an array, entry by entry; each is read after the names or keys of the earlier ones
abbrev pub array_start : {A : Type 0} → Kind → (Table → Data → Reading (A × Table)) → (List A → Value) → Data → Reading Value
array_start k entry valued d = needs (as_array d) (rule.Start (start.Of k)) (λ ds.
    after (each entry 0 [] ds) (λ entries. spells (valued entries.0)))

-- what an object of a kind of this form starts with
abbrev pub form_in : ℕ → Kind → ValueForm → Data → Reading Value
form_in version k (value_form.Number m) d = needs (number_start d) (rule.Start (start.Of k)) (λ n. spells (number_value m n))
form_in version k value_form.Signed d = needs (signed_start d) (rule.Start (start.Of k)) (λ n. spells (value.Counter n))
form_in version k value_form.Set d = array_start k (element_in version) (λ items. value.Set (put_all finite_set.empty items)) d
form_in version k value_form.Queue d = array_start k (entry_in version) value.Queue d
form_in version k value_form.Directory d = array_start k (pair_in version)
    (λ pairs. value.Directory (bind_all finite_map.empty pairs)) d

unfoldable pub start_in : ℕ → Kind → Data → Reading Value
start_in version k d = form_in version k (form_of k) d

-- an object after those with these names, and the names with its own
unfoldable pub object_in : ℕ → Table → Data → Reading (Value × Table)
object_in version names d =
    asks (has_only (member_names form.Object) d) (rule.Shape (shape.Members form.Object)) (
    needs (text_member (codes "name") d) (rule.Shape shape.ObjectName) (λ name.
    needs (object_kind version d) (rule.Shape (shape.ObjectKind version)) (λ k.
    needs (get (codes "start") d) (rule.Shape shape.ObjectStart) (λ start.
    asks (is_name version name) (rule.Name version named.Object) (
    asks (not (is_listed name names)) rule.NewObject (
    inside (member_named (codes "start")) (start_in version k start) (λ v.
    spells (v, names ++ name ∷ []))))))))

-- ---- the document

-- a transaction, and the number of the next
abbrev pub transaction_in : Setting → ℕ → Data → Reading (Block × ℕ)
transaction_in setting number d =
    counted (in_transaction number) (after (block_in setting MAX_DEPTH [] d) (λ block. spells (block, number + 1)))

-- a document: its shape, then its objects, then its transactions
unfoldable pub whole_in : Data → Reading Document
whole_in d =
    asks (has_only (member_names form.Document) d) (rule.Shape (shape.Members form.Document)) (
    needs (version_of d) (rule.Shape shape.Version) (λ version.
    needs (list_member (codes "objects") d) (rule.Shape shape.Objects) (λ objects.
    needs (list_member (codes "transactions") d) (rule.Shape shape.Transactions) (λ transactions.
    asks (nat_le (items_len objects) (limits_of version).objects) (rule.Few (counted.Objects version)) (
    asks (nat_le (items_len transactions) (limits_of version).transactions) (rule.Few (counted.Transactions version)) (
    inside (member_named (codes "objects")) (each (object_in version) 0 [] objects) (λ declared.
    let setting : Setting = record { version = version; names = declared.1; kinds = kinds declared.0 } in
    inside (member_named (codes "transactions")) (each (transaction_in setting) 0 1 transactions) (λ blocks seen.
    let texts : Texts = record { objects = declared.1; items = seen.numbers.items; reasons = seen.numbers.reasons } in
    spells (record { version = version; start = declared.0; texts = texts; transactions = blocks.0 }) seen))))))))

-- the document that a value spells, or the first rule that isn't kept, with its place
unfoldable pub read_document : Data → Result Document Found
read_document d = then_read (whole_in d nothing_seen) (λ read. Ok read.0)
