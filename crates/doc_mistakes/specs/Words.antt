-- What is said of a part that doesn't keep a rule.
use Rattle.std.specs.Prelude.{◌≡◌, ℕ, ◌⊎◌, Bool, not, List, [], ◌++◌, codes, Option, Some, None, is_some, option_and_then}
use Rattle.std.specs.Prelude.{option_map, nat_le, if◌then◌else◌, decimal}
use Rattle.serde_json.specs.Data.{Data, string}
use Rattle.serde_json.specs.Find.{as_object, as_str, at, get}
use Rattle.objects.specs.declared.kind.Kind.{Kind}
use Rattle.objects.specs.declared.kind.ValueForm.{ValueForm}
use Rattle.objects.specs.declared.kind.ValueForm.TheVariants as value_form
use Rattle.objects.specs.Objects.{form_of}
use Rattle.meaning.specs.declared.limits.TheConstants.{MAX_DEPTH, MAX_START}
use Rattle.meaning.specs.WellFormed.{largest_amount}
use Rattle.doc_rules.specs.declared.form.Form.{Form}
use Rattle.doc_rules.specs.declared.limits.TheConstants.{LAST_VERSION}
use Rattle.doc_rules.specs.declared.rule.Rule.{Rule}
use Rattle.doc_rules.specs.declared.rule.ArgumentRule.{ArgumentRule}
use Rattle.doc_rules.specs.declared.rule.ArgumentRule.TheVariants as argument
use Rattle.doc_rules.specs.declared.rule.ConditionRule.{ConditionRule}
use Rattle.doc_rules.specs.declared.rule.ConditionRule.TheVariants as condition
use Rattle.doc_rules.specs.declared.rule.CountRule.{CountRule}
use Rattle.doc_rules.specs.declared.rule.CountRule.TheVariants as counted
use Rattle.doc_rules.specs.declared.rule.NameRule.{NameRule}
use Rattle.doc_rules.specs.declared.rule.NameRule.TheVariants as named
use Rattle.doc_rules.specs.declared.rule.OperandPlace.{OperandPlace}
use Rattle.doc_rules.specs.declared.rule.ShapeRule.{ShapeRule}
use Rattle.doc_rules.specs.declared.rule.ShapeRule.TheVariants as shape
use Rattle.doc_rules.specs.declared.rule.SourceRule.{SourceRule}
use Rattle.doc_rules.specs.declared.rule.SourceRule.TheVariants as source
use Rattle.doc_rules.specs.declared.rule.StartRule.{StartRule}
use Rattle.doc_rules.specs.declared.rule.StartRule.TheVariants as start
use Rattle.doc_rules.specs.declared.rule.Rule.TheVariants as rule
use Rattle.doc_rules.specs.declared.subject.Subject.{Subject}
use Rattle.doc_rules.specs.declared.subject.Subject.TheVariants.{Reply, Outcome}
use Rattle.doc_rules.specs.Limits.{limits_of}
use Rattle.vocabulary.specs.declared.verb.Verb.{Verb}
use Rattle.vocabulary.specs.declared.verb.Verb.TheVariants.{OfAmount, OfItem, OfPair, Alone}
use Rattle.vocabulary.specs.Words.{a_kind, kind_of_text, verb_of_text, verb_text}
use Rattle.doc_mistakes.specs.declared.steps.TheConstants.{ELSE_SINCE, REASONS_SINCE}
use Rattle.doc_mistakes.specs.Parts.{has_sort, index_of, is_list, is_text, operand, source as source_in, unknown_member, unnamed_reason}
use Rattle.doc_mistakes.specs.Phrases.{form_text, missing, more_than, no_item, no_label, no_name, no_number, too_new, wanting}
use Rattle.doc_mistakes.specs.Phrases.{wanting_at}
use Rattle.doc_mistakes.specs.Shown.{grouped, shown, shown_in}

-- ---- the document and objects

unfoldable pub members_said : Form → Data → Option (List ℕ) → List ℕ
members_said form d None = shown d ++ codes " is no object of JSON"
members_said form d (Some name) = shown (string name) ++ codes " is no member of " ++ form_text form

unfoldable pub version_said : Option Data → List ℕ
version_said None = missing (codes "ordtx") ++ codes ": this program reads the versions 1 to " ++ decimal LAST_VERSION
version_said (Some d) =
    if is_some (as_str d) then codes "the version is a text; write it without quotes"
    else codes "the version is " ++ shown d ++ codes "; this program reads 1 to " ++ decimal LAST_VERSION

-- a kind of the last version
abbrev pub is_last_kind : Option Data → Bool
is_last_kind found = is_some (option_and_then (kind_of_text LAST_VERSION) (option_and_then as_str found))

unfoldable pub kind_said : ℕ → Option Data → List ℕ
kind_said version found =
    if is_last_kind found
    then too_new (codes "the kind " ++ shown_in found) version
    else if is_text found then shown_in found ++ codes " is no kind of object"
    else wanting_at (codes "kind") (codes "a text") found

-- what objects of a form start with
unfoldable pub starts_with : ValueForm → List ℕ
starts_with (value_form.Number k) = codes "a whole number from 0 to " ++ grouped MAX_START
starts_with value_form.Signed = codes "a whole number from -" ++ grouped MAX_START ++ codes " to " ++ grouped MAX_START
starts_with value_form.Set = codes "a list of items"
starts_with value_form.Queue = codes "a list of items"
starts_with value_form.Directory = codes "a list of pairs"

unfoldable pub start_said : Kind → Data → List ℕ
start_said k d = a_kind k ++ codes " can't start with " ++ shown d ++ codes ": it starts with " ++ starts_with (form_of k)

-- ---- steps

unfoldable pub sort_said : Data → List ℕ
sort_said d =
    if not (is_some (as_object d)) then shown d ++ codes " is no step: a step is an object of JSON"
    else if has_sort d then codes "a step has only one of \"op\", \"if\", \"sub\", \"abort\" and \"parallel\""
    else codes "a step has one of \"op\", \"if\", \"sub\", \"abort\" and \"parallel\""

-- the object or the operation that an operation is to name
unfoldable pub named_said : List ℕ → Option Data → List ℕ
named_said what None = codes "\"op\" has no " ++ what
named_said what (Some d) = codes "the " ++ what ++ codes " is " ++ shown d ++ codes ", and has to be a text"

unfoldable pub operand_said : List ℕ → ℕ → Data → List ℕ
operand_said what i d =
    if is_list (get (codes "op") d) then named_said what (operand i d) else wanting (codes "op") (codes "a list") d

-- an operation of the last version
abbrev pub is_last_operation : Kind → Option Data → Bool
is_last_operation k found = is_some (option_and_then (verb_of_text LAST_VERSION k) (option_and_then as_str found))

unfoldable pub operation_of_said : ℕ → Kind → Option Data → List ℕ
operation_of_said version k found =
    if is_last_operation k found then too_new (codes "the operation " ++ shown_in found) version
    else shown_in found ++ codes " is no operation of " ++ a_kind k

unfoldable pub operation_said : ℕ → Option Kind → Option Data → List ℕ
operation_said version None found = shown_in found ++ codes " is no operation"
operation_said version (Some k) found = operation_of_said version k found

abbrev pub taken : Verb → List ℕ
taken (OfAmount v) = codes "one amount"
taken (OfItem v) = codes "one item"
taken (OfPair v) = codes "a key and an item"
taken (Alone v) = codes "no argument"

unfoldable pub amount_said : Option Data → List ℕ
amount_said found =
    if is_text found then codes "the amount is a text; write it without quotes"
    else codes "the amount is " ++ shown_in found ++ codes ", and has to be a whole number from 1 to " ++ grouped largest_amount

-- what is no word of the subject
abbrev pub no_word : Subject → List ℕ
no_word (Reply v) = codes " is no word of a reply of \"" ++ verb_text v ++ codes "\""
no_word Outcome = codes " is no outcome: \"committed\" and \"aborted\" are"

unfoldable pub word_said : Subject → Data → List ℕ
word_said subject d =
    if is_text (get (codes "is") d) then shown_in (get (codes "is") d) ++ no_word subject
    else wanting (codes "is") (codes "a text") d

-- a member or a reason that the document is too early for
abbrev pub too_early : List ℕ → ℕ → ℕ → List ℕ
too_early what since version =
    what ++ codes " is of version " ++ decimal since ++ codes " on, and this document is of version " ++ decimal version

unfoldable pub handlers_said : ℕ → Data → List ℕ
handlers_said version d =
    if nat_le REASONS_SINCE version then wanting (codes "handlers") (codes "an object of JSON") d
    else too_early (codes "\"handlers\"") REASONS_SINCE version

unfoldable pub abort_said : ℕ → Data → List ℕ
abort_said version d =
    if nat_le REASONS_SINCE version then wanting (codes "abort") (codes "true or a reason") d
    else if is_text (get (codes "abort") d) then too_early (codes "a reason") REASONS_SINCE version
    else wanting (codes "abort") (codes "true") d

unfoldable pub else_said : ℕ → Data → List ℕ
else_said version d =
    if nat_le ELSE_SINCE version then wanting (codes "else") (codes "true or a reason") d
    else too_early (codes "\"else\"") ELSE_SINCE version

-- ---- the table, by what is wrong

abbrev pub shape_words : ShapeRule → Data → List ℕ
shape_words (shape.Members form) d = members_said form d (unknown_member form d)
shape_words shape.Version d = version_said (get (codes "ordtx") d)
shape_words shape.Objects d = wanting (codes "objects") (codes "a list") d
shape_words shape.Transactions d = wanting (codes "transactions") (codes "a list") d
shape_words shape.ObjectName d = wanting (codes "name") (codes "a text") d
shape_words (shape.ObjectKind version) d = kind_said version (get (codes "kind") d)
shape_words shape.ObjectStart d = missing (codes "start")
shape_words shape.Block d = shown d ++ codes " is no list of steps"
shape_words shape.Sort d = sort_said d
shape_words shape.Label d = wanting (codes "as") (codes "a text") d
shape_words shape.OperationObject d = operand_said (codes "object") 0 d
shape_words shape.OperationWord d = operand_said (codes "operation") 1 d
shape_words (shape.Else version) d = else_said version d
shape_words shape.Test d = codes "an \"if\" has just one of \"is\", \"atleast\" and \"item\""
shape_words shape.TestedLabel d = wanting (codes "if") (codes "a text") d
shape_words shape.Then d = missing (codes "then")
shape_words shape.Body d = missing (codes "sub")
shape_words (shape.Handlers version) d = handlers_said version d
shape_words (shape.Abort version) d = abort_said version d
shape_words shape.Children d = wanting (codes "parallel") (codes "a list") d

abbrev pub name_words : ℕ → NameRule → Data → List ℕ
name_words version named.Object d = no_name version (shown_in (get (codes "name") d))
name_words version named.Entry d = no_name version (shown d)
name_words version named.PairKey d = no_name version (shown_in (at 0 d))
name_words version named.PairItem d = no_name version (shown_in (at 1 d))
name_words version named.Label d = no_name version (shown_in (get (codes "as") d))
name_words version (named.Argument place) d = no_name version (shown_in (operand (index_of place) d))
name_words version named.TestedItem d = no_name version (shown_in (get (codes "item") d))
name_words version named.Handlers d = no_name version (shown_in (option_map string (unnamed_reason version d)))
name_words version named.Reason d = no_name version (shown_in (get (codes "abort") d))
name_words version named.Else d = no_name version (shown_in (get (codes "else") d))

abbrev pub argument_words : ArgumentRule → Data → List ℕ
argument_words (argument.Count v) d = codes "\"" ++ verb_text v ++ codes "\" takes " ++ taken v
argument_words argument.Amount d = amount_said (operand 2 d)
argument_words (argument.Item place) d = shown_in (operand (index_of place) d) ++ codes " is no text: items are written in quotes"

abbrev pub source_words : OperandPlace → SourceRule → Data → List ℕ
source_words place source.Label d = codes "an argument that a label gives is written {\"from\": \"LABEL\"}"
source_words place source.Seen d = no_label (shown_in (source_in place d))
source_words place (source.Number subject) d = no_number subject
source_words place (source.Item subject) d = no_item subject

abbrev pub condition_words : ConditionRule → Data → List ℕ
condition_words (condition.Word subject) d = word_said subject d
condition_words (condition.Number subject) d = no_number subject
condition_words condition.AtLeast d = wanting (codes "atleast") (codes "a whole number from -2^63 to 2^63 - 1") d
condition_words (condition.HasItem subject) d = no_item subject
condition_words condition.TestedItem d = wanting (codes "item") (codes "a text") d

abbrev pub count_words : CountRule → Data → List ℕ
count_words (counted.Bytes version) d = codes "the document has " ++ more_than (limits_of version).bytes (codes "bytes")
count_words (counted.Objects version) d = more_than (limits_of version).objects (codes "objects")
count_words (counted.Transactions version) d = more_than (limits_of version).transactions (codes "transactions")
count_words (counted.Entries version) d = more_than (limits_of version).entries (codes "entries that objects start with")
count_words (counted.Operations version) d = more_than (limits_of version).operations (codes "operations")
count_words (counted.Nodes version) d = more_than (limits_of version).nodes (codes "ifs, subactions, aborts, parallel steps and children")

abbrev pub start_words : StartRule → Data → List ℕ
start_words (start.Of k) d = start_said k d
start_words start.Entry d = shown d ++ codes " is no text: items are written in quotes"
start_words start.NewEntry d = shown d ++ codes " is there twice"
start_words start.Pair d = shown d ++ codes " is no pair of a key and an item"
start_words start.PairKey d = codes "the key is " ++ shown_in (at 0 d) ++ codes ", and has to be a text"
start_words start.PairItem d = codes "the item is " ++ shown_in (at 1 d) ++ codes ", and has to be a text"
start_words start.NewKey d = codes "the key " ++ shown_in (at 0 d) ++ codes " is there twice"

abbrev pub said : Rule → Data → List ℕ
said rule.Json d = codes "this cannot be read as JSON"
said (rule.Few one) d = count_words one d
said (rule.Shape one) d = shape_words one d
said (rule.Name version one) d = name_words version one d
said rule.NewObject d = codes "an earlier object has the name " ++ shown_in (get (codes "name") d)
said (rule.Start one) d = start_words one d
said rule.Depth d = codes "blocks are more than " ++ decimal MAX_DEPTH ++ codes " deep in one another"
said rule.NewLabel d = codes "the label " ++ shown_in (get (codes "as") d) ++ codes " is taken already"
said rule.KnownObject d = codes "no object has the name " ++ shown_in (operand 0 d)
said (rule.KnownOperation version k) d = operation_said version k (operand 1 d)
said (rule.Argument one) d = argument_words one d
said (rule.Source place one) d = source_words place one d
said rule.SeenLabel d = no_label (shown_in (get (codes "if") d))
said (rule.Condition one) d = condition_words one d

-- ---- a hint at a name that may be meant

abbrev pub hint_at : List ℕ → List ℕ
hint_at name = codes "; did you mean \"" ++ name ++ codes "\"?"

abbrev pub IsHint : List ℕ → Type 0
IsHint more = (more ≡ []) ⊎ ((name : List ℕ) × (more ≡ hint_at name))

abbrev pub IsSaid : Rule → Data → List ℕ → Type 0
IsSaid rule d text = (more : List ℕ) × (text ≡ said rule d ++ more) × IsHint more
