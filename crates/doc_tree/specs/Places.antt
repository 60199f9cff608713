-- What is asked of a document: each demand under the part that it is asked of, in reading order. After a demand that fails they say
-- nothing of use. And the first that is not met, with its place.
use Rattle.std.specs.Prelude.{ℕ, ◌+◌, List, [], ◌∷◌, ◌++◌, codes, false, is_some, Option, None, Some, Result, Ok, Err, zero, suc}
use Rattle.std.specs.Fmt.{decimal}
use Rattle.serde_json.specs.Data.{Data, Items, no_items, item, Members, no_members, member}
use Rattle.serde_json.specs.Find.{as_array, get}
use Rattle.objects.specs.declared.kind.Kind.{Kind}
use Rattle.objects.specs.declared.kind.ValueForm.{ValueForm}
use Rattle.objects.specs.declared.kind.ValueForm.TheVariants as value_form
use Rattle.objects.specs.Objects.{form_of}
use Rattle.batch.specs.Names.{is_name}
use Rattle.meaning.specs.declared.limits.TheConstants.{MAX_DEPTH}
use Rattle.faults.specs.declared.fault.Fault.{Fault}
use Rattle.doc_rules.specs.Failures.{fault_of}
use Rattle.doc_rules.specs.Pointers.{pointer_token}
use Rattle.doc_rules.specs.declared.failure.Failure.{Failure}
use Rattle.doc_rules.specs.declared.rule.Rule.{Rule}
use Rattle.doc_rules.specs.declared.rule.NameRule.TheVariants.{Handlers}
use Rattle.doc_rules.specs.declared.rule.Rule.TheVariants.{Depth, Name, Shape, Start}
use Rattle.doc_rules.specs.declared.rule.ShapeRule.TheVariants as shape
use Rattle.doc_rules.specs.declared.rule.StartRule.TheVariants.{Of}
use Rattle.doc_tree.specs.declared.counts.Counts.{Counts}
use Rattle.doc_tree.specs.declared.steps.Sort.{Sort}
use Rattle.doc_tree.specs.declared.steps.Sort.TheVariants.{Operation as an_operation, If as an_if, Sub as a_sub, Abort as an_abort}
use Rattle.doc_tree.specs.declared.steps.Sort.TheVariants.{Parallel as a_parallel}
use Rattle.doc_rules.specs.declared.subject.Subject.TheVariants.{Outcome}
use Rattle.doc_tree.specs.Demand.{Demand, holds, one_more_node, in_transaction, check, no_counts}
use Rattle.doc_tree.specs.Scope.{Scope, Setting, Table, with_label, with_text}
use Rattle.doc_tree.specs.Asked.{abort_asked, children_in, document_shape_asked, element_asked, entry_asked, handlers_in, if_label}
use Rattle.doc_tree.specs.Asked.{if_shape_asked, key_of, kind_in, label_asked, label_in, number_start, object_name, object_name_asked}
use Rattle.doc_tree.specs.Asked.{object_shape_asked, objects_in, operation_asked, pair_asked, parallel_shape_asked, part, scope_after}
use Rattle.doc_tree.specs.Asked.{seen_asked, setting_in, signed_start, sort_of, sub_shape_asked, subject_of, test_asked, text_of}
use Rattle.doc_tree.specs.Asked.{transactions_in, version_in}

-- a member by its name, or an item by its index
pub data PathStep : Type 0 where
  member_named : List ℕ → PathStep
  item_at : ℕ → PathStep

-- Demands on a value: those on itself, and those on its parts, in reading order.
pub data Placed : Type 0 where
  nothing : Placed
  itself : List Demand → Placed → Placed
  inside : PathStep → Placed → Placed → Placed

-- ---- the first that is not met

-- What failed, and the JSON Pointer (RFC 6901) from a value to the part in which it did.
pub record Found : Type 0 where
  pub failure : Failure
  pub pointer : List ℕ

abbrev pub token_text : PathStep → List ℕ
token_text (member_named name) = pointer_token name
token_text (item_at index) = decimal index

abbrev pub found_here : Failure → Found
found_here failure = record { failure = failure; pointer = [] }

abbrev pub found_inside : PathStep → Found → Found
found_inside token found = record { failure = found.failure; pointer = codes "/" ++ token_text token ++ found.pointer }

abbrev pub here : Result Counts Failure → Result Counts Found
here (Ok c) = Ok c
here (Err failure) = Err (found_here failure)

abbrev pub below : PathStep → Result Counts Found → Result Counts Found
below token (Ok c) = Ok c
below token (Err found) = Err (found_inside token found)

abbrev pub go_on : Result Counts Found → (Counts → Result Counts Found) → Result Counts Found
go_on (Ok c) f = f c
go_on (Err found) f = Err found

-- the counts after all the demands, or the first that isn't met with its place
abbrev pub seek : Counts → Placed → Result Counts Found
seek c nothing = Ok c
seek c (itself ds rest) = go_on (here (check c ds)) (λ next. seek next rest)
seek c (inside token part rest) = go_on (below token (seek c part)) (λ next. seek next rest)

-- the fault, without its place
abbrev pub fault_in : Result Counts Found → Option Fault
fault_in (Ok c) = None
fault_in (Err found) = Some (fault_of found.failure)

-- the first fault of a document's demands
abbrev pub first_fault : Placed → Option Fault
first_fault asked = fault_in (seek no_counts asked)

-- ---- steps

-- what a block of a step asks, where these labels are seen
abbrev pub Places : Type 0
Places = Scope → Data → Placed

unfoldable pub block_placed_if : Places → Scope → Option Data → Placed
block_placed_if places scope None = nothing
block_placed_if places scope (Some d) = places scope d

unfoldable pub if_placed : ℕ → Places → Scope → Data → Placed
if_placed version places scope d =
    itself (if_shape_asked d)
    (itself (one_more_node version ∷ [])
    (itself (seen_asked scope (if_label d))
    (itself (test_asked version (subject_of (if_label d) scope) d)
    (inside (member_named (codes "then")) (places scope (part (codes "then") d))
    (inside (member_named (codes "else")) (block_placed_if places scope (get (codes "else") d))
    nothing)))))

-- A reason that is no name is a fault of the handlers, not of its block.
abbrev pub member_placed : ℕ → Places → Scope → List ℕ → Data → Placed → Placed
member_placed version places scope reason d rest =
    itself (holds (is_name version reason) (Name version Handlers) ∷ []) (inside (member_named reason) (places scope d) rest)

abbrev pub members_placed : ℕ → Places → Scope → Members → Placed
members_placed version places scope no_members = nothing
members_placed version places scope (member reason d ds) =
    member_placed version places scope reason d (members_placed version places scope ds)

unfoldable pub handlers_placed : ℕ → Places → Scope → Option Members → Placed
handlers_placed version places scope None = nothing
handlers_placed version places scope (Some ds) = members_placed version places scope ds

-- a subaction, or a child whose earlier siblings have these labels
unfoldable pub sub_placed : ℕ → Places → Scope → Scope → Data → Placed
sub_placed version places scope earlier d =
    itself (sub_shape_asked version d)
    (itself (one_more_node version ∷ [])
    (itself (label_asked version scope earlier (label_in d))
    (inside (member_named (codes "sub")) (places scope (part (codes "sub") d))
    (inside (member_named (codes "handlers")) (handlers_placed version places scope (handlers_in d))
    (inside (member_named (codes "handler")) (block_placed_if places scope (get (codes "handler") d))
    nothing)))))

-- the children from an index on, where their earlier siblings have these labels
abbrev pub children_placed : ℕ → Places → Scope → Scope → ℕ → Items → Placed
children_placed version places scope earlier i no_items = nothing
children_placed version places scope earlier i (item d ds) = inside (item_at i) (sub_placed version places scope earlier d)
    (children_placed version places scope (with_label (label_in d) Outcome earlier) (i + 1) ds)

unfoldable pub parallel_placed : ℕ → Places → Scope → Data → Placed
parallel_placed version places scope d =
    itself (parallel_shape_asked d)
    (itself (one_more_node version ∷ [])
    (inside (member_named (codes "parallel")) (children_placed version places scope [] 0 (children_in d))
    nothing))

abbrev pub step_placed_by : Option Sort → Places → Setting → Scope → Data → Placed
step_placed_by None places setting scope d = itself (holds false (Shape shape.Sort) ∷ []) nothing
step_placed_by (Some an_operation) places setting scope d = itself (operation_asked setting scope d) nothing
step_placed_by (Some an_if) places setting scope d = if_placed setting.version places scope d
step_placed_by (Some a_sub) places setting scope d = sub_placed setting.version places scope [] d
step_placed_by (Some an_abort) places setting scope d = itself (abort_asked setting.version d) nothing
step_placed_by (Some a_parallel) places setting scope d = parallel_placed setting.version places scope d

unfoldable pub step_placed : Places → Setting → Scope → Data → Placed
step_placed places setting scope d = step_placed_by (sort_of d) places setting scope d

-- the steps from an index on, each of which sees the labels of those before it
abbrev pub steps_placed : Places → Setting → Scope → ℕ → Items → Placed
steps_placed places setting scope i no_items = nothing
steps_placed places setting scope i (item d ds) = inside (item_at i) (step_placed places setting scope d)
    (steps_placed places setting (scope_after setting scope d) (i + 1) ds)

-- the items of an array; what is none breaks the rule
abbrev pub array_placed : Rule → (Items → Placed) → Option Items → Placed
array_placed rule placed None = itself (holds false rule ∷ []) nothing
array_placed rule placed (Some ds) = placed ds

-- a block within so many more levels
unfoldable pub block_placed : Setting → ℕ → Places
block_placed setting zero scope d = array_placed (Shape shape.Block) (λ ds. itself (holds false Depth ∷ []) nothing) (as_array d)
block_placed setting (suc n) scope d = array_placed (Shape shape.Block) (steps_placed (block_placed setting n) setting scope 0) (as_array d)

-- ---- objects

-- the entries of a queue from an index on
abbrev pub entries_placed : ℕ → ℕ → Items → Placed
entries_placed version i no_items = nothing
entries_placed version i (item d ds) = inside (item_at i) (itself (entry_asked version d) nothing) (entries_placed version (i + 1) ds)

-- the entries of a set, which differ from these earlier ones
abbrev pub elements_placed : ℕ → Table → ℕ → Items → Placed
elements_placed version earlier i no_items = nothing
elements_placed version earlier i (item d ds) = inside (item_at i) (itself (element_asked version earlier d) nothing)
    (elements_placed version (with_text (text_of d) earlier) (i + 1) ds)

-- the entries of a directory, whose keys differ from these earlier ones
abbrev pub pairs_placed : ℕ → Table → ℕ → Items → Placed
pairs_placed version earlier i no_items = nothing
pairs_placed version earlier i (item d ds) = inside (item_at i) (itself (pair_asked version earlier d) nothing)
    (pairs_placed version (with_text (key_of d) earlier) (i + 1) ds)

-- the start of an object whose kind has this form
abbrev pub form_placed : ℕ → Kind → ValueForm → Data → Placed
form_placed version k (value_form.Number m) d = itself (holds (is_some (number_start d)) (Start (Of k)) ∷ []) nothing
form_placed version k value_form.Signed d = itself (holds (is_some (signed_start d)) (Start (Of k)) ∷ []) nothing
form_placed version k value_form.Set d = array_placed (Start (Of k)) (elements_placed version [] 0) (as_array d)
form_placed version k value_form.Queue d = array_placed (Start (Of k)) (entries_placed version 0) (as_array d)
form_placed version k value_form.Directory d = array_placed (Start (Of k)) (pairs_placed version [] 0) (as_array d)

unfoldable pub start_placed : ℕ → Kind → Data → Placed
start_placed version k d = form_placed version k (form_of k) d

unfoldable pub object_placed : ℕ → Table → Data → Placed
object_placed version names d =
    itself (object_shape_asked version d)
    (itself (object_name_asked version names (object_name d))
    (inside (member_named (codes "start")) (start_placed version (kind_in version d) (part (codes "start") d))
    nothing))

-- the objects from an index on, where these names come before them
abbrev pub objects_placed : ℕ → Table → ℕ → Items → Placed
objects_placed version names i no_items = nothing
objects_placed version names i (item d ds) = inside (item_at i) (object_placed version names d)
    (objects_placed version (names ++ object_name d ∷ []) (i + 1) ds)

-- ---- the document

-- a transaction by its number
abbrev pub transaction_placed : ℕ → Setting → Data → Placed
transaction_placed n setting d = itself (in_transaction n ∷ []) (block_placed setting MAX_DEPTH [] d)

-- the transactions from an index on, which are numbered from 1
abbrev pub transactions_placed : Setting → ℕ → Items → Placed
transactions_placed setting i no_items = nothing
transactions_placed setting i (item d ds) = inside (item_at i) (transaction_placed (i + 1) setting d)
    (transactions_placed setting (i + 1) ds)

-- all that is asked of a document
unfoldable pub placed : Data → Placed
placed d =
    itself (document_shape_asked d)
    (inside (member_named (codes "objects")) (objects_placed (version_in d) [] 0 (objects_in d))
    (inside (member_named (codes "transactions")) (transactions_placed (setting_in d) 0 (transactions_in d))
    nothing))
