-- The demands without their places, as lists, for what counts them and what holds of all.
use Rattle.std.specs.Prelude.{codes, false, is_some}
use Rattle.std.proofs.Common.{◌≡◌, ℕ, ◌+◌, zero, suc, List, [], ◌∷◌, ◌++◌, Option, None, Some, Result, Ok, Err, refl, sym, ap, ◌∙◌}
use Rattle.std.proofs.Common.{append_assoc}
use Rattle.std.proofs.lemmas.List.{append-nil}
use Rattle.serde_json.specs.Data.{Data, Items, no_items, item, Members, no_members, member}
use Rattle.serde_json.specs.Find.{as_array, get}
use Rattle.objects.specs.declared.kind.Kind.{Kind}
use Rattle.objects.specs.declared.kind.ValueForm.{ValueForm}
use Rattle.objects.specs.declared.kind.ValueForm.TheVariants as value_form
use Rattle.objects.specs.Objects.{form_of}
use Rattle.batch.specs.Names.{is_name}
use Rattle.meaning.specs.declared.limits.TheConstants.{MAX_DEPTH}
use Rattle.doc_tree.specs.declared.steps.Sort.{Sort}
use Rattle.doc_tree.specs.declared.steps.Sort.TheVariants.{Operation as an_operation, If as an_if, Sub as a_sub, Abort as an_abort}
use Rattle.doc_tree.specs.declared.steps.Sort.TheVariants.{Parallel as a_parallel}
use Rattle.doc_rules.specs.declared.subject.Subject.TheVariants.{Outcome}
use Rattle.doc_rules.specs.declared.failure.Failure.{Failure}
use Rattle.doc_rules.specs.declared.rule.NameRule.TheVariants.{Handlers}
use Rattle.doc_rules.specs.declared.rule.Rule.TheVariants.{Depth, Name, Shape, Start}
use Rattle.doc_rules.specs.declared.rule.ShapeRule.TheVariants as shape
use Rattle.doc_rules.specs.declared.rule.StartRule.TheVariants.{Of}
use Rattle.doc_tree.specs.declared.counts.Counts.{Counts}
use Rattle.doc_tree.specs.Demand.{Demand, check, holds, in_transaction, no_counts, one_more_node}
use Rattle.doc_tree.specs.Scope.{Scope, Setting, Table, with_label, with_text}
use Rattle.doc_tree.specs.Asked.{abort_asked, children_in, document_shape_asked, element_asked, entry_asked, handlers_in, if_label}
use Rattle.doc_tree.specs.Asked.{if_shape_asked, key_of, kind_in, label_asked, label_in, number_start, object_name, object_name_asked}
use Rattle.doc_tree.specs.Asked.{object_shape_asked, objects_in, operation_asked, pair_asked, parallel_shape_asked, part, scope_after}
use Rattle.doc_tree.specs.Asked.{seen_asked, setting_in, signed_start, sort_of, sub_shape_asked, subject_of, test_asked, text_of}
use Rattle.doc_tree.specs.Asked.{transactions_in, version_in}
use Rattle.doc_tree.specs.Places.{Found, Placed, Places, PathStep, array_placed, below, block_placed, block_placed_if, children_placed}
use Rattle.doc_tree.specs.Places.{elements_placed, entries_placed, fault_in, first_fault, go_on, handlers_placed, here, if_placed, inside}
use Rattle.doc_tree.specs.Places.{itself, members_placed, nothing, object_placed, objects_placed, pairs_placed, parallel_placed, placed}
use Rattle.doc_tree.specs.Places.{form_placed, seek, start_placed, step_placed, step_placed_by, steps_placed, sub_placed}
use Rattle.doc_tree.specs.Places.{transactions_placed}
use Rattle.doc_tree.proofs.Checks.{and_check, check-after, check-append, failed-before}

-- the demands without their places
abbrev pub demands_of : Placed → List Demand
demands_of nothing = []
demands_of (itself ds rest) = ds ++ demands_of rest
demands_of (inside token part rest) = demands_of part ++ demands_of rest

-- ---- the lists

-- what a block of a step asks, where these labels are seen
abbrev pub Asks : Type 0
Asks = Scope → Data → List Demand

-- a block that a step may have
unfoldable pub block_asked_if : Asks → Scope → Option Data → List Demand
block_asked_if asks scope None = []
block_asked_if asks scope (Some d) = asks scope d

unfoldable pub if_asked : ℕ → Asks → Scope → Data → List Demand
if_asked version asks scope d =
    if_shape_asked d
    ++ one_more_node version ∷ []
    ++ seen_asked scope (if_label d)
    ++ test_asked version (subject_of (if_label d) scope) d
    ++ asks scope (part (codes "then") d)
    ++ block_asked_if asks scope (get (codes "else") d)

-- each reason is a name, and its block is one
abbrev pub member_asked : ℕ → Asks → Scope → List ℕ → Data → List Demand
member_asked version asks scope reason d = holds (is_name version reason) (Name version Handlers) ∷ asks scope d

abbrev pub members_asked : ℕ → Asks → Scope → Members → List Demand
members_asked version asks scope no_members = []
members_asked version asks scope (member reason d ds) = member_asked version asks scope reason d ++ members_asked version asks scope ds

unfoldable pub handlers_asked : ℕ → Asks → Scope → Option Members → List Demand
handlers_asked version asks scope None = []
handlers_asked version asks scope (Some ds) = members_asked version asks scope ds

-- a subaction, or a child whose earlier siblings have these labels
unfoldable pub sub_asked : ℕ → Asks → Scope → Scope → Data → List Demand
sub_asked version asks scope earlier d =
    sub_shape_asked version d
    ++ one_more_node version ∷ []
    ++ label_asked version scope earlier (label_in d)
    ++ asks scope (part (codes "sub") d)
    ++ handlers_asked version asks scope (handlers_in d)
    ++ block_asked_if asks scope (get (codes "handler") d)

-- the children, where their earlier siblings have these labels
abbrev pub children_asked : ℕ → Asks → Scope → Scope → Items → List Demand
children_asked version asks scope earlier no_items = []
children_asked version asks scope earlier (item d ds) = sub_asked version asks scope earlier d ++ children_asked version asks scope
    (with_label (label_in d) Outcome earlier) ds

unfoldable pub parallel_asked : ℕ → Asks → Scope → Data → List Demand
parallel_asked version asks scope d =
    parallel_shape_asked d
    ++ one_more_node version ∷ []
    ++ children_asked version asks scope [] (children_in d)

abbrev pub step_asked_by : Option Sort → Asks → Setting → Scope → Data → List Demand
step_asked_by None asks setting scope d = holds false (Shape shape.Sort) ∷ []
step_asked_by (Some an_operation) asks setting scope d = operation_asked setting scope d
step_asked_by (Some an_if) asks setting scope d = if_asked setting.version asks scope d
step_asked_by (Some a_sub) asks setting scope d = sub_asked setting.version asks scope [] d
step_asked_by (Some an_abort) asks setting scope d = abort_asked setting.version d
step_asked_by (Some a_parallel) asks setting scope d = parallel_asked setting.version asks scope d

unfoldable pub step_asked : Asks → Setting → Scope → Data → List Demand
step_asked asks setting scope d = step_asked_by (sort_of d) asks setting scope d

abbrev pub steps_asked : Asks → Setting → Scope → Items → List Demand
steps_asked asks setting scope no_items = []
steps_asked asks setting scope (item d ds) = step_asked asks setting scope d ++ steps_asked asks setting (scope_after setting scope d) ds

abbrev pub array_asked : (Items → List Demand) → Option Items → List Demand
array_asked asks None = holds false (Shape shape.Block) ∷ []
array_asked asks (Some ds) = asks ds

-- a block within so many more levels
unfoldable pub block_asked : Setting → ℕ → Asks
block_asked setting zero scope d = array_asked (λ ds. holds false Depth ∷ []) (as_array d)
block_asked setting (suc n) scope d = array_asked (steps_asked (block_asked setting n) setting scope) (as_array d)

-- the entries of a queue
abbrev pub entries_asked : ℕ → Items → List Demand
entries_asked version no_items = []
entries_asked version (item d ds) = entry_asked version d ++ entries_asked version ds

-- the entries of a set, which differ from these earlier ones
abbrev pub elements_asked : ℕ → Table → Items → List Demand
elements_asked version earlier no_items = []
elements_asked version earlier (item d ds) = element_asked version earlier d
    ++ elements_asked version (with_text (text_of d) earlier) ds

-- the entries of a directory, whose keys differ from these earlier ones
abbrev pub pairs_asked : ℕ → Table → Items → List Demand
pairs_asked version earlier no_items = []
pairs_asked version earlier (item d ds) = pair_asked version earlier d ++ pairs_asked version (with_text (key_of d) earlier) ds

unfoldable pub array_start_asked : Kind → (Items → List Demand) → Option Items → List Demand
array_start_asked k asks None = holds false (Start (Of k)) ∷ []
array_start_asked k asks (Some ds) = asks ds

abbrev pub form_asked : ℕ → Kind → ValueForm → Data → List Demand
form_asked version k (value_form.Number m) d = holds (is_some (number_start d)) (Start (Of k)) ∷ []
form_asked version k value_form.Signed d = holds (is_some (signed_start d)) (Start (Of k)) ∷ []
form_asked version k value_form.Set d = array_start_asked k (elements_asked version []) (as_array d)
form_asked version k value_form.Queue d = array_start_asked k (entries_asked version) (as_array d)
form_asked version k value_form.Directory d = array_start_asked k (pairs_asked version []) (as_array d)

unfoldable pub start_asked : ℕ → Kind → Data → List Demand
start_asked version k d = form_asked version k (form_of k) d

unfoldable pub object_asked : ℕ → Table → Data → List Demand
object_asked version names d =
    object_shape_asked version d
    ++ object_name_asked version names (object_name d)
    ++ start_asked version (kind_in version d) (part (codes "start") d)

-- the objects, where these names come before them
abbrev pub objects_asked : ℕ → Table → Items → List Demand
objects_asked version names no_items = []
objects_asked version names (item d ds) = object_asked version names d ++ objects_asked version (names ++ object_name d ∷ []) ds

-- a transaction by its number
abbrev pub transaction_asked : ℕ → Setting → Data → List Demand
transaction_asked n setting d = in_transaction n ∷ block_asked setting MAX_DEPTH [] d

-- the transactions from a number on
abbrev pub transactions_asked : ℕ → Setting → Items → List Demand
transactions_asked n setting no_items = []
transactions_asked n setting (item d ds) = transaction_asked n setting d ++ transactions_asked (n + 1) setting ds

-- all that is asked of a document
unfoldable pub asked : Data → List Demand
asked d =
    document_shape_asked d
    ++ objects_asked (version_in d) [] (objects_in d)
    ++ transactions_asked 1 (setting_in d) (transactions_in d)

-- ---- what is found is the first rule that isn't kept

-- what was found, without its place
abbrev pub told : Result Counts Found → Result Counts Failure
told (Ok c) = Ok c
told (Err found) = Err found.failure

told_below : (token : PathStep) (r : Result Counts Found) → told (below token r) ≡ told r
told_below token (Ok c) = refl
told_below token (Err found) = refl

told_here : (r : Result Counts Failure) → told (here r) ≡ r
told_here (Ok c) = refl
told_here (Err failure) = refl

told_on : (r : Result Counts Found) (asked : Placed) (ds : List Demand) → ((c : Counts) → told (seek c asked) ≡ check c ds)
    → told (go_on r (λ next. seek next asked)) ≡ and_check (told r) ds
told_on (Ok c) asked ds rest = rest c ∙ sym (check-after c ds)
told_on (Err found) asked ds rest = sym (failed-before found.failure ds)

-- the first rule that isn't kept, with its place and without it
pub told_first : (c : Counts) (asked : Placed) → told (seek c asked) ≡ check c (demands_of asked)
told_first c nothing = refl
told_first c (itself ds rest) =
    told_on (here (check c ds)) rest (demands_of rest) (λ next. told_first next rest)
    ∙ ap (λ r. and_check r (demands_of rest)) (told_here (check c ds))
    ∙ sym (check-append c ds (demands_of rest))
told_first c (inside token part rest) =
    told_on (below token (seek c part)) rest (demands_of rest) (λ next. told_first next rest)
    ∙ ap (λ r. and_check r (demands_of rest)) (told_below token (seek c part) ∙ told_first c part)
    ∙ sym (check-append c (demands_of part) (demands_of rest))

-- ---- the demands are those that are asked

-- the same demands of each block
abbrev pub Agrees : Places → Asks → Type 0
Agrees places asks = (scope : Scope) (d : Data) → demands_of (places scope d) ≡ asks scope d

-- three, four, five and six parts, whatever is put together first
three : (a b c : List Demand) → a ++ (b ++ c) ≡ a ++ b ++ c
three a b c = sym (append_assoc a b c)

four : (a b c d : List Demand) → a ++ (b ++ (c ++ d)) ≡ a ++ b ++ c ++ d
four a b c d = three a b (c ++ d) ∙ three (a ++ b) c d

five : (a b c d e : List Demand) → a ++ (b ++ (c ++ (d ++ e))) ≡ a ++ b ++ c ++ d ++ e
five a b c d e = four a b c (d ++ e) ∙ three (a ++ b ++ c) d e

six : (a b c d e f : List Demand) → a ++ (b ++ (c ++ (d ++ (e ++ f)))) ≡ a ++ b ++ c ++ d ++ e ++ f
six a b c d e f = five a b c d (e ++ f) ∙ three (a ++ b ++ c ++ d) e f

module _ (places : Places) (asks : Asks) (same : Agrees places asks) where
  block_if_same : (scope : Scope) (o : Option Data) → demands_of (block_placed_if places scope o) ≡ block_asked_if asks scope o
  unfolding block_placed_if block_asked_if
  block_if_same scope None = refl
  block_if_same scope (Some d) = same scope d

  if_same : (version : ℕ) (scope : Scope) (d : Data) → demands_of (if_placed version places scope d) ≡ if_asked version asks scope d
  unfolding if_placed if_asked
  if_same version scope d = rw (same, block_if_same, append-nil)
      (six (if_shape_asked d) (one_more_node version ∷ []) (seen_asked scope (if_label d))
      (test_asked version (subject_of (if_label d) scope) d) _ _)

  members_same : (version : ℕ) (scope : Scope) (ds : Members) → demands_of (members_placed version places scope ds)
      ≡ members_asked version asks scope ds
  members_same version scope no_members = refl
  members_same version scope (member reason d ds) = rw (same, members_same version scope ds) refl

  handlers_same : (version : ℕ) (scope : Scope) (o : Option Members) → demands_of (handlers_placed version places scope o)
      ≡ handlers_asked version asks scope o
  unfolding handlers_placed handlers_asked
  handlers_same version scope None = refl
  handlers_same version scope (Some ds) = members_same version scope ds

  sub_same : (version : ℕ) (scope earlier : Scope) (d : Data) → demands_of (sub_placed version places scope earlier d)
      ≡ sub_asked version asks scope earlier d
  unfolding sub_placed sub_asked
  sub_same version scope earlier d = rw (same, handlers_same, block_if_same, append-nil)
      (six (sub_shape_asked version d) (one_more_node version ∷ []) (label_asked version scope earlier (label_in d)) _ _ _)

  children_same : (version : ℕ) (scope earlier : Scope) (i : ℕ) (ds : Items)
      → demands_of (children_placed version places scope earlier i ds)
      ≡ children_asked version asks scope earlier ds
  children_same version scope earlier i no_items = refl
  children_same version scope earlier i (item d ds) = rw (
    sub_same,
    children_same version scope (with_label (label_in d) Outcome earlier)
        (i + 1) ds,
  ) refl

  parallel_same : (version : ℕ) (scope : Scope) (d : Data) → demands_of (parallel_placed version places scope d)
      ≡ parallel_asked version asks scope d
  unfolding parallel_placed parallel_asked
  parallel_same version scope d = rw (children_same, append-nil) (three (parallel_shape_asked d) (one_more_node version ∷ []) _)

  step_same_by : (sort : Option Sort) (setting : Setting) (scope : Scope) (d : Data)
      → demands_of (step_placed_by sort places setting scope d) ≡ step_asked_by sort asks setting scope d
  step_same_by None setting scope d = refl
  step_same_by (Some an_operation) setting scope d = append-nil _
  step_same_by (Some an_if) setting scope d = if_same setting.version scope d
  step_same_by (Some a_sub) setting scope d = sub_same setting.version scope [] d
  step_same_by (Some an_abort) setting scope d = append-nil _
  step_same_by (Some a_parallel) setting scope d = parallel_same setting.version scope d

  step_same : (setting : Setting) (scope : Scope) (d : Data) → demands_of (step_placed places setting scope d)
      ≡ step_asked asks setting scope d
  unfolding step_placed step_asked
  step_same setting scope d = step_same_by (sort_of d) setting scope d

  steps_same : (setting : Setting) (scope : Scope) (i : ℕ) (ds : Items) → demands_of (steps_placed places setting scope i ds)
      ≡ steps_asked asks setting scope ds
  steps_same setting scope i no_items = refl
  steps_same setting scope i (item d ds) = rw (step_same, steps_same setting (scope_after setting scope d) (i + 1) ds) refl

-- the items of an array, or the demand for one
array_same : (asks : Items → List Demand) (places : Items → Placed) (o : Option Items) → ((ds : Items) → demands_of (places ds) ≡ asks ds)
    → demands_of (array_placed (Shape shape.Block) places o) ≡ array_asked asks o
array_same asks places None same = refl
array_same asks places (Some ds) same = same ds

list_same : (k : Kind) (asks : Items → List Demand) (places : Items → Placed) (o : Option Items)
    → ((ds : Items) → demands_of (places ds) ≡ asks ds) → demands_of (array_placed (Start (Of k)) places o) ≡ array_start_asked k asks o
unfolding array_start_asked
list_same k asks places None same = refl
list_same k asks places (Some ds) same = same ds

block_same : (setting : Setting) (n : ℕ) → Agrees (block_placed setting n) (block_asked setting n)
unfolding block_placed block_asked
block_same setting zero scope d = array_same (λ ds. holds false Depth ∷ []) (λ ds. itself (holds false Depth ∷ []) nothing) (as_array d)
    (λ ds. refl)
block_same setting (suc n) scope d = array_same (steps_asked (block_asked setting n) setting scope)
    (steps_placed (block_placed setting n) setting scope 0) (as_array d)
    (steps_same (block_placed setting n) (block_asked setting n) (block_same setting n) setting scope 0)

entries_same : (version i : ℕ) (ds : Items) → demands_of (entries_placed version i ds) ≡ entries_asked version ds
entries_same version i no_items = refl
entries_same version i (item d ds) = rw (append-nil, entries_same version (i + 1) ds) refl

elements_same : (version : ℕ) (earlier : Table) (i : ℕ) (ds : Items) → demands_of (elements_placed version earlier i ds)
    ≡ elements_asked version earlier ds
elements_same version earlier i no_items = refl
elements_same version earlier i (item d ds) = rw (append-nil, elements_same version (with_text (text_of d) earlier) (i + 1) ds) refl

pairs_same : (version : ℕ) (earlier : Table) (i : ℕ) (ds : Items) → demands_of (pairs_placed version earlier i ds)
    ≡ pairs_asked version earlier ds
pairs_same version earlier i no_items = refl
pairs_same version earlier i (item d ds) = rw (append-nil, pairs_same version (with_text (key_of d) earlier) (i + 1) ds) refl

form_same : (version : ℕ) (k : Kind) (form : ValueForm) (d : Data)
    → demands_of (form_placed version k form d) ≡ form_asked version k form d
form_same version k (value_form.Number m) d = refl
form_same version k value_form.Signed d = refl
form_same version k value_form.Set d = list_same k (elements_asked version []) (elements_placed version [] 0) (as_array d)
    (elements_same version [] 0)
form_same version k value_form.Queue d = list_same k (entries_asked version) (entries_placed version 0) (as_array d)
    (entries_same version 0)
form_same version k value_form.Directory d = list_same k (pairs_asked version []) (pairs_placed version [] 0) (as_array d)
    (pairs_same version [] 0)

start_same : (version : ℕ) (k : Kind) (d : Data) → demands_of (start_placed version k d) ≡ start_asked version k d
unfolding start_placed start_asked
start_same version k d = form_same version k (form_of k) d

object_same : (version : ℕ) (names : Table) (d : Data) → demands_of (object_placed version names d) ≡ object_asked version names d
unfolding object_placed object_asked
object_same version names d = rw (start_same, append-nil)
    (three (object_shape_asked version d) (object_name_asked version names (object_name d)) _)

pub objects_same : (version : ℕ) (names : Table) (i : ℕ) (ds : Items) → demands_of (objects_placed version names i ds)
    ≡ objects_asked version names ds
objects_same version names i no_items = refl
objects_same version names i (item d ds) = rw (object_same, objects_same version (names ++ object_name d ∷ []) (i + 1) ds) refl

pub transactions_same : (setting : Setting) (i : ℕ) (ds : Items) → demands_of (transactions_placed setting i ds) ≡ transactions_asked
    (i + 1) setting ds
transactions_same setting i no_items = refl
transactions_same setting i (item d ds) = rw (block_same, transactions_same setting (i + 1) ds) refl

-- the demands of a document
pub placed_same : (d : Data) → demands_of (placed d) ≡ asked d
unfolding placed asked
placed_same d = rw (objects_same, transactions_same, append-nil) (three (document_shape_asked d) _ _)

-- ---- a document without a fault

met_of : (r : Result Counts Found) → fault_in r ≡ None → (next : Counts) × (r ≡ Ok next)
met_of (Ok next) none = (next, refl)
met_of (Err found) none = cc

-- a document with no fault meets all its demands
pub faultless : (d : Data) → first_fault (placed d) ≡ None → (next : Counts) × (check no_counts (asked d) ≡ Ok next)
faultless d none =
    let met = met_of (seek no_counts (placed d)) none in (
      met.0,
      ap (check no_counts) (sym (placed_same d)) ∙ sym (told_first no_counts (placed d)) ∙ ap told met.1,
    )

none_of : (r : Result Counts Found) (next : Counts) → told r ≡ Ok next → fault_in r ≡ None
none_of (Ok c) next met = refl
none_of (Err found) next met = cc

-- and one that meets all its demands has none
pub met_faultless : (d : Data) (next : Counts) → check no_counts (asked d) ≡ Ok next → first_fault (placed d) ≡ None
met_faultless d next met = none_of (seek no_counts (placed d)) next
    (told_first no_counts (placed d) ∙ ap (check no_counts) (placed_same d) ∙ met)
