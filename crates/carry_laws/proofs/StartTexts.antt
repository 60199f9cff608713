-- The objects of a document number few texts, and no reason.
use Rattle.std.proofs.Common.{◌≡◌, ℕ, ◌*◌, [], ◌∷◌, ◌++◌, Option, None, Some, refl, ◌∙◌, arith}
use Rattle.std.specs.Prelude.{codes}
use Rattle.serde_json.specs.Data.{Data, Items, no_items, item}
use Rattle.serde_json.specs.Find.{as_array}
use Rattle.objects.specs.declared.kind.Kind.{Kind}
use Rattle.objects.specs.declared.kind.ValueForm.{ValueForm}
use Rattle.objects.specs.declared.kind.ValueForm.TheVariants as value_form
use Rattle.objects.specs.Objects.{form_of}
use Rattle.doc_tree.specs.Asked.{element_asked, entry_asked, key_of, kind_in, object_name, object_name_asked, object_shape_asked}
use Rattle.doc_tree.specs.Asked.{or_no_items, pair_asked, part, text_of, value_of}
use Rattle.doc_tree.specs.Scope.{Numbers, Table, with_item, with_text}
use Rattle.doc_tree.specs.Spelled.{entries_of, form_start, pair_of, pairs_of, start_of, starts_of}
use Rattle.doc_tree.proofs.Demands.{array_start_asked, elements_asked, entries_asked, form_asked, object_asked, objects_asked}
use Rattle.doc_tree.proofs.Demands.{pairs_asked, start_asked}
use Rattle.doc_tree.proofs.MetLemmas.{What, count, count-append}
use Rattle.doc_merge.proofs.Growing.{Longer, longer_item, longer_none, longer_on}

-- two texts at most for each entry that is counted
abbrev twice : ℕ → ℕ
twice n = 2 * n

-- the items of a queue, of a set, and the pairs of a directory
entries_longer : (version : ℕ) (numbers : Numbers) (ds : Items)
    → Longer (twice (count What.starts (entries_asked version ds))) numbers (entries_of numbers ds).1
unfolding entry_asked
entries_longer version numbers no_items = longer_none 0 numbers
entries_longer version numbers (item d ds) =
    let next = with_item (text_of d) numbers in
    let few = count-append What.starts (entry_asked version d) (entries_asked version ds) in
    longer_on 1 (twice (count What.starts (entries_asked version ds))) _ numbers next _ (omega (arith, few))
    (longer_item (text_of d) numbers) (entries_longer version next ds)

elements_longer : (version : ℕ) (earlier : Table) (numbers : Numbers) (ds : Items)
    → Longer (twice (count What.starts (elements_asked version earlier ds))) numbers (entries_of numbers ds).1
unfolding element_asked
elements_longer version earlier numbers no_items = longer_none 0 numbers
elements_longer version earlier numbers (item d ds) =
    let next = with_item (text_of d) numbers in
    let after = with_text (text_of d) earlier in
    let few = count-append What.starts (element_asked version earlier d) (elements_asked version after ds) in
    longer_on 1 (twice (count What.starts (elements_asked version after ds))) _ numbers next _ (omega (arith, few))
    (longer_item (text_of d) numbers) (elements_longer version after next ds)

pairs_longer : (version : ℕ) (earlier : Table) (numbers : Numbers) (ds : Items)
    → Longer (twice (count What.starts (pairs_asked version earlier ds))) numbers (pairs_of numbers ds).1
unfolding pair_asked
pairs_longer version earlier numbers no_items = longer_none 0 numbers
pairs_longer version earlier numbers (item d ds) =
    let between = with_item (key_of d) numbers in
    let next = with_item (value_of d) between in
    let after = with_text (key_of d) earlier in
    let few = count-append What.starts (pair_asked version earlier d) (pairs_asked version after ds) in
    longer_on 2 (twice (count What.starts (pairs_asked version after ds))) _ numbers next _ (omega (arith, few))
    (longer_on 1 1 2 numbers between next (omega arith) (longer_item (key_of d) numbers) (longer_item (value_of d) between))
    (pairs_longer version after next ds)

set_longer : (version : ℕ) (k : Kind) (numbers : Numbers) (o : Option Items)
    → Longer (twice (count What.starts (array_start_asked k (elements_asked version []) o))) numbers
    (entries_of numbers (or_no_items o)).1
unfolding array_start_asked
set_longer version k numbers None = longer_none 0 numbers
set_longer version k numbers (Some ds) = elements_longer version [] numbers ds

queue_longer : (version : ℕ) (k : Kind) (numbers : Numbers) (o : Option Items)
    → Longer (twice (count What.starts (array_start_asked k (entries_asked version) o))) numbers
    (entries_of numbers (or_no_items o)).1
unfolding array_start_asked
queue_longer version k numbers None = longer_none 0 numbers
queue_longer version k numbers (Some ds) = entries_longer version numbers ds

directory_longer : (version : ℕ) (k : Kind) (numbers : Numbers) (o : Option Items)
    → Longer (twice (count What.starts (array_start_asked k (pairs_asked version []) o))) numbers
    (pairs_of numbers (or_no_items o)).1
unfolding array_start_asked
directory_longer version k numbers None = longer_none 0 numbers
directory_longer version k numbers (Some ds) = pairs_longer version [] numbers ds

form_longer : (version : ℕ) (k : Kind) (form : ValueForm) (numbers : Numbers) (d : Data)
    → Longer (twice (count What.starts (form_asked version k form d))) numbers (form_start form numbers d).1
form_longer version k (value_form.Number m) numbers d = longer_none 0 numbers
form_longer version k value_form.Signed numbers d = longer_none 0 numbers
form_longer version k value_form.Set numbers d = set_longer version k numbers (as_array d)
form_longer version k value_form.Queue numbers d = queue_longer version k numbers (as_array d)
form_longer version k value_form.Directory numbers d = directory_longer version k numbers (as_array d)

start_longer : (version : ℕ) (k : Kind) (numbers : Numbers) (d : Data)
    → Longer (twice (count What.starts (start_asked version k d))) numbers (start_of k numbers d).1
unfolding start_of start_asked
start_longer version k numbers d = form_longer version k (form_of k) numbers d

pub starts_longer : (version : ℕ) (names : Table) (numbers : Numbers) (ds : Items)
    → Longer (twice (count What.starts (objects_asked version names ds))) numbers (starts_of version numbers ds).1
unfolding object_asked
starts_longer version names numbers no_items = longer_none 0 numbers
starts_longer version names numbers (item d ds) =
    let k = kind_in version d in
    let start = part (codes "start") d in
    let here = start_of k numbers start in
    let after = names ++ object_name d ∷ [] in
    let A = object_shape_asked version d in
    let B = object_name_asked version names (object_name d) in
    let C = start_asked version k start in
    let few = count-append What.starts (object_asked version names d) (objects_asked version after ds) in
    let all = count-append What.starts (A ++ B) C in
    longer_on (twice (count What.starts C)) (twice (count What.starts (objects_asked version after ds))) _ numbers here.1 _
    (omega (arith, few, all)) (start_longer version k numbers start) (starts_longer version after here.1 ds)

-- ---- reasons

-- no start has a reason
entries_reasons : (numbers : Numbers) (ds : Items) → (entries_of numbers ds).1.reasons ≡ numbers.reasons
entries_reasons numbers no_items = refl
entries_reasons numbers (item d ds) = entries_reasons (with_item (text_of d) numbers) ds

pairs_reasons : (numbers : Numbers) (ds : Items) → (pairs_of numbers ds).1.reasons ≡ numbers.reasons
pairs_reasons numbers no_items = refl
pairs_reasons numbers (item d ds) = pairs_reasons (pair_of numbers d).1 ds

form_reasons : (form : ValueForm) (numbers : Numbers) (d : Data) → (form_start form numbers d).1.reasons ≡ numbers.reasons
form_reasons (value_form.Number m) numbers d = refl
form_reasons value_form.Signed numbers d = refl
form_reasons value_form.Set numbers d = entries_reasons numbers (or_no_items (as_array d))
form_reasons value_form.Queue numbers d = entries_reasons numbers (or_no_items (as_array d))
form_reasons value_form.Directory numbers d = pairs_reasons numbers (or_no_items (as_array d))

start_reasons : (k : Kind) (numbers : Numbers) (d : Data) → (start_of k numbers d).1.reasons ≡ numbers.reasons
unfolding start_of
start_reasons k numbers d = form_reasons (form_of k) numbers d

pub starts_reasons : (version : ℕ) (numbers : Numbers) (ds : Items) → (starts_of version numbers ds).1.reasons ≡ numbers.reasons
starts_reasons version numbers no_items = refl
starts_reasons version numbers (item d ds) =
    let start = part (codes "start") d in
    let here = start_of (kind_in version d) numbers start in
    starts_reasons version here.1 ds ∙ start_reasons (kind_in version d) numbers start
