-- What is asked and spelled of the objects.
use Rattle.std.specs.FinSet as finite_set
use Rattle.std.specs.FinMap as finite_map
use Rattle.std.specs.Prelude.{codes, not}
use Rattle.std.proofs.Common.{◌≡◌, ℕ, ◌+◌, refl, List, [], ◌∷◌, ◌++◌, append_assoc}
use Rattle.std.proofs.lemmas.List.{append-nil}
use Rattle.serde_json.specs.Data.{Data, Items, no_items, item}
use Rattle.serde_json.specs.Find.{as_array, as_str, get}
use Rattle.objects.specs.declared.kind.Kind.{Kind}
use Rattle.objects.specs.declared.kind.ValueForm.{ValueForm}
use Rattle.objects.specs.declared.kind.ValueForm.TheVariants as value_form
use Rattle.objects.specs.Objects.{form_of}
use Rattle.objects.specs.declared.kind.Value.{Value}
use Rattle.objects.specs.declared.kind.Value.TheVariants as value
use Rattle.batch.specs.Names.{is_name}
use Rattle.doc_rules.specs.declared.rule.Rule.TheVariants.{Start}
use Rattle.doc_rules.specs.declared.rule.StartRule.TheVariants.{Of}
use Rattle.doc_rules.specs.Forms.{member_names}
use Rattle.doc_rules.specs.declared.form.Form.TheVariants as form
use Rattle.doc_tree.specs.Asked.{element_asked, entry_asked, has_count, key_of, kind_in, names_of, number_start, object_kind, object_name}
use Rattle.doc_tree.specs.Asked.{object_name_asked, object_shape_asked, or_no_items, pair_asked, part, signed_start, text_of}
use Rattle.doc_tree.specs.Demand.{one_more_start}
use Rattle.doc_tree.specs.Look.{has_only, text_item, text_member}
use Rattle.doc_tree.specs.Places.{Placed, array_placed, elements_placed, entries_placed, itself, member_named, nothing, object_placed}
use Rattle.doc_tree.specs.Places.{objects_placed, pairs_placed, form_placed, seek, start_placed}
use Rattle.doc_tree.specs.Scope.{Numbers, Table, is_listed, with_item, with_text}
use Rattle.doc_tree.specs.Spelled.{bind_all, entries_of, item_of, pair_of, pairs_of, put_all, form_start, start_of, starts_of}
use Rattle.doc_language.specs.Document.{array_start, element_in, entry_in, form_in, object_in, pair_in, start_in}
use Rattle.doc_language.specs.Reading.{Reading, Seen, each}
use Rattle.doc_language.proofs.Joined.{after_is, answer, asks_is, counted_is, each_is, inside_is, left_by, needs_is, seen_of}

-- an entry of a queue
entry_reads : (version : ℕ) (earlier : Table) (d : Data) (seen : Seen) → entry_in version earlier d seen
    ≡ answer (seek seen.counts (itself (entry_asked version d) nothing)) (item_of (text_of d) seen.numbers, earlier)
    (with_item (text_of d) seen.numbers)
unfolding entry_asked
entry_reads version earlier d seen =
    needs_is (as_str d) _ (λ no. rw no) (λ name there. rw there (
    asks_is (is_name version name) _ (λ no. rw no) (λ is. rw is (
    counted_is (one_more_start version) _ seen (λ e over. rw over) (λ c within. rw within)))))

-- the entries of a queue from an index on
entries_read : (version : ℕ) (earlier : Table) (i : ℕ) (ds : Items) (seen : Seen) → each (entry_in version) i earlier ds seen
    ≡ answer (seek seen.counts (entries_placed version i ds)) ((entries_of seen.numbers ds).0, earlier) (entries_of seen.numbers ds).1
entries_read version earlier i no_items seen = refl
entries_read version earlier i (item d ds) seen =
    each_is (entry_in version) i earlier d ds seen (seek seen.counts (itself (entry_asked version d) nothing))
    (λ c. seek c (entries_placed version (i + 1) ds)) _ _ _ _ (entry_reads version earlier d seen)
    (λ c. entries_read version earlier (i + 1) ds (seen_of c (with_item (text_of d) seen.numbers)))

-- an item of a set, and the items up to it
element_reads : (version : ℕ) (earlier : Table) (d : Data) (seen : Seen) → element_in version earlier d seen
    ≡ answer (seek seen.counts (itself (element_asked version earlier d) nothing))
    (item_of (text_of d) seen.numbers, with_text (text_of d) earlier) (with_item (text_of d) seen.numbers)
unfolding element_asked
element_reads version earlier d seen =
    needs_is (as_str d) _ (λ no. rw no) (λ name there. rw there (
    asks_is (is_name version name) _ (λ no. rw no) (λ is. rw is (
    asks_is (not (is_listed name earlier)) _ (λ no. rw no) (λ new. rw new (
    counted_is (one_more_start version) _ seen (λ e over. rw over) (λ c within. rw within)))))))

-- the items of a set from an index on
elements_read : (version : ℕ) (earlier : Table) (i : ℕ) (ds : Items) (seen : Seen) → each (element_in version) i earlier ds seen
    ≡ answer (seek seen.counts (elements_placed version earlier i ds))
    ((entries_of seen.numbers ds).0, left_by (λ earlier d. with_text (text_of d) earlier) earlier ds) (entries_of seen.numbers ds).1
elements_read version earlier i no_items seen = refl
elements_read version earlier i (item d ds) seen =
    let after = with_text (text_of d) earlier in
    each_is (element_in version) i earlier d ds seen (seek seen.counts (itself (element_asked version earlier d) nothing))
    (λ c. seek c (elements_placed version after (i + 1) ds)) _ _ _ _ (element_reads version earlier d seen)
    (λ c. elements_read version after (i + 1) ds (seen_of c (with_item (text_of d) seen.numbers)))

-- a pair of a directory, and the keys up to it
pair_reads : (version : ℕ) (earlier : Table) (d : Data) (seen : Seen) → pair_in version earlier d seen
    ≡ answer (seek seen.counts (itself (pair_asked version earlier d) nothing))
    ((pair_of seen.numbers d).0, with_text (key_of d) earlier) (pair_of seen.numbers d).1
unfolding pair_asked
pair_reads version earlier d seen =
    asks_is (has_count 2 d) _ (λ no. rw no) (λ is. rw is (
    needs_is (text_item 0 d) _ (λ no. rw no) (λ key there. rw there (
    needs_is (text_item 1 d) _ (λ no. rw no) (λ name there. rw there (
    asks_is (is_name version key) _ (λ no. rw no) (λ is. rw is (
    asks_is (is_name version name) _ (λ no. rw no) (λ is. rw is (
    asks_is (not (is_listed key earlier)) _ (λ no. rw no) (λ new. rw new (
    counted_is (one_more_start version) _ seen (λ e over. rw over) (λ c within. rw within)))))))))))))

-- the pairs of a directory from an index on
pairs_read : (version : ℕ) (earlier : Table) (i : ℕ) (ds : Items) (seen : Seen) → each (pair_in version) i earlier ds seen
    ≡ answer (seek seen.counts (pairs_placed version earlier i ds))
    ((pairs_of seen.numbers ds).0, left_by (λ earlier d. with_text (key_of d) earlier) earlier ds) (pairs_of seen.numbers ds).1
pairs_read version earlier i no_items seen = refl
pairs_read version earlier i (item d ds) seen =
    let after = with_text (key_of d) earlier in
    each_is (pair_in version) i earlier d ds seen (seek seen.counts (itself (pair_asked version earlier d) nothing))
    (λ c. seek c (pairs_placed version after (i + 1) ds)) _ _ _ _ (pair_reads version earlier d seen)
    (λ c. pairs_read version after (i + 1) ds (seen_of c (pair_of seen.numbers d).1))

-- the items of an array that an object starts with
array_reads : {A : Type 0} (k : Kind) (entry : Table → Data → Reading (A × Table)) (valued : List A → Value) (places : Items → Placed)
    (spelling : Numbers → Items → List A × Numbers) (last : Items → Table)
    → ((ds : Items) (seen : Seen) → each entry 0 [] ds seen
    ≡ answer (seek seen.counts (places ds)) ((spelling seen.numbers ds).0, last ds) (spelling seen.numbers ds).1)
    → (d : Data) (seen : Seen) → array_start k entry valued d seen
    ≡ answer (seek seen.counts (array_placed (Start (Of k)) places (as_array d)))
    (valued (spelling seen.numbers (or_no_items (as_array d))).0) (spelling seen.numbers (or_no_items (as_array d))).1
array_reads k entry valued places spelling last reads d seen =
    needs_is (as_array d) _ (λ no. rw no) (λ ds there. rw there (
    after_is (each entry 0 [] ds) _ (seek seen.counts (places ds)) (reads ds seen) (λ found failed. rw failed) (λ c met. rw met)))

-- what an object of a kind of this form starts with
form_reads : (version : ℕ) (k : Kind) (form : ValueForm) (d : Data) (seen : Seen) → form_in version k form d seen
    ≡ answer (seek seen.counts (form_placed version k form d)) (form_start form seen.numbers d).0 (form_start form seen.numbers d).1
form_reads version k (value_form.Number m) d seen = needs_is (number_start d) _ (λ no. rw no) (λ n there. rw there)
form_reads version k value_form.Signed d seen = needs_is (signed_start d) _ (λ no. rw no) (λ n there. rw there)
form_reads version k value_form.Set d seen = array_reads k (element_in version) (λ items. value.Set (put_all finite_set.empty items))
    (elements_placed version [] 0) entries_of (left_by (λ earlier d. with_text (text_of d) earlier) []) (elements_read version [] 0) d seen
form_reads version k value_form.Queue d seen = array_reads k (entry_in version) value.Queue (entries_placed version 0) entries_of
    (λ ds. [])
    (entries_read version [] 0) d seen
form_reads version k value_form.Directory d seen = array_reads k (pair_in version)
    (λ pairs. value.Directory (bind_all finite_map.empty pairs))
    (pairs_placed version [] 0) pairs_of (left_by (λ earlier d. with_text (key_of d) earlier) []) (pairs_read version [] 0) d seen

-- what an object of a kind starts with
start_reads : (version : ℕ) (k : Kind) (d : Data) (seen : Seen) → start_in version k d seen
    ≡ answer (seek seen.counts (start_placed version k d)) (start_of k seen.numbers d).0 (start_of k seen.numbers d).1
unfolding start_in start_placed start_of
start_reads version k d seen = form_reads version k (form_of k) d seen

-- an object, and the names up to it
object_reads : (version : ℕ) (names : Table) (d : Data) (seen : Seen) → object_in version names d seen
    ≡ answer (seek seen.counts (object_placed version names d))
    ((start_of (kind_in version d) seen.numbers (part (codes "start") d)).0, names ++ object_name d ∷ [])
    (start_of (kind_in version d) seen.numbers (part (codes "start") d)).1
unfolding object_in object_placed object_shape_asked object_name_asked
object_reads version names d seen =
    asks_is (has_only (member_names form.Object) d) _ (λ no. rw no) (λ is. rw is (
    needs_is (text_member (codes "name") d) _ (λ no. rw no) (λ name there. rw there (
    needs_is (object_kind version d) _ (λ no. rw no) (λ k there. rw there (
    needs_is (get (codes "start") d) _ (λ no. rw no) (λ start there. rw there (
    asks_is (is_name version name) _ (λ no. rw no) (λ is. rw is (
    asks_is (not (is_listed name names)) _ (λ no. rw no) (λ new. rw new (
    inside_is (member_named (codes "start")) (start_in version k start) _ (seek seen.counts (start_placed version k start))
    (start_reads version k start seen) (λ found failed. rw failed) (λ c met. rw met)))))))))))))

-- the objects, and their names after those before
pub objects_read : (version : ℕ) (names : Table) (i : ℕ) (ds : Items) (seen : Seen) → each (object_in version) i names ds seen
    ≡ answer (seek seen.counts (objects_placed version names i ds)) ((starts_of version seen.numbers ds).0, names ++ names_of ds)
    (starts_of version seen.numbers ds).1
objects_read version names i no_items seen = rw (append-nil names)
objects_read version names i (item d ds) seen =
    let after = names ++ object_name d ∷ [] in
    rw (← append_assoc names (object_name d ∷ []) (names_of ds))
    (each_is (object_in version) i names d ds seen (seek seen.counts (object_placed version names d))
    (λ c. seek c (objects_placed version after (i + 1) ds)) _ _ _ _ (object_reads version names d seen)
    (λ c. objects_read version after (i + 1) ds (seen_of c (start_of (kind_in version d) seen.numbers (part (codes "start") d)).1)))
