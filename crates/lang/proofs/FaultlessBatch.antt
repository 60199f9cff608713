-- What a document with no fault spells is a batch.
use Rattle.std.specs.FinMap as finite_map
use Rattle.std.specs.FinSet as finite_set
use Rattle.std.proofs.Common.{◌≡◌, ℕ, ◌+◌, ◌≤◌, ◌<◌, Bool, true, false, cond, ◌&&◌, List, [], ◌∷◌, ◌++◌, length, Option, None, Some, refl}
use Rattle.std.proofs.Common.{sym, ap, subst, ◌∙◌, arith}
use Rattle.std.specs.Prelude.{ℤ, pos, negsuc, nat_abs, nat_le, codes, unwrap_or, option_and_then}
use Rattle.std.proofs.lemmas.Bool.{leb-true, and_parts}
use Rattle.std.proofs.Math.Nat.{max-le}
use Rattle.serde_json.specs.Data.{Data, Items, no_items, item}
use Rattle.serde_json.specs.Find.{as_array}
use Rattle.serde_json.specs.Events.{items_len}
use Rattle.atoms.specs.Item.{item_cmp}
use Rattle.atoms.proofs.Items.{items_total}
use Rattle.atoms.specs.declared.item.Item.{Item}
use Rattle.objects.specs.declared.kind.Kind.{Kind}
use Rattle.objects.specs.declared.kind.ValueForm.{ValueForm}
use Rattle.objects.specs.declared.kind.ValueForm.TheVariants as value_form
use Rattle.objects.specs.Objects.{content_length, form_of}
use Rattle.objects.proofs.KindLemmas.{number_held}
use Rattle.meaning.specs.Trees as tree
use Rattle.meaning.specs.WellFormed.{content_size, largest, size_of}
use Rattle.meaning.specs.Running.{all_operations}
use Rattle.batch.specs.Limits.{AllWellFormed, AllShallow, IsBatch, all_nodes, all_entries_in, entries_in}
use Rattle.doc_tree.specs.Demand.{no_counts}
use Rattle.doc_tree.specs.Look
use Rattle.doc_tree.specs.Look.{whole}
use Rattle.meaning.specs.declared.limits.TheConstants.{MAX_DEPTH, MAX_ENTRIES, MAX_NODES, MAX_OPERATIONS, MAX_START}
use Rattle.doc_rules.specs.Limits.{limits_of}
use Rattle.doc_tree.specs.Scope.{Numbers, Setting, Table, no_numbers}
use Rattle.doc_tree.specs.Asked.{document_shape_asked, element_asked}
use Rattle.doc_tree.specs.Asked.{entry_asked, kind_in, kinds_of, names_of, number_start, object_name, object_name_asked}
use Rattle.doc_tree.specs.Asked.{object_shape_asked}
use Rattle.doc_tree.specs.Asked.{objects_in, or_no_items, pair_asked, part, setting_in}
use Rattle.doc_tree.specs.Asked.{signed_within}
use Rattle.doc_tree.specs.Asked.{text_of, key_of, transactions_in, version_in}
use Rattle.doc_tree.specs.Scope.{with_item, with_text}
use Rattle.doc_tree.specs.Spelled.{bind_all, block_of, blocks_of, document_in, entries_of, or_zero, pair_of, pairs_of, parts_in, put_all}
use Rattle.doc_tree.specs.Spelled.{form_start, start_of, starts_of}
use Rattle.lang.proofs.Faultless.{block_good, counted, most_labels}
use Rattle.lang.proofs.Later.{blocks_later, values_later}
use Rattle.doc_rules.proofs.LimitLemmas.{limits_within}
use Rattle.doc_tree.proofs.ListLemmas.{kinds_of_starts}
use Rattle.doc_tree.proofs.MetLemmas.{AllMet, What, count, count-append, first_met, passed, rest_met}
use Rattle.lang.proofs.Numbered.{blocks_numbered}
use Rattle.lang.proofs.NumberedStarts.{objects_named, starts_numbered}
use Rattle.lang.proofs.Tables.{grows_behind, grows_on, texts_in}
use Rattle.doc_tree.proofs.Demands.{array_start_asked, asked, block_asked, elements_asked, entries_asked, object_asked, objects_asked}
use Rattle.doc_tree.proofs.Demands.{form_asked, pairs_asked, start_asked, transactions_asked, faultless}
use Rattle.doc_tree.specs.Places.{first_fault, placed}

-- ---- transactions

-- what is known of the transactions
record GoodBlocks (ks : List Kind) (blocks : List tree.Block) (operations nodes : ℕ) : Type 0 where
  fit : AllWellFormed blocks ks
  shallow : AllShallow blocks
  operations_are : all_operations blocks ≡ operations
  nodes_are : all_nodes blocks ≡ nodes

blocks_good : (setting : Setting) → length setting.names ≡ length setting.kinds → (number : ℕ) (numbers : Numbers) (ds : Items)
    → counted (transactions_asked number setting ds) < most_labels → AllMet (transactions_asked number setting ds)
    → GoodBlocks setting.kinds (blocks_of setting numbers ds).0 (count What.operations (transactions_asked number setting ds))
    (count What.nodes (transactions_asked number setting ds))
blocks_good setting paired number numbers no_items few met = record { fit = tt; shallow = tt; operations_are = refl; nodes_are = refl }
blocks_good setting paired number numbers (item d ds) few met =
    let A = block_asked setting MAX_DEPTH [] d in
    let B = transactions_asked (number + 1) setting ds in
    let ops = count-append What.operations A B in
    let nds = count-append What.nodes A B in
    let here = block_good setting paired MAX_DEPTH [] numbers d [] refl (omega (arith, few, ops, nds)) (first_met A B met) in
    let rest = blocks_good setting paired (number + 1) (block_of setting MAX_DEPTH [] numbers d).1 ds (omega (arith, few, ops, nds))
    (rest_met A B met) in
    record {
      fit = (here.fits, rest.fit);
      shallow = (here.shallow, rest.shallow);
      operations_are = omega (arith, ops, here.operations_are, rest.operations_are);
      nodes_are = omega (arith, nds, here.nodes_are, rest.nodes_are);
    }

blocks_are_many : (setting : Setting) (numbers : Numbers) (ds : Items) → length (blocks_of setting numbers ds).0 ≡ items_len ds
blocks_are_many setting numbers no_items = refl
blocks_are_many setting numbers (item d ds) =
    let rest = blocks_are_many setting (block_of setting MAX_DEPTH [] numbers d).1 ds in omega arith

-- ---- objects

names_are_many : (ds : Items) → length (names_of ds) ≡ items_len ds
names_are_many no_items = refl
names_are_many (item d ds) = let rest = names_are_many ds in omega arith

kinds_are_many : (version : ℕ) (ds : Items) → length (kinds_of version ds) ≡ items_len ds
kinds_are_many version no_items = refl
kinds_are_many version (item d ds) = let rest = kinds_are_many version ds in omega arith

starts_are_many : (version : ℕ) (numbers : Numbers) (ds : Items) → length (starts_of version numbers ds).0 ≡ items_len ds
starts_are_many version numbers no_items = refl
starts_are_many version numbers (item d ds) = let rest = starts_are_many version
    (start_of (kind_in version d) numbers (part (codes "start") d)).1 ds in omega arith

-- ---- starting entries

entry_counts : (version : ℕ) (d : Data) → count What.starts (entry_asked version d) ≡ 1
unfolding entry_asked
entry_counts version d = refl

element_counts : (version : ℕ) (earlier : Table) (d : Data) → count What.starts (element_asked version earlier d) ≡ 1
unfolding element_asked
element_counts version earlier d = refl

pair_counts : (version : ℕ) (earlier : Table) (d : Data) → count What.starts (pair_asked version earlier d) ≡ 1
unfolding pair_asked
pair_counts version earlier d = refl

entries_count : (version : ℕ) (numbers : Numbers) (ds : Items) → length (entries_of numbers ds).0 ≡ count What.starts
    (entries_asked version ds)
entries_count version numbers no_items = refl
entries_count version numbers (item d ds) = let rest = entries_count version (with_item (text_of d) numbers) ds in
    omega (arith, rest, entry_counts version d, count-append What.starts (entry_asked version d) (entries_asked version ds))

elements_count : (version : ℕ) (numbers : Numbers) (earlier : Table) (ds : Items) → length (entries_of numbers ds).0 ≡ count What.starts
    (elements_asked version earlier ds)
elements_count version numbers earlier no_items = refl
elements_count version numbers earlier (item d ds) =
    let next = with_text (text_of d) earlier in
    let rest = elements_count version (with_item (text_of d) numbers) next ds in
    omega (
      arith,
      rest,
      element_counts version earlier d,
      count-append What.starts (element_asked version earlier d) (elements_asked version next ds),
    )

pairs_count : (version : ℕ) (numbers : Numbers) (earlier : Table) (ds : Items) → length (pairs_of numbers ds).0 ≡ count What.starts
    (pairs_asked version earlier ds)
pairs_count version numbers earlier no_items = refl
pairs_count version numbers earlier (item d ds) =
    let next = with_text (key_of d) earlier in
    let rest = pairs_count version (pair_of numbers d).1 next ds in
    omega (
      arith,
      rest,
      pair_counts version earlier d,
      count-append What.starts (pair_asked version earlier d) (pairs_asked version next ds),
    )

-- a set and a map have no more entries than were put in
insert_len : (s : finite_set.FinSet item_cmp) (x : Item) → finite_set.len (finite_set.insert s x) ≤ finite_set.len s + 1
insert_len s x = by (finite_set.contains s x) (finite_set.len-insert items_total s x)
  where
    by : (b : Bool) → finite_set.len (finite_set.insert s x) ≡ cond b (finite_set.len s) (finite_set.len s + 1)
        → finite_set.len (finite_set.insert s x) ≤ finite_set.len s + 1
    by true e = omega arith
    by false e = omega arith

put_all_len : (s : finite_set.FinSet item_cmp) (xs : List Item) → finite_set.len (put_all s xs) ≤ finite_set.len s + length xs
put_all_len s [] = omega arith
put_all_len s (x ∷ xs) = omega (arith, put_all_len (finite_set.insert s x) xs, insert_len s x)

bind_len : (m : finite_map.FinMap item_cmp Item) (k v : Item) → finite_map.len (finite_map.insert m k v) ≤ finite_map.len m + 1
bind_len m k v = by (finite_map.contains_key m k) (finite_map.len-insert items_total m k v)
  where
    by : (b : Bool) → finite_map.len (finite_map.insert m k v) ≡ cond b (finite_map.len m) (finite_map.len m + 1)
        → finite_map.len (finite_map.insert m k v) ≤ finite_map.len m + 1
    by true e = omega arith
    by false e = omega arith

bind_all_len : (m : finite_map.FinMap item_cmp Item) (es : List (Item × Item))
    → finite_map.len (bind_all m es) ≤ finite_map.len m + length es
bind_all_len m [] = omega arith
bind_all_len m (e ∷ es) = omega (arith, bind_all_len (finite_map.insert m e.0 e.1) es, bind_len m e.0 e.1)

set_start : (version : ℕ) (k : Kind) (numbers : Numbers) (o : Option Items)
    → finite_set.len (put_all finite_set.empty (entries_of numbers (or_no_items o)).0)
    ≤ count What.starts (array_start_asked k (elements_asked version []) o)
unfolding array_start_asked
set_start version k numbers None = omega (arith, finite_set.len-empty item_cmp)
set_start version k numbers (Some ds) = omega (
  arith,
  finite_set.len-empty item_cmp,
  put_all_len finite_set.empty (entries_of numbers ds).0,
  elements_count version numbers [] ds,
)

queue_start : (version : ℕ) (k : Kind) (numbers : Numbers) (o : Option Items)
    → length (entries_of numbers (or_no_items o)).0 ≤ count What.starts
    (array_start_asked k (entries_asked version) o)
unfolding array_start_asked
queue_start version k numbers None = omega arith
queue_start version k numbers (Some ds) = omega (arith, entries_count version numbers ds)

directory_start : (version : ℕ) (k : Kind) (numbers : Numbers) (o : Option Items)
    → finite_map.len (bind_all finite_map.empty (pairs_of numbers (or_no_items o)).0)
    ≤ count What.starts (array_start_asked k (pairs_asked version []) o)
unfolding array_start_asked
directory_start version k numbers None = omega (arith, finite_map.len-empty item_cmp Item)
directory_start version k numbers (Some ds) = omega (
  arith,
  finite_map.len-empty item_cmp Item,
  bind_all_len finite_map.empty
      (pairs_of numbers ds).0,
  pairs_count version numbers [] ds,
)

form_counts : (version : ℕ) (k : Kind) (form : ValueForm) (numbers : Numbers) (d : Data)
    → entries_in (form_start form numbers d).0 ≤ count What.starts (form_asked version k form d)
form_counts version k (value_form.Number m) numbers d = omega (arith, ap content_length (number_held m (or_zero (number_start d))))
form_counts version k value_form.Signed numbers d = omega arith
form_counts version k value_form.Set numbers d = set_start version k numbers (as_array d)
form_counts version k value_form.Queue numbers d = queue_start version k numbers (as_array d)
form_counts version k value_form.Directory numbers d = directory_start version k numbers (as_array d)

start_counts : (version : ℕ) (k : Kind) (numbers : Numbers) (d : Data)
    → entries_in (start_of k numbers d).0 ≤ count What.starts (start_asked version k d)
unfolding start_of start_asked
start_counts version k numbers d = form_counts version k (form_of k) numbers d

object_counts : (version : ℕ) (names : Table) (numbers : Numbers) (d : Data)
    → entries_in (start_of (kind_in version d) numbers (part (codes "start") d)).0 ≤ count What.starts (object_asked version names d)
unfolding object_asked
object_counts version names numbers d =
    let A = object_shape_asked version d in
    let B = object_name_asked version names (object_name d) in
    let C = start_asked version (kind_in version d) (part (codes "start") d) in
    omega (arith, start_counts version (kind_in version d) numbers (part (codes "start") d), count-append What.starts (A ++ B) C)

starts_count : (version : ℕ) (names : Table) (numbers : Numbers) (ds : Items)
    → all_entries_in (starts_of version numbers ds).0 ≤ count What.starts (objects_asked version names ds)
starts_count version names numbers no_items = omega arith
starts_count version names numbers (item d ds) =
    let next = names ++ object_name d ∷ [] in
    let rest = starts_count version next (start_of (kind_in version d) numbers (part (codes "start") d)).1 ds in
    omega (
      arith,
      rest,
      object_counts version names numbers d,
      count-append What.starts (object_asked version names d)
          (objects_asked version next ds),
    )

-- ---- starting numbers

-- a number that is there within bounds is at most the upper one
at_most : (high : ℕ) (o : Option ℤ) → or_zero (option_and_then (Look.within 0 high) o) ≤ high
at_most high None = omega arith
at_most high (Some (negsuc n)) = omega arith
at_most high (Some (pos n)) = by (nat_le 0 n && nat_le n high) refl
  where
    by : (b : Bool) → (nat_le 0 n && nat_le n high) ≡ b → or_zero (cond b (Some n) None) ≤ high
    by true e = leb-true n high (and_parts (nat_le 0 n) (nat_le n high) e).1
    by false e = omega arith

signed_at_most : (most : ℕ) (o : Option ℤ) → nat_abs (unwrap_or (option_and_then (signed_within most) o) (pos 0)) ≤ most
signed_at_most most None = omega arith
signed_at_most most (Some z) = by (nat_le (nat_abs z) most) refl
  where
    by : (b : Bool) → nat_le (nat_abs z) most ≡ b → nat_abs (unwrap_or (cond b (Some z) None) (pos 0)) ≤ most
    by true e = leb-true (nat_abs z) most e
    by false e = omega arith

form_is_small : (form : ValueForm) (numbers : Numbers) (d : Data) → size_of (form_start form numbers d).0 ≤ MAX_START
form_is_small (value_form.Number m) numbers d = subst (λ c. content_size c ≤ MAX_START) (sym (number_held m (or_zero (number_start d))))
    (at_most MAX_START (whole d))
form_is_small value_form.Signed numbers d = signed_at_most MAX_START (whole d)
form_is_small value_form.Set numbers d = omega arith
form_is_small value_form.Queue numbers d = omega arith
form_is_small value_form.Directory numbers d = omega arith

start_is_small : (k : Kind) (numbers : Numbers) (d : Data) → size_of (start_of k numbers d).0 ≤ MAX_START
unfolding start_of
start_is_small k numbers d = form_is_small (form_of k) numbers d

starts_are_small : (version : ℕ) (numbers : Numbers) (ds : Items) → largest (starts_of version numbers ds).0 ≤ MAX_START
starts_are_small version numbers no_items = omega arith
starts_are_small version numbers (item d ds) =
    max-le (start_is_small (kind_in version d) numbers (part (codes "start") d))
    (starts_are_small version (start_of (kind_in version d) numbers (part (codes "start") d)).1 ds)

-- ---- the document

-- its objects and transactions are within its version's limits
pub few : (d : Data) → AllMet (document_shape_asked d) → (items_len (objects_in d) ≤ (limits_of (version_in d)).objects)
    × (items_len (transactions_in d) ≤ (limits_of (version_in d)).transactions)
unfolding document_shape_asked
few d met =
    let limits = limits_of (version_in d) in (
      leb-true (items_len (objects_in d)) limits.objects met.1.1.1.1.0,
      leb-true (items_len (transactions_in d)) limits.transactions met.1.1.1.1.1.0,
    )

met_is_batch : (d : Data) → AllMet (asked d) → count What.starts (asked d) ≤ MAX_ENTRIES
    → count What.operations (asked d) ≤ MAX_OPERATIONS → count What.nodes (asked d) ≤ MAX_NODES
    → IsBatch (document_in d).version (document_in d).start (document_in d).texts (document_in d).transactions
unfolding asked document_in parts_in
met_is_batch d met few_starts few_operations few_nodes =
    let setting = setting_in d in
    let version = version_in d in
    let A = document_shape_asked d in
    let B = objects_asked version [] (objects_in d) in
    let C = transactions_asked 1 setting (transactions_in d) in
    let names = names_are_many (objects_in d) in
    let many = starts_are_many version no_numbers (objects_in d) in
    let paired : length setting.names ≡ length setting.kinds = names ∙ sym (kinds_are_many version (objects_in d)) in
    let here = few d (first_met A B (first_met (A ++ B) C met)) in
    let limits = limits_within version in
    let ops = count-append What.operations (A ++ B) C in
    let nds = count-append What.nodes (A ++ B) C in
    let after = (starts_of version no_numbers (objects_in d)).1 in
    let good = blocks_good setting paired 1 after (transactions_in d) (omega (arith, ops, nds, few_operations, few_nodes))
    (rest_met (A ++ B) C met) in
    let texts = (document_in d).texts in
    let starts = starts_numbered version [] no_numbers (objects_in d) in
    let transactions = blocks_numbered setting 1 after (transactions_in d) in
    let last = (blocks_of setting after (transactions_in d)).1 in
    let all = grows_on no_numbers after last (A ++ B) C (grows_behind no_numbers after A B starts.grows) transactions.grows in
    record {
      well_formed = subst (AllWellFormed (blocks_of setting after (transactions_in d)).0)
          (sym (kinds_of_starts version no_numbers (objects_in d))) good.fit;
      named = names ∙ sym many;
      named_starts = values_later (texts_in after) texts transactions.grows.items transactions.grows.reasons
          (starts_of version no_numbers (objects_in d)).0 starts.named;
      named_transactions = blocks_later (texts_in last) texts (omega arith) (omega arith) (blocks_of setting after (transactions_in d)).0
          transactions.named;
      object_names = objects_named version [] (objects_in d) (rest_met A B (first_met (A ++ B) C met));
      item_names = all.item_names met refl;
      reason_names = all.reason_names met refl;
      few_objects = omega (arith, many, here.0, limits.objects);
      few_transactions = omega (arith, blocks_are_many setting after (transactions_in d), here.1, limits.transactions);
      few_operations = omega (arith, few_operations, ops, good.operations_are);
      few_nodes = omega (arith, few_nodes, nds, good.nodes_are);
      shallow = good.shallow;
      few_entries = omega (
        arith,
        few_starts,
        starts_count version [] no_numbers (objects_in d),
        count-append What.starts A B,
        count-append What.starts (A ++ B) C,
      );
      small = starts_are_small version no_numbers (objects_in d);
    }

-- the law that a batch keeps
pub faultless_is_batch : (d : Data) → first_fault (placed d) ≡ None
    → IsBatch (document_in d).version (document_in d).start (document_in d).texts (document_in d).transactions
faultless_is_batch d none =
    let all = faultless d none in
    let p = passed (asked d) no_counts all.0 all.1 in
    met_is_batch d p.met (omega (arith, p.starts, p.few_starts (omega arith)))
    (omega (arith, p.operations, p.few_operations (omega arith))) (omega (arith, p.nodes, p.few_nodes (omega arith)))
