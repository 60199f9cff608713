-- What the objects of a document start with has its texts.
use Rattle.std.proofs.Common.{◌≡◌, ◌<◌, ◌||◌, ℕ, zero, suc, Bool, true, false, cond, List, [], ◌∷◌, ◌++◌, length, Option, None, Some, refl}
use Rattle.std.proofs.Common.{sym, subst, ◌∙◌, arith}
use Rattle.std.specs.Prelude.{codes, slice_index_or, ⊤}
use Rattle.std.specs.FinMap as finite_map
use Rattle.std.specs.FinSet as finite_set
use Rattle.std.specs.Ordering.{eq_by_cmp}
use Rattle.serde_json.specs.Data.{Data, Items, no_items, item}
use Rattle.serde_json.specs.Find.{as_array}
use Rattle.atoms.specs.Item.{item_cmp}
use Rattle.atoms.specs.declared.item.Item.{Item}
use Rattle.atoms.proofs.Items.{alike_is, items_total}
use Rattle.objects.specs.declared.kind.Kind.{Kind}
use Rattle.objects.specs.declared.kind.ValueForm.{ValueForm}
use Rattle.objects.specs.declared.kind.ValueForm.TheVariants as value_form
use Rattle.objects.specs.Objects.{form_of}
use Rattle.objects.proofs.KindLemmas.{number_held}
use Rattle.batch.specs.Names.{AreNames, Texts, is_name}
use Rattle.batch.specs.Named.{AllNamedValues, HasText, IsNamedContent, IsNamedValue}
use Rattle.doc_tree.specs.Scope.{Numbers, Table, with_item, with_text}
use Rattle.doc_tree.specs.Asked.{element_asked, entry_asked, key_of, kind_in, names_of, number_start}
use Rattle.doc_tree.specs.Asked.{object_name, object_name_asked, object_shape_asked, or_no_items, pair_asked}
use Rattle.doc_tree.specs.Asked.{part, text_of, value_of}
use Rattle.doc_tree.specs.Spelled.{bind_all, entries_of, item_of, or_zero, pairs_of, put_all, form_start, start_of, starts_of}
use Rattle.lang.proofs.Later.{value_later}
use Rattle.doc_tree.proofs.MetLemmas.{AllMet, first_met, rest_met}
use Rattle.doc_merge.proofs.NumberedTexts.{number_below}
use Rattle.lang.proofs.Tables.{Numbered, grows_behind, grows_both, grows_item, grows_none, grows_on, texts_in}
use Rattle.doc_tree.proofs.Demands.{array_start_asked, elements_asked, entries_asked, object_asked, objects_asked, pairs_asked}
use Rattle.doc_tree.proofs.Demands.{form_asked, start_asked}

AllHave : Texts → List Item → Type 0
AllHave texts [] = ⊤
AllHave texts (x ∷ xs) = HasText texts x × AllHave texts xs

AllPairsHave : Texts → List (Item × Item) → Type 0
AllPairsHave texts [] = ⊤
AllPairsHave texts (e ∷ es) = HasText texts e.0 × HasText texts e.1 × AllPairsHave texts es

each_has : (texts : Texts) (xs : List Item) → AllHave texts xs → (k : ℕ) (x : Item) → k < length xs → HasText texts (slice_index_or xs k x)
unfolding AllHave
each_has texts [] have k x lt = absurd (omega arith)
each_has texts (y ∷ ys) have zero x lt = have.0
each_has texts (y ∷ ys) have (suc k) x lt = each_has texts ys have.1 k x (omega arith)

put_all_has : (texts : Texts) (xs : List Item) (s : finite_set.FinSet item_cmp)
    → ((x : Item) → finite_set.contains s x ≡ true → HasText texts x) → AllHave texts xs
    → (x : Item) → finite_set.contains (put_all s xs) x ≡ true → HasText texts x
unfolding AllHave
put_all_has texts [] s had have = had
put_all_has texts (y ∷ ys) s had have =
    put_all_has texts ys (finite_set.insert s y)
    (λ x is. by x (eq_by_cmp item_cmp x y) refl (sym (finite_set.contains-insert items_total s y x) ∙ is)) have.1
  where
    by : (x : Item) (b : Bool) → eq_by_cmp item_cmp x y ≡ b → (b || finite_set.contains s x) ≡ true → HasText texts x
    by x true same is = subst (HasText texts) (sym (alike_is x y same)) have.0
    by x false same is = had x is

bind_all_has : (texts : Texts) (es : List (Item × Item)) (m : finite_map.FinMap item_cmp Item)
    → ((k x : Item) → finite_map.get m k ≡ Some x → HasText texts k × HasText texts x) → AllPairsHave texts es
    → (k x : Item) → finite_map.get (bind_all m es) k ≡ Some x → HasText texts k × HasText texts x
unfolding AllPairsHave
bind_all_has texts [] m had have = had
bind_all_has texts (e ∷ es) m had have =
    bind_all_has texts es (finite_map.insert m e.0 e.1)
    (λ k x is. by k x (eq_by_cmp item_cmp k e.0) refl (sym (finite_map.get-insert items_total m e.0 e.1 k) ∙ is)) have.2
  where
    by : (k x : Item) (b : Bool) → eq_by_cmp item_cmp k e.0 ≡ b → cond b (Some e.1) (finite_map.get m k) ≡ Some x → HasText texts k
        × HasText texts x
    by k x true same is = let bound : e.1 ≡ x = cc in
        (subst (HasText texts) (sym (alike_is k e.0 same)) have.0, subst (HasText texts) bound have.1)
    by k x false same is = had k x is

-- ---- entries

entries_numbered : (version : ℕ) (numbers : Numbers) (ds : Items) → Numbered version AllHave numbers (entries_of numbers ds)
    (entries_asked version ds)
unfolding AllHave entry_asked
entries_numbered version numbers no_items = record { named = tt; grows = grows_none numbers _ }
entries_numbered version numbers (item d ds) =
    let next = with_item (text_of d) numbers in
    let last = (entries_of next ds).1 in
    let rest = entries_numbered version next ds in
    let here : HasText (texts_in next) (item_of (text_of d) numbers) = number_below (text_of d) numbers.items in
    record {
      named = (omega (arith, here, rest.grows.items), rest.named);
      grows = grows_on numbers next last (entry_asked version d) (entries_asked version ds)
          (grows_item version (text_of d) numbers (entry_asked version d) (λ met. met.1.0)) rest.grows;
    }

elements_numbered : (version : ℕ) (numbers : Numbers) (earlier : Table) (ds : Items)
    → Numbered version AllHave numbers (entries_of numbers ds) (elements_asked version earlier ds)
unfolding AllHave element_asked
elements_numbered version numbers earlier no_items = record { named = tt; grows = grows_none numbers _ }
elements_numbered version numbers earlier (item d ds) =
    let next = with_item (text_of d) numbers in
    let last = (entries_of next ds).1 in
    let after = with_text (text_of d) earlier in
    let rest = elements_numbered version next after ds in
    let here : HasText (texts_in next) (item_of (text_of d) numbers) = number_below (text_of d) numbers.items in
    record {
      named = (omega (arith, here, rest.grows.items), rest.named);
      grows = grows_on numbers next last (element_asked version earlier d) (elements_asked version after ds)
          (grows_item version (text_of d) numbers (element_asked version earlier d) (λ met. met.1.0)) rest.grows;
    }

pairs_numbered : (version : ℕ) (numbers : Numbers) (earlier : Table) (ds : Items)
    → Numbered version AllPairsHave numbers (pairs_of numbers ds) (pairs_asked version earlier ds)
unfolding AllPairsHave pair_asked
pairs_numbered version numbers earlier no_items = record { named = tt; grows = grows_none numbers _ }
pairs_numbered version numbers earlier (item d ds) =
    let between = with_item (key_of d) numbers in
    let next = with_item (value_of d) between in
    let last = (pairs_of next ds).1 in
    let after = with_text (key_of d) earlier in
    let rest = pairs_numbered version next after ds in
    let asked = pair_asked version earlier d in
    let first = grows_item version (key_of d) numbers asked (λ met. met.1.1.1.0) in
    let second = grows_item version (value_of d) between asked (λ met. met.1.1.1.1.0) in
    let key : HasText (texts_in between) (item_of (key_of d) numbers) = number_below (key_of d) numbers.items in
    let bound : HasText (texts_in next) (item_of (value_of d) between) = number_below (value_of d) between.items in
    record {
      named = (omega (arith, key, second.items, rest.grows.items), omega (arith, bound, rest.grows.items), rest.named);
      grows = grows_on numbers next last asked (pairs_asked version after ds)
          (grows_both numbers between next asked first second) rest.grows;
    }

-- ---- values

set_numbered : (version : ℕ) (k : Kind) (numbers : Numbers) (o : Option Items)
    → Numbered version AllHave numbers (entries_of numbers (or_no_items o))
    (array_start_asked k (elements_asked version []) o)
unfolding array_start_asked AllHave
set_numbered version k numbers None = record { named = tt; grows = grows_none numbers _ }
set_numbered version k numbers (Some ds) = elements_numbered version numbers [] ds

queue_numbered : (version : ℕ) (k : Kind) (numbers : Numbers) (o : Option Items)
    → Numbered version AllHave numbers (entries_of numbers (or_no_items o)) (array_start_asked k (entries_asked version) o)
unfolding array_start_asked AllHave
queue_numbered version k numbers None = record { named = tt; grows = grows_none numbers _ }
queue_numbered version k numbers (Some ds) = entries_numbered version numbers ds

directory_numbered : (version : ℕ) (k : Kind) (numbers : Numbers) (o : Option Items)
    → Numbered version AllPairsHave numbers (pairs_of numbers (or_no_items o))
    (array_start_asked k (pairs_asked version []) o)
unfolding array_start_asked AllPairsHave
directory_numbered version k numbers None = record { named = tt; grows = grows_none numbers _ }
directory_numbered version k numbers (Some ds) = pairs_numbered version numbers [] ds

none_inside : (texts : Texts) (x : Item) → finite_set.contains (finite_set.empty {R = item_cmp}) x ≡ true → HasText texts x
none_inside texts x is = let none = finite_set.contains-empty item_cmp x in absurd cc

none_bound : (texts : Texts) (k x : Item) → finite_map.get (finite_map.empty {X = Item} {R = item_cmp}) k ≡ Some x → HasText texts k
    × HasText texts x
none_bound texts k x is = let none = finite_map.get-empty {X = Item} item_cmp k in absurd cc

form_numbered : (version : ℕ) (k : Kind) (form : ValueForm) (numbers : Numbers) (d : Data)
    → Numbered version IsNamedValue numbers (form_start form numbers d) (form_asked version k form d)
form_numbered version k (value_form.Number m) numbers d = record {
  named = subst (IsNamedContent (texts_in numbers)) (sym (number_held m (or_zero (number_start d)))) tt;
  grows = grows_none numbers _;
}
form_numbered version k value_form.Signed numbers d = record { named = tt; grows = grows_none numbers _ }
form_numbered version k value_form.Set numbers d =
    let it = set_numbered version k numbers (as_array d) in
    let entries = entries_of numbers (or_no_items (as_array d)) in
    record {
      named = put_all_has (texts_in entries.1) entries.0 finite_set.empty (none_inside (texts_in entries.1)) it.named;
      grows =
          it.grows;
    }
form_numbered version k value_form.Queue numbers d =
    let it = queue_numbered version k numbers (as_array d) in
    let entries = entries_of numbers (or_no_items (as_array d)) in
    record { named = each_has (texts_in entries.1) entries.0 it.named; grows = it.grows }
form_numbered version k value_form.Directory numbers d =
    let it = directory_numbered version k numbers (as_array d) in
    let pairs = pairs_of numbers (or_no_items (as_array d)) in
    record { named = bind_all_has (texts_in pairs.1) pairs.0 finite_map.empty (none_bound (texts_in pairs.1)) it.named; grows = it.grows }

start_numbered : (version : ℕ) (k : Kind) (numbers : Numbers) (d : Data)
    → Numbered version IsNamedValue numbers (start_of k numbers d) (start_asked version k d)
unfolding start_of start_asked
start_numbered version k numbers d = form_numbered version k (form_of k) numbers d

pub starts_numbered : (version : ℕ) (names : Table) (numbers : Numbers) (ds : Items) → Numbered version AllNamedValues numbers
    (starts_of version numbers ds) (objects_asked version names ds)
unfolding object_asked
starts_numbered version names numbers no_items = record { named = tt; grows = grows_none numbers _ }
starts_numbered version names numbers (item d ds) =
    let k = kind_in version d in
    let start = part (codes "start") d in
    let here = start_of k numbers start in
    let next = names ++ object_name d ∷ [] in
    let last = (starts_of version here.1 ds).1 in
    let first = start_numbered version k numbers start in
    let rest = starts_numbered version next here.1 ds in
    let A = object_shape_asked version d in
    let B = object_name_asked version names (object_name d) in
    let C = start_asked version k start in
    record {
      named = (value_later (texts_in here.1) (texts_in last) rest.grows.items rest.grows.reasons here.0 first.named, rest.named);
      grows = grows_on numbers here.1 last (object_asked version names d) (objects_asked version next ds)
          (grows_behind numbers here.1 (A ++ B) C first.grows) rest.grows;
    }

-- ---- names of objects

object_named : (version : ℕ) (names : Table) (d : Data) → AllMet (object_asked version names d) → is_name version (object_name d) ≡ true
unfolding object_asked object_name_asked
object_named version names d met =
    let A = object_shape_asked version d in
    let B = object_name_asked version names (object_name d) in
    let C = start_asked version (kind_in version d) (part (codes "start") d) in
    (rest_met A B (first_met (A ++ B) C met)).0

pub objects_named : (version : ℕ) (names : Table) (ds : Items) → AllMet (objects_asked version names ds)
    → AreNames version (names_of ds)
objects_named version names no_items met = refl
objects_named version names (item d ds) met =
    let next = names ++ object_name d ∷ [] in
    let here = object_named version names d (first_met (object_asked version names d) (objects_asked version next ds) met) in
    let rest = objects_named version next ds (rest_met (object_asked version names d) (objects_asked version next ds) met) in
    rw here rest
