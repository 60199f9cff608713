-- What the starts of objects as they are spell: the same values, whose items are numbered anew.
use Rattle.std.proofs.Common.{◌≡◌, true, ℕ, ℤ, ◌+◌, ◌*◌, ◌≤◌, List, [], ◌∷◌, map, length, Some, inl, inr, refl, sym, ap, ap₂, subst, ◌∙◌}
use Rattle.std.proofs.Common.{arith}
use Rattle.std.specs.Prelude.{unwrap_or, pos}
use Rattle.std.specs.FinSet as finite_set
use Rattle.std.specs.FinMap as finite_map
use Rattle.serde_json.specs.Data.{number, unsigned}
use Rattle.atoms.specs.Directory.{Directories}
use Rattle.atoms.specs.Item.{item_cmp}
use Rattle.atoms.specs.ItemSet.{Sets}
use Rattle.atoms.specs.declared.item.Item.{Item}
use Rattle.objects.specs.Objects.{kind_of_value, Content, Number, Signed, Set, Queue, Directory, content_length, content_of, form_of}
use Rattle.objects.specs.declared.kind.Value.{Value}
use Rattle.objects.specs.declared.kind.Kind.{Kind}
use Rattle.objects.specs.declared.kind.NumberKind.{NumberKind}
use Rattle.objects.specs.declared.kind.ValueForm.{ValueForm}
use Rattle.objects.specs.declared.kind.ValueForm.TheVariants as value_form
use Rattle.objects.proofs.KindLemmas.{by_content, number_held, number_of_kind, only_directories, only_queues, only_sets, only_signed}
use Rattle.meaning.specs.Words.{Naming, members}
use Rattle.batch.specs.Names.{Texts, names_of}
use Rattle.doc_tree.specs.Asked.{number_start}
use Rattle.doc_tree.specs.Scope.{Numbers, with_item}
use Rattle.doc_tree.specs.Spelled.{bind_all, entries_of, or_zero, pairs_of, put_all, form_start, start_of}
use Rattle.meaning.specs.WellFormed.{content_size, size_of}
use Rattle.meaning.specs.declared.limits.TheConstants.{MAX_START}
use Rattle.carry_laws.specs.CarriedData.{content_data, items_data, pairs_data, start_data}
use Rattle.carry_laws.specs.Same.{IsSameContent}
use Rattle.carry_laws.proofs.Among.{Among, Apart, among_from_map, among_map, apart_from_map}
use Rattle.carry_laws.proofs.Carriable.{IsApart, IsApartContent}
use Rattle.carry_laws.proofs.CarriedFaultless.{number_back, signed_back}
use Rattle.carry_laws.proofs.ItemsOf.{among_bound, among_contained, bound_among, contained_among, members_few}
use Rattle.doc_merge.proofs.NumberedTexts.{Grows, grows_both, grows_none, grows_text, item_named, one_more}
use Rattle.carry_laws.proofs.PutIn.{bound_there, had_or_bound, had_or_put, put_there}

-- the names of both
abbrev pub both : (Item → List ℕ) → Item × Item → List ℕ × List ℕ
both name pair = (name pair.0, name pair.1)

-- By later tables what is spelled shows as this. So many texts are new at most.
pub record Spells {A B : Type 0} (name : (Item → List ℕ) → A → B) (before : Numbers) (spelled : List A × Numbers) (shown : List B)
    (most : ℕ) : Type 0 where
  pub grows : Grows before.items spelled.1.items
  pub few : length spelled.1.items ≤ length before.items + most
  pub shows : (texts : Texts) → Grows spelled.1.items texts.items → length texts.items ≤ 4294967295
      → map (name (names_of texts).item) spelled.0 ≡ shown

module _ (names : Naming) where
  pub items_spelled : (xs : List Item) (numbers : Numbers)
      → Spells (λ name x. name x) numbers (entries_of numbers (items_data names xs)) (map names.item xs) (length xs)
  items_spelled [] numbers = record { grows = grows_none numbers.items; few = omega arith; shows = λ texts more few. refl }
  items_spelled (x ∷ xs) numbers =
      let text = names.item x in
      let next = with_item text numbers in
      let last = (entries_of next (items_data names xs)).1 in
      let rest = items_spelled xs next in
      let fewer = rest.few in
      record {
        grows = grows_both numbers.items next.items last.items (grows_text text numbers.items) rest.grows;
        few = omega (arith, one_more text numbers.items, fewer);
        shows = λ texts more few. ap₂ (λ (t : List ℕ) (ts : List (List ℕ)). t ∷ ts)
            (item_named text numbers texts (grows_both next.items last.items texts.items rest.grows more) few) (rest.shows texts more few);
      }

  pub pairs_spelled : (pairs : List (Item × Item)) (numbers : Numbers)
      → Spells both numbers (pairs_of numbers (pairs_data names pairs)) (map (both names.item) pairs) (2 * length pairs)
  pairs_spelled [] numbers = record { grows = grows_none numbers.items; few = omega arith; shows = λ texts more few. refl }
  pairs_spelled (pair ∷ pairs) numbers =
      let key = names.item pair.0 in
      let item = names.item pair.1 in
      let between = with_item key numbers in
      let next = with_item item between in
      let last = (pairs_of next (pairs_data names pairs)).1 in
      let rest = pairs_spelled pairs next in
      let fewer = rest.few in
      record {
        grows = grows_both numbers.items between.items last.items (grows_text key numbers.items)
            (grows_both between.items next.items last.items (grows_text item between.items) rest.grows);
        few = omega (arith, one_more key numbers.items, one_more item between.items, fewer);
        shows = λ texts more few.
            let later = grows_both next.items last.items texts.items rest.grows more in
            ap₂ (λ (p : List ℕ × List ℕ) (ps : List (List ℕ × List ℕ)). p ∷ ps)
            (ap₂ (λ (a b : List ℕ). (a, b))
            (item_named key numbers texts (grows_both between.items next.items texts.items (grows_text item between.items) later) few)
            (item_named item between texts later few)) (rest.shows texts more few);
      }

-- what is among the one is among the other, by what they show
over : {A C B : Type 0} (f : A → B) (g : C → B) (xs : List A) (ys : List C) → map f xs ≡ map g ys → (b : B) → (x : A) → Among x xs → f x ≡ b
    → (y : C) × Among y ys × (g y ≡ b)
over f g xs ys same b x at is = among_from_map g ys b (subst (Among b) same (subst (λ c. Among c (map f xs)) is (among_map f xs x at)))

-- ---- sets

set_same : (old new : Naming) (s : finite_set.FinSet item_cmp) (ys : List Item) → map new.item ys ≡ map old.item (members s)
    → IsSameContent old (Set s) new (Set (put_all finite_set.empty ys))
set_same old new s ys same name = (
  λ has. let found = over old.item new.item (members s) ys (sym same) name has.0 (contained_among s has.0 has.1) has.2 in
      (found.0, put_there ys finite_set.empty found.0 found.1, found.2),
  λ has. let found = over new.item old.item ys (members s) same name has.0 (only_put has.0 has.1) has.2 in
      (found.0, among_contained s found.0 found.1, found.2),
)
  where
    only_put : (q : Item) → finite_set.contains (put_all finite_set.empty ys) q ≡ true → Among q ys
    only_put q is = elim (had_or_put ys finite_set.empty q is) [
      | inl at ↦ at
      | inr there ↦ let none = finite_set.contains-empty item_cmp q in cc
    ]

-- ---- directories

pair_is : (a b c d : List ℕ) → a ≡ c → b ≡ d → ◌≡◌ {A = List ℕ × List ℕ} (a, b) (c, d)
pair_is a b c d first second i = (first i, second i)

keys_shown : (name : Item → List ℕ) (pairs : List (Item × Item)) → map (λ p. p.0) (map (both name) pairs) ≡ map name (map (λ e. e.0) pairs)
keys_shown name [] = refl
keys_shown name (pair ∷ pairs) = ap (λ ts. name pair.0 ∷ ts) (keys_shown name pairs)

-- pairs whose keys show as those of a directory have keys that differ
keys_differ : (old new : Naming) (pairs fs : List (Item × Item)) → map (both new.item) fs ≡ map (both old.item) pairs
    → Apart (map old.item (map (λ e. e.0) pairs)) → Apart (map (λ e. e.0) fs)
keys_differ old new pairs fs same apart =
    let keys = sym (keys_shown new.item fs) ∙ ap (map (λ (p : List ℕ × List ℕ). p.0)) same ∙ keys_shown old.item pairs in
    apart_from_map new.item (map (λ e. e.0) fs) (subst Apart (sym keys) apart)

only_bound : (fs : List (Item × Item)) (k x : Item) → finite_map.get (bind_all (finite_map.empty {X = Item} {R = item_cmp}) fs) k ≡ Some x
    → Among (k, x) fs
only_bound fs k x is = elim (had_or_bound fs finite_map.empty k x is) [
  | inl at ↦ at
  | inr there ↦ let none = finite_map.get-empty {X = Item} item_cmp k in cc
]

directory_same : (old new : Naming) (d : finite_map.FinMap item_cmp Item) (fs : List (Item × Item))
    → map (both new.item) fs ≡ map (both old.item) (finite_map.entries d) → Apart (map old.item (finite_map.keys d))
    → IsSameContent old (Directory d) new (Directory (bind_all finite_map.empty fs))
directory_same old new d fs same apart key name = (
  λ has.
      let k = has.0 in let x = has.1 in
      let found = over (both old.item) (both new.item) (finite_map.entries d) fs (sym same) (key, name) (k, x) (bound_among d k x has.2)
      (pair_is (old.item k) (old.item x) key name has.3 has.4) in
      let bound = bound_there fs finite_map.empty found.0.0 found.0.1 (keys_differ old new (finite_map.entries d) fs same apart) found.1 in
      (found.0.0, found.0.1, bound, ap (λ p. p.0) found.2, ap (λ p. p.1) found.2),
  λ has.
      let k = has.0 in let x = has.1 in
      let found = over (both new.item) (both old.item) fs (finite_map.entries d) same (key, name) (k, x) (only_bound fs k x has.2)
      (pair_is (new.item k) (new.item x) key name has.3 has.4) in
      (found.0.0, found.0.1, among_bound d found.0.0 found.0.1 found.1, ap (λ p. p.0) found.2, ap (λ p. p.1) found.2),
)

-- ---- values

-- By later tables the value is of the kind and has the same content. So many texts are new at most.
pub record SpellsContent (names : Naming) (k : Kind) (c : Content) (before : Numbers) (spelled : Value × Numbers) : Type 0 where
  pub grows : Grows before.items spelled.1.items
  pub few : length spelled.1.items ≤ length before.items + 2 * content_length c
  pub kind : k ≡ kind_of_value spelled.0
  pub content : (texts : Texts) → Grows spelled.1.items texts.items → length texts.items ≤ 4294967295
      → IsSameContent names c (names_of texts) (content_of spelled.0)

abbrev pub SpellsValue : Naming → Value → Numbers → Value × Numbers → Type 0
SpellsValue names v before spelled = SpellsContent names (kind_of_value v) (content_of v) before spelled

-- what a start of a form spells
abbrev Spelled : Naming → Kind → Numbers → ValueForm → Content → Type 0
Spelled names k numbers form c = form_of k ≡ form → content_size c ≤ MAX_START → IsApartContent names c
    → SpellsContent names k c numbers (form_start form numbers (content_data names c))

number_spelled : (names : Naming) (k : Kind) (numbers : Numbers) (m : NumberKind) (n : ℕ)
    → Spelled names k numbers (value_form.Number m) (Number n)
number_spelled names k numbers m n is small apart =
    let read = or_zero (number_start (number (unsigned n))) in
    record {
      grows = grows_none numbers.items;
      few = omega arith;
      kind = sym (number_of_kind k m read is);
      content = λ texts more few. subst (IsSameContent names (Number n) (names_of texts)) (sym (number_held m read))
          (sym (ap or_zero (number_back n small)));
    }

signed_spelled : (names : Naming) (k : Kind) (numbers : Numbers) (z : ℤ) → Spelled names k numbers value_form.Signed (Signed z)
signed_spelled names k numbers z is small apart = record {
  grows = grows_none numbers.items;
  few = omega arith;
  kind = only_signed k is;
  content = λ texts more few. sym (ap (λ o. unwrap_or o (pos 0)) (signed_back z small));
}

set_spelled : (names : Naming) (k : Kind) (numbers : Numbers) (s : Sets) → Spelled names k numbers value_form.Set (Set s)
set_spelled names k numbers s is small apart =
    let items = items_spelled names (members s) numbers in
    let fewer = items.few in
    record {
      grows = items.grows;
      few = omega (arith, fewer, members_few s);
      kind = only_sets k is;
      content = λ texts more few. set_same names (names_of texts) s (entries_of numbers (items_data names (members s))).0
          (items.shows texts more few);
    }

queue_spelled : (names : Naming) (k : Kind) (numbers : Numbers) (q : List Item) → Spelled names k numbers value_form.Queue (Queue q)
queue_spelled names k numbers q is small apart =
    let items = items_spelled names q numbers in
    let fewer = items.few in
    record {
      grows = items.grows;
      few = omega (arith, fewer);
      kind = only_queues k is;
      content = λ texts more few. sym (items.shows texts more few);
    }

directory_spelled : (names : Naming) (k : Kind) (numbers : Numbers) (d : Directories)
    → Spelled names k numbers value_form.Directory (Directory d)
directory_spelled names k numbers d is small apart =
    let pairs = pairs_spelled names (finite_map.entries d) numbers in
    let fewer = pairs.few in
    record {
      grows = pairs.grows;
      few = omega (arith, fewer, finite_map.len-entries d);
      kind = only_directories k is;
      content = λ texts more few. directory_same names (names_of texts) d (pairs_of numbers (pairs_data names (finite_map.entries d))).0
          (pairs.shows texts more few) apart;
    }

pub value_spelled : (names : Naming) (v : Value) (numbers : Numbers) → size_of v ≤ MAX_START → IsApart names v
    → SpellsValue names v numbers (start_of (kind_of_value v) numbers (start_data names v))
unfolding start_of
value_spelled names v numbers =
    let k = kind_of_value v in
    by_content (Spelled names k numbers) (number_spelled names k numbers) (signed_spelled names k numbers) (set_spelled names k numbers)
    (queue_spelled names k numbers) (directory_spelled names k numbers) v refl
