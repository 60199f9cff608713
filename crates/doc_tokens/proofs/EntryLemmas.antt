-- What objects start with, entry by entry. `before` puts the entries that were read in front of any that follow.
use Rattle.std.specs.FinMap as finite_map
use Rattle.std.specs.FinSet as finite_set
use Rattle.std.proofs.Common.{◌≡◌, ℕ, ◌+◌, ◌||◌, Bool, true, false, cond, List, [], ◌∷◌, ◌++◌, Option, Some}
use Rattle.std.proofs.Common.{refl, sym, ap, ap₂, subst, ◌∙◌}
use Rattle.std.specs.Prelude.{is_some}
use Rattle.std.specs.Ordering.{eq_by_cmp}
use Rattle.json.specs.Json.{after_end_array}
use Rattle.json.specs.Token.{Token}
use Rattle.serde_json.specs.Data.{Items, array, item, no_items, string}
use Rattle.atoms.specs.Item.{item_cmp}
use Rattle.atoms.specs.declared.item.Item.{Item}
use Rattle.atoms.proofs.Items.{alike_itself, items_total}
use Rattle.batch.specs.Names.{is_name}
use Rattle.doc_tree.specs.Answer.{AreMet, IsMet}
use Rattle.doc_tree.specs.Asked.{element_asked, entry_asked, pair_asked}
use Rattle.doc_tree.specs.Demand.{one_more_start}
use Rattle.doc_tree.specs.Places.{elements_placed, entries_placed, item_at, itself, nothing, pairs_placed, seek}
use Rattle.doc_tree.specs.Scope.{Numbers, Table, is_listed, with_item, with_text}
use Rattle.doc_tree.specs.Spelled.{bind_all, entries_of, item_of, pairs_of, put_all, spelled_map}
use Rattle.doc_tree.specs.declared.counts.Counts.{Counts}
use Rattle.doc_tree.proofs.ListLemmas.{in_front, in_front_none, in_front_push}
use Rattle.doc_tree.proofs.PlaceLemmas.{own_met, part_met}
use Rattle.doc_tokens.specs.Pulled.{ReadsItems}
use Rattle.doc_tokens.proofs.HeldLemmas.{AreHeld, held_more, held_on, none_held, not_held}
use Rattle.doc_tokens.proofs.PulledLemmas.{reads_array, reads_item, reads_no_items, reads_string}

-- ---- entries

module _ (version : ℕ) (c d : Counts) (counted : IsMet c (one_more_start version ∷ []) d) where
  entry_met : (s : List ℕ) → is_name version s ≡ true → IsMet c (entry_asked version (string s)) d
  unfolding entry_asked
  entry_met s named = rw named counted

  element_met : (earlier : Table) (s : List ℕ) → is_name version s ≡ true → is_listed s earlier ≡ false
      → IsMet c (element_asked version earlier (string s)) d
  unfolding element_asked
  element_met earlier s named new = rw (named, new) counted

  pair_met : (earlier : Table) (k s : List ℕ) → is_name version k ≡ true → is_name version s ≡ true → is_listed k earlier ≡ false
      → IsMet c (pair_asked version earlier (array (item (string k) (item (string s) no_items)))) d
  unfolding pair_asked
  pair_met earlier k s first second new = rw (first, second, new) counted

-- a name in an array
name_read : (s : List ℕ) (now new rest : List Token) (ds : Items) → now ≡ Token.string s ∷ new → ReadsItems 0 new ds rest
    → ReadsItems 0 now (item (string s) ds) rest
name_read s now new rest ds is reads = subst (λ ts. ReadsItems 0 ts (item (string s) ds) rest) (sym is)
    (reads_item 0 (Token.string s ∷ new) new rest (string s) ds refl (reads_string 0 s new) reads)

-- a key and its item in an array
pair_read : (k s : List ℕ) (now new rest : List Token) (ds : Items)
    → now ≡ Token.begin_array ∷ Token.string k ∷ Token.string s ∷ Token.end_array ∷ new → ReadsItems 1 new ds rest
    → ReadsItems 1 now (item (array (item (string k) (item (string s) no_items))) ds) rest
pair_read k s now new rest ds is reads =
    let inside = name_read k (Token.string k ∷ Token.string s ∷ Token.end_array ∷ new) (Token.string s ∷ Token.end_array ∷ new) new
    (item (string s) no_items) refl
    (name_read s (Token.string s ∷ Token.end_array ∷ new) (Token.end_array ∷ new) new no_items refl
    (reads_no_items 0 (Token.end_array ∷ new) new refl)) in
    subst (λ ts. ReadsItems 1 ts (item (array (item (string k) (item (string s) no_items))) ds) rest) (sym is)
    (reads_item 1 (Token.begin_array ∷ Token.string k ∷ Token.string s ∷ Token.end_array ∷ new) new rest
    (array (item (string k) (item (string s) no_items))) ds refl
    (reads_array 0 (Token.string k ∷ Token.string s ∷ Token.end_array ∷ new) (item (string k) (item (string s) no_items)) new inside)
    reads)

-- ---- queues

-- Of the tokens `old` the first make entries of a queue, and `now` are left.
pub record QueueRead (version : ℕ) (old now : List Token) (start next : Counts) (numbers after : Numbers) (queue : List Item) : Type 0 where
  pub before : Items → Items
  pub index : ℕ
  pub reads : (ds : Items) (new : List Token) → ReadsItems 0 now ds new → ReadsItems 0 old (before ds) new
  pub met : (ds : Items) → seek start (entries_placed version 0 (before ds)) ≡ seek next (entries_placed version index ds)
  pub spelled : (ds : Items) → entries_of numbers (before ds) ≡ in_front queue (entries_of after ds)

module _ (version : ℕ) (old : List Token) (start : Counts) (numbers : Numbers) where
  pub no_queue : (queue : List Item) → queue ≡ [] → QueueRead version old old start start numbers numbers queue
  no_queue queue none = record {
    before = λ ds. ds;
    index = 0;
    reads = λ ds new reads. reads;
    met = λ ds. refl;
    spelled = λ ds. ap (λ (xs : List Item). in_front xs (entries_of numbers ds)) (sym none);
  }

  -- one more entry
  pub queue_more : (now new : List Token) (c d : Counts) (n m : Numbers) (queue more : List Item) (s : List ℕ) (x : Item)
      → QueueRead version old now start c numbers n queue → now ≡ Token.string s ∷ new → is_name version s ≡ true
      → IsMet c (one_more_start version ∷ []) d → x ≡ item_of s n → m ≡ with_item s n → more ≡ queue ++ x ∷ []
      → QueueRead version old new start d numbers m more
  queue_more now new c d n m queue more s x r is named counted value joined pushed =
      let i = r.index in record {
        before = λ ds. r.before (item (string s) ds);
        index = i + 1;
        reads = λ ds rest tail. r.reads (item (string s) ds) rest (name_read s now new rest ds is tail);
        met = λ ds. r.met (item (string s) ds)
            ∙ part_met c d (item_at i) (itself (entry_asked version (string s)) nothing) (entries_placed version (i + 1) ds)
            (own_met c d (entry_asked version (string s)) (entry_met version c d counted s named));
        spelled = λ ds. r.spelled (item (string s) ds)
            ∙ ap₂ (λ (y : Item) (k : Numbers). in_front queue (y ∷ (entries_of k ds).0, (entries_of k ds).1)) (sym value) (sym joined)
            ∙ sym (in_front_push queue x (entries_of m ds)) ∙ ap (λ (xs : List Item). in_front xs (entries_of m ds)) (sym pushed);
      }

  -- all of them
  pub queue_whole : (now new : List Token) (next : Counts) (after : Numbers) (queue : List Item)
      → QueueRead version old now start next numbers after queue → after_end_array now ≡ Some new
      → (ds : Items) × ReadsItems 0 old ds new × AreMet start (entries_placed version 0 ds) next
      × ((queue, after) ≡ entries_of numbers ds)
  queue_whole now new next after queue r closed = (
    r.before no_items,
    r.reads no_items new (reads_no_items 0 now new closed),
    r.met no_items,
    sym (r.spelled no_items ∙ in_front_none queue after),
  )

-- ---- sets

or_later : (a : Bool) {b : Bool} → b ≡ true → (a || b) ≡ true
or_later true is = refl
or_later false is = is

-- Of the tokens `old` the first make items of a set, which it holds, and `now` are left.
pub record SetRead (version : ℕ) (old now : List Token) (start next : Counts) (numbers after : Numbers) (set : finite_set.FinSet item_cmp)
    : Type 0 where
  pub before : Items → Items
  pub index : ℕ
  pub earlier : Table
  pub held : AreHeld earlier after (finite_set.contains set)
  pub reads : (ds : Items) (new : List Token) → ReadsItems 0 now ds new → ReadsItems 0 old (before ds) new
  pub met : (ds : Items) → seek start (elements_placed version [] 0 (before ds)) ≡ seek next (elements_placed version earlier index ds)
  pub spelled : (ds : Items) → spelled_map (put_all finite_set.empty) (entries_of numbers (before ds))
      ≡ spelled_map (put_all set) (entries_of after ds)

module _ (version : ℕ) (old : List Token) (start : Counts) (numbers : Numbers) where
  pub no_set : (set : finite_set.FinSet item_cmp) → set ≡ finite_set.empty → SetRead version old old start start numbers numbers set
  no_set set none = record {
    before = λ ds. ds;
    index = 0;
    earlier = [];
    held = none_held numbers (finite_set.contains set);
    reads = λ ds new reads. reads;
    met = λ ds. refl;
    spelled = λ ds. ap (λ (t : finite_set.FinSet item_cmp). spelled_map (put_all t) (entries_of numbers ds)) (sym none);
  }

  -- one more item, which the set didn't hold
  pub set_more : (now new : List Token) (c d : Counts) (n m : Numbers) (set more : finite_set.FinSet item_cmp) (s : List ℕ) (x : Item)
      → SetRead version old now start c numbers n set → now ≡ Token.string s ∷ new → is_name version s ≡ true
      → IsMet c (one_more_start version ∷ []) d → x ≡ item_of s n → m ≡ with_item s n → finite_set.contains set x ≡ false
      → more ≡ finite_set.insert set x → SetRead version old new start d numbers m more
  set_more now new c d n m set more s x r is named counted value joined free put =
      let i = r.index in
      let at = item_of s n in
      let fresh = not_held r.earlier n (finite_set.contains set) s r.held (ap (finite_set.contains set) (sym value) ∙ free) in
      let grown : more ≡ finite_set.insert set at = put ∙ ap (finite_set.insert set) value in
      let has : finite_set.contains (finite_set.insert set at) at ≡ true = finite_set.contains-insert items_total set at at
      ∙ ap (λ b. b || finite_set.contains set at) (alike_itself at) in
      let held : AreHeld (with_text s r.earlier) (with_item s n) (finite_set.contains (finite_set.insert set at)) =
      held_more r.earlier n (finite_set.contains set) s r.held (finite_set.contains (finite_set.insert set at))
      (λ y there. finite_set.contains-insert items_total set at y ∙ or_later (eq_by_cmp item_cmp y at) there) has in record {
        before = λ ds. r.before (item (string s) ds);
        index = i + 1;
        earlier = with_text s r.earlier;
        held = subst (λ t. AreHeld (with_text s r.earlier) m (finite_set.contains t)) (sym grown)
            (subst (λ k. AreHeld (with_text s r.earlier) k (finite_set.contains (finite_set.insert set at))) (sym joined) held);
        reads = λ ds rest tail. r.reads (item (string s) ds) rest (name_read s now new rest ds is tail);
        met = λ ds. r.met (item (string s) ds)
            ∙ part_met c d (item_at i) (itself (element_asked version r.earlier (string s)) nothing)
            (elements_placed version (with_text s r.earlier) (i + 1) ds)
            (own_met c d (element_asked version r.earlier (string s)) (element_met version c d counted r.earlier s named fresh));
        spelled = λ ds. r.spelled (item (string s) ds)
            ∙ ap (λ (k : Numbers). (put_all (finite_set.insert set at) (entries_of k ds).0, (entries_of k ds).1)) (sym joined)
            ∙ ap (λ (t : finite_set.FinSet item_cmp). spelled_map (put_all t) (entries_of m ds)) (sym grown);
      }

  -- all of them
  pub set_whole : (now new : List Token) (next : Counts) (after : Numbers) (set : finite_set.FinSet item_cmp)
      → SetRead version old now start next numbers after set → after_end_array now ≡ Some new
      → (ds : Items) × ReadsItems 0 old ds new × AreMet start (elements_placed version [] 0 ds) next
      × ((set, after) ≡ spelled_map (put_all finite_set.empty) (entries_of numbers ds))
  set_whole now new next after set r closed = (
    r.before no_items,
    r.reads no_items new (reads_no_items 0 now new closed),
    r.met no_items,
    sym (r.spelled no_items),
  )

-- ---- directories

some_later : (b : Bool) (x : Item) (o : Option Item) → is_some o ≡ true → is_some (cond b (Some x) o) ≡ true
some_later true x o is = refl
some_later false x o is = is

-- whether a directory binds a key
abbrev binds : finite_map.FinMap item_cmp Item → Item → Bool
binds directory key = is_some (finite_map.get directory key)

-- Of the tokens `old` the first make entries of a directory, which it binds, and `now` are left.
pub record DirectoryRead (version : ℕ) (old now : List Token) (start next : Counts) (numbers after : Numbers)
    (directory : finite_map.FinMap item_cmp Item) : Type 0 where
  pub before : Items → Items
  pub index : ℕ
  pub earlier : Table
  pub held : AreHeld earlier after (binds directory)
  pub reads : (ds : Items) (new : List Token) → ReadsItems 1 now ds new → ReadsItems 1 old (before ds) new
  pub met : (ds : Items) → seek start (pairs_placed version [] 0 (before ds)) ≡ seek next (pairs_placed version earlier index ds)
  pub spelled : (ds : Items) → spelled_map (bind_all finite_map.empty) (pairs_of numbers (before ds))
      ≡ spelled_map (bind_all directory) (pairs_of after ds)

module _ (version : ℕ) (old : List Token) (start : Counts) (numbers : Numbers) where
  pub no_directory : (directory : finite_map.FinMap item_cmp Item) → directory ≡ finite_map.empty
      → DirectoryRead version old old start start numbers numbers directory
  no_directory directory none = record {
    before = λ ds. ds;
    index = 0;
    earlier = [];
    held = none_held numbers (binds directory);
    reads = λ ds new reads. reads;
    met = λ ds. refl;
    spelled = λ ds. ap (λ (t : finite_map.FinMap item_cmp Item). spelled_map (bind_all t) (pairs_of numbers ds)) (sym none);
  }

  -- one more key, which the directory didn't bind, and its item
  pub directory_more : (now new : List Token) (c d : Counts) (n m : Numbers) (directory more : finite_map.FinMap item_cmp Item)
      (k s : List ℕ) (x y : Item) → DirectoryRead version old now start c numbers n directory
      → now ≡ Token.begin_array ∷ Token.string k ∷ Token.string s ∷ Token.end_array ∷ new → is_name version k ≡ true
      → is_name version s ≡ true → IsMet c (one_more_start version ∷ []) d → x ≡ item_of k n → y ≡ item_of s (with_item k n)
      → m ≡ with_item s (with_item k n) → binds directory x ≡ false → more ≡ finite_map.insert directory x y
      → DirectoryRead version old new start d numbers m more
  directory_more now new c d n m directory more k s x y r is first second counted key value joined free put =
      let i = r.index in
      let at = item_of k n in
      let to = item_of s (with_item k n) in
      let pair = array (item (string k) (item (string s) no_items)) in
      let fresh = not_held r.earlier n (binds directory) k r.held (ap (binds directory) (sym key) ∙ free) in
      let grown : more ≡ finite_map.insert directory at to = put ∙ ap₂ (finite_map.insert directory) key value in
      let has : binds (finite_map.insert directory at to) at ≡ true = ap is_some (finite_map.get-insert items_total directory at to at
      ∙ ap (λ b. cond b (Some to) (finite_map.get directory at)) (alike_itself at)) in
      let keyed : AreHeld (with_text k r.earlier) (with_item k n) (binds (finite_map.insert directory at to)) =
      held_more r.earlier n (binds directory) k r.held (binds (finite_map.insert directory at to))
      (λ z there. ap is_some (finite_map.get-insert items_total directory at to z)
      ∙ some_later (eq_by_cmp item_cmp z at) to (finite_map.get directory z) there) has in
      let held = held_on (with_text k r.earlier) (with_item k n) (binds (finite_map.insert directory at to)) s keyed in record {
        before = λ ds. r.before (item pair ds);
        index = i + 1;
        earlier = with_text k r.earlier;
        held = subst (λ t. AreHeld (with_text k r.earlier) m (binds t)) (sym grown)
            (subst (λ l. AreHeld (with_text k r.earlier) l (binds (finite_map.insert directory at to))) (sym joined) held);
        reads = λ ds rest tail. r.reads (item pair ds) rest (pair_read k s now new rest ds is tail);
        met = λ ds. r.met (item pair ds)
            ∙ part_met c d (item_at i) (itself (pair_asked version r.earlier pair) nothing)
            (pairs_placed version (with_text k r.earlier) (i + 1) ds)
            (own_met c d (pair_asked version r.earlier pair) (pair_met version c d counted r.earlier k s first second fresh));
        spelled = λ ds. r.spelled (item pair ds)
            ∙ ap (λ (l : Numbers). (bind_all (finite_map.insert directory at to) (pairs_of l ds).0, (pairs_of l ds).1)) (sym joined)
            ∙ ap (λ (t : finite_map.FinMap item_cmp Item). spelled_map (bind_all t) (pairs_of m ds)) (sym grown);
      }

  -- all of them
  pub directory_whole : (now new : List Token) (next : Counts) (after : Numbers) (directory : finite_map.FinMap item_cmp Item)
      → DirectoryRead version old now start next numbers after directory → after_end_array now ≡ Some new
      → (ds : Items) × ReadsItems 1 old ds new × AreMet start (pairs_placed version [] 0 ds) next
      × ((directory, after) ≡ spelled_map (bind_all finite_map.empty) (pairs_of numbers ds))
  directory_whole now new next after directory r closed = (
    r.before no_items,
    r.reads no_items new (reads_no_items 1 now new closed),
    r.met no_items,
    sym (r.spelled no_items),
  )
