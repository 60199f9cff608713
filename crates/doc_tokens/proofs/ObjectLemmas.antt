-- The objects of a document, one after the other.
use Rattle.std.specs.FinMap as finite_map
use Rattle.std.specs.FinSet as finite_set
use Rattle.std.proofs.Common.{◌≡◌, ◌≤◌, ℕ, ℤ, ◌+◌, List, [], ◌∷◌, ◌++◌, Some, None, length, refl, sym, ap, subst, ◌∙◌, arith, append_assoc}
use Rattle.std.proofs.lemmas.List.{append-nil, length-append}
use Rattle.std.specs.Prelude.{codes}
use Rattle.json.specs.Json.{after_end_array}
use Rattle.json.specs.Token.{Token}
use Rattle.serde_json.specs.Data.{Data, Items, Members, array, item, no_items, no_members, object, put, string}
use Rattle.serde_json.specs.Events.{items_len}
use Rattle.atoms.specs.Item.{item_cmp}
use Rattle.atoms.specs.declared.item.Item.{Item}
use Rattle.objects.specs.Entries.{State, kinds}
use Rattle.objects.specs.declared.kind.Kind.{Kind}
use Rattle.objects.specs.declared.kind.NumberKind.{NumberKind}
use Rattle.objects.specs.declared.kind.ValueForm.TheVariants as value_form
use Rattle.objects.specs.Objects.{form_of, number_value}
use Rattle.objects.specs.declared.kind.Value.{Value}
use Rattle.objects.specs.declared.kind.Value.TheVariants as value
use Rattle.doc_tree.specs.Answer.{AreMet, IsMet}
use Rattle.doc_tree.specs.Asked.{declared_by, kind_in, names_of, number_start, object_name, object_name_asked, object_shape_asked, part}
use Rattle.doc_tree.specs.Asked.{signed_start}
use Rattle.doc_rules.specs.Limits.{limits_of}
use Rattle.doc_tree.specs.Places.{elements_placed, entries_placed, pairs_placed}
use Rattle.doc_tree.specs.Places.{inside, item_at, itself, member_named, nothing, object_placed, objects_placed, seek, start_placed}
use Rattle.doc_tree.specs.Scope.{Numbers, Setting, Table}
use Rattle.doc_tree.specs.Spelled.{bind_all, entries_of, pairs_of, put_all, spelled_map, start_of, starts_of}
use Rattle.doc_tree.specs.declared.counts.Counts.{Counts}
use Rattle.doc_tree.proofs.ListLemmas.{in_front, in_front_none, in_front_push, kinds_of_starts, same_setting}
use Rattle.doc_tree.proofs.PlaceLemmas.{own_first, part_met}
use Rattle.vocabulary.specs.Words.{kind_of_text}
use Rattle.doc_tokens.specs.Pulled.{ReadsItems, ReadsMembers, ReadsValue, first_key}
use Rattle.doc_tokens.specs.PulledObjects.{begun_by, declaration}
use Rattle.doc_tokens.proofs.PulledLemmas.{reads_item, reads_member, reads_no_items, reads_no_members, reads_object, reads_string}

-- ---- an object in the common form

module _ (version : ℕ) (name text : List ℕ) (v : Data) (k : Kind) (known : kind_of_text version text ≡ Some k) where
  pub declared_kind : kind_in version (declaration name text v) ≡ k
  declared_kind = rw known refl

  declared_shape : (c : Counts) → IsMet c (object_shape_asked version (declaration name text v)) c
  unfolding object_shape_asked
  declared_shape c = rw known refl

  -- what is asked of its parts is what is asked of the whole
  pub declared_met : (names : Table) (start next : Counts) → IsMet start (object_name_asked version names name) start
      → AreMet start (start_placed version k v) next → AreMet start (object_placed version names (declaration name text v)) next
  unfolding object_placed
  declared_met names start next named met =
      let d = declaration name text v in
      let rest = inside (member_named (codes "start")) (start_placed version k v) nothing in
      rw declared_kind (own_first start start (object_shape_asked version d) (itself (object_name_asked version names name) rest)
      (declared_shape start)
      ∙ own_first start start (object_name_asked version names name) rest named
      ∙ part_met start next (member_named (codes "start")) (start_placed version k v) nothing met)

-- ---- its tokens

-- an object whose first member is a text
pub first_read : (a s : List ℕ) (now new : List Token) (ms : Members) → ReadsMembers 124 (put a (string s) no_members) now ms new
    → ReadsValue 125 (first_key a (Token.string s ∷ now)) (object ms) new
first_read a s now new ms reads =
    let old = Token.key a ∷ Token.string s ∷ now in
    reads_object 124 old ms new (reads_member 124 no_members a old (Token.string s ∷ now) now new (string s) ms refl (omega arith)
    (reads_string 124 s now) reads)

-- and whose second member is one
pub both_read : (a b s t : List ℕ) (now new : List Token) (ms : Members)
    → ReadsMembers 124 (put b (string t) (put a (string s) no_members)) now ms new
    → ReadsValue 125 (first_key a (Token.string s ∷ Token.key b ∷ Token.string t ∷ now)) (object ms) new
both_read a b s t now new ms reads =
    let old = Token.key b ∷ Token.string t ∷ now in
    first_read a s old new ms (reads_member 124 (put a (string s) no_members) b old (Token.string t ∷ now) now new (string t) ms refl
    (omega arith) (reads_string 124 t now) reads)

-- and whose third and last is its start
pub common_read : (a b s t : List ℕ) (v : Data) (now rest : List Token) → ReadsValue 124 now v (Token.end_object ∷ rest)
    → ReadsValue 125 (first_key a (Token.string s ∷ Token.key b ∷ Token.string t ∷ Token.key (codes "start") ∷ now))
    (begun_by a b s t v) rest
common_read a b s t v now rest reads =
    let old = Token.key (codes "start") ∷ now in
    let found = put b (string t) (put a (string s) no_members) in
    let ms = put (codes "start") v found in
    both_read a b s t old rest ms (reads_member 124 found (codes "start") old now (Token.end_object ∷ rest) rest v ms refl (omega arith)
    reads (reads_no_members 124 ms (Token.end_object ∷ rest) rest refl))

-- ---- what it starts with

module _ (version : ℕ) (c : Counts) (numbers : Numbers) (d : Data) (k : Kind) where
  pub number_met : (m : NumberKind) (n : ℕ) → form_of k ≡ value_form.Number m → number_start d ≡ Some n
      → AreMet c (start_placed version k d) c
  unfolding start_placed
  number_met m n form is = rw (form, is) refl

  pub number_spelled : (m : NumberKind) (n : ℕ) → form_of k ≡ value_form.Number m → number_start d ≡ Some n
      → (number_value m n, numbers) ≡ start_of k numbers d
  unfolding start_of
  number_spelled m n form is = rw (form, is) refl

  pub signed_met : (n : ℤ) → form_of k ≡ value_form.Signed → signed_start d ≡ Some n → AreMet c (start_placed version k d) c
  unfolding start_placed
  signed_met n form is = rw (form, is) refl

  pub signed_spelled : (n : ℤ) → form_of k ≡ value_form.Signed → signed_start d ≡ Some n
      → (value.Counter n, numbers) ≡ start_of k numbers d
  unfolding start_of
  signed_spelled n form is = rw (form, is) refl

module _ (version : ℕ) (c next : Counts) (numbers after : Numbers) (ds : Items) (k : Kind) where
  pub set_met : form_of k ≡ value_form.Set → AreMet c (elements_placed version [] 0 ds) next
      → AreMet c (start_placed version k (array ds)) next
  unfolding start_placed
  set_met form met = rw form met

  pub set_spelled : (set : finite_set.FinSet item_cmp) → form_of k ≡ value_form.Set
      → (set, after) ≡ spelled_map (put_all finite_set.empty) (entries_of numbers ds)
      → (value.Set set, after) ≡ start_of k numbers (array ds)
  unfolding start_of
  set_spelled set form is = rw form (ap (spelled_map value.Set) is)

  pub queue_met : form_of k ≡ value_form.Queue → AreMet c (entries_placed version 0 ds) next
      → AreMet c (start_placed version k (array ds)) next
  unfolding start_placed
  queue_met form met = rw form met

  pub queue_spelled : (queue : List Item) → form_of k ≡ value_form.Queue → (queue, after) ≡ entries_of numbers ds
      → (value.Queue queue, after) ≡ start_of k numbers (array ds)
  unfolding start_of
  queue_spelled queue form is = rw form (ap (spelled_map value.Queue) is)

  pub directory_met : form_of k ≡ value_form.Directory → AreMet c (pairs_placed version [] 0 ds) next
      → AreMet c (start_placed version k (array ds)) next
  unfolding start_placed
  directory_met form met = rw form met

  pub directory_spelled : (directory : finite_map.FinMap item_cmp Item) → form_of k ≡ value_form.Directory
      → (directory, after) ≡ spelled_map (bind_all finite_map.empty) (pairs_of numbers ds)
      → (value.Directory directory, after) ≡ start_of k numbers (array ds)
  unfolding start_of
  directory_spelled directory form is = rw form (ap (spelled_map value.Directory) is)

-- ---- all objects

-- Of the tokens `old` the first make objects with these names and values, and `now` are left. `before` puts them in front of any that
-- follow.
pub record ObjectsRead (version : ℕ) (old now : List Token) (start next : Counts) (numbers after : Numbers) (names : Table) (values : State)
    : Type 0 where
  pub before : Items → Items
  pub reads : (ds : Items) (new : List Token) → ReadsItems 125 now ds new → ReadsItems 125 old (before ds) new
  pub met : (ds : Items) → seek start (objects_placed version [] 0 (before ds))
      ≡ seek next (objects_placed version names (length values) ds)
  pub named : (ds : Items) → names_of (before ds) ≡ names ++ names_of ds
  pub started : (ds : Items) → starts_of version numbers (before ds) ≡ in_front values (starts_of version after ds)
  pub counted : (ds : Items) → items_len (before ds) ≡ length values + items_len ds
  pub as_many : length names ≡ length values

module _ (version : ℕ) (old : List Token) (start : Counts) (numbers : Numbers) where
  pub no_objects : (names : Table) (values : State) → names ≡ [] → values ≡ []
      → ObjectsRead version old old start start numbers numbers names values
  no_objects names values unnamed none = subst (λ ns. ObjectsRead version old old start start numbers numbers ns values) (sym unnamed)
      (subst (λ vs. ObjectsRead version old old start start numbers numbers [] vs) (sym none) (record {
        before = λ ds. ds;
        reads = λ ds new reads. reads;
        met = λ ds. refl;
        named = λ ds. refl;
        started = λ ds. refl;
        counted = λ ds. omega arith;
        as_many = refl;
      }))

  -- one more object
  pub object_more : (now new : List Token) (c d : Counts) (n m : Numbers) (names all : Table) (values more : State) (o : Data) (x : Value)
      → ObjectsRead version old now start c numbers n names values → after_end_array now ≡ None → ReadsValue 125 now o new
      → AreMet c (object_placed version names o) d → (x, m) ≡ start_of (kind_in version o) n (part (codes "start") o)
      → all ≡ names ++ object_name o ∷ [] → more ≡ values ++ x ∷ [] → ObjectsRead version old new start d numbers m all more
  object_more now new c d n m names all values more o x r going first met spelt joined pushed =
      let i = length values in
      let count : length more ≡ i + 1 = ap length pushed ∙ length-append values (x ∷ []) in
      let many : length all ≡ length names + 1 = ap length joined ∙ length-append names (object_name o ∷ []) in record {
        before = λ ds. r.before (item o ds);
        reads = λ ds rest tail. r.reads (item o ds) rest (reads_item 125 now new rest o ds going first tail);
        met = λ ds. r.met (item o ds)
            ∙ part_met c d (item_at i) (object_placed version names o) (objects_placed version (names ++ object_name o ∷ []) (i + 1) ds) met
            ∙ ap (λ ns. seek d (objects_placed version ns (i + 1) ds)) (sym joined)
            ∙ ap (λ j. seek d (objects_placed version all j ds)) (sym count);
        named = λ ds. r.named (item o ds) ∙ sym (append_assoc names (object_name o ∷ []) (names_of ds))
            ∙ ap (λ ns. ns ++ names_of ds) (sym joined);
        started = λ ds. r.started (item o ds)
            ∙ ap (λ (p : Value × Numbers). in_front values (p.0 ∷ (starts_of version p.1 ds).0, (starts_of version p.1 ds).1)) (sym spelt)
            ∙ sym (in_front_push values x (starts_of version m ds)) ∙ ap (λ vs. in_front vs (starts_of version m ds)) (sym pushed);
        counted = λ ds. omega (arith, r.counted (item o ds), count);
        as_many = omega (arith, r.as_many, count, many);
      }

  -- all of them
  pub objects_whole : (now new : List Token) (next : Counts) (after : Numbers) (names : Table) (values : State)
      → ObjectsRead version old now start next numbers after names values → after_end_array now ≡ Some new
      → length values ≤ (limits_of version).objects
      → (os : Items) × ReadsItems 125 old os new × (items_len os ≤ (limits_of version).objects)
      × AreMet start (objects_placed version [] 0 os) next × (names ≡ names_of os)
      × ((let here : Setting = record { version = version; names = names; kinds = kinds values } in here) ≡ declared_by version os)
      × ((values, after) ≡ starts_of version numbers os)
  objects_whole now new next after names values r closed few =
      let os = r.before no_items in
      let named : names ≡ names_of os = sym (r.named no_items ∙ append-nil names) in
      let started : (values, after) ≡ starts_of version numbers os = sym (r.started no_items ∙ in_front_none values after) in (
        os,
        r.reads no_items new (reads_no_items 125 now new closed),
        omega (arith, r.counted no_items, few),
        r.met no_items,
        named,
        same_setting version names (kinds values) os named
            (ap (λ (p : State × Numbers). kinds p.0) started ∙ kinds_of_starts version numbers os),
        started,
      )
