-- Objects that are read one at a time.
use Rattle.std.proofs.Common.{◌≡◌, ◌<◌, ◌^◌, ℕ, suc, ◌+◌, List, [], ◌∷◌, ◌++◌, Some, None, decimal, length}
use Rattle.std.proofs.Common.{append_assoc, refl, sym, subst, ap, ◌∙◌, arith}
use Rattle.std.specs.Prelude.{codes}
use Rattle.std.proofs.lemmas.List.{append-nil, length-append}
use Rattle.json.specs.Token.{Token}
use Rattle.json.specs.Json.{after_end_array, value}
use Rattle.serde_json.specs.Data.{Data, Items, array, item, no_items}
use Rattle.serde_json.specs.Events.{items_len}
use Rattle.serde_json.specs.Find.{get_item}
use Rattle.serde_json.specs.Read.{converted, of_json}
use Rattle.objects.specs.declared.kind.Value.{Value}
use Rattle.objects.specs.Entries.{State, kinds}
use Rattle.doc_tree.specs.declared.counts.Counts.{Counts}
use Rattle.doc_tree.specs.Answer.{AreMet}
use Rattle.doc_tree.specs.Asked.{declared_by, kind_in, names_of, object_name, part}
use Rattle.doc_tree.specs.Places.{item_at, object_placed, objects_placed, seek}
use Rattle.doc_tree.specs.Scope.{Numbers, Setting, Table}
use Rattle.doc_tree.specs.Spelled.{start_of, starts_of}
use Rattle.doc_tree.proofs.ListLemmas.{in_front, in_front_none, in_front_push, kinds_of_starts, same_setting}
use Rattle.doc_tree.proofs.PlaceLemmas.{part_met, part_unmet}
use Rattle.doc_tokens.specs.Pulled.{WritesItems}
use Rattle.doc_tokens.proofs.PassLemmas.{items_ended, items_on}
use Rattle.lang.specs.declared.misread.Misread.{Misread}
use Rattle.lang.specs.Found.{IsBelow, IsFirstIn}
use Rattle.lang.proofs.MisreadLemmas.{item_first}

-- The first objects have been read, with these names and values. They come before any that follow.
pub record ObjectsLeft (version : ℕ) (old now : List Token) (start next : Counts) (numbers after : Numbers) (names : Table) (values : State)
    : Type 0 where
  pub before : Items → Items
  pub writes : (os : Items) (rest : List Token) → WritesItems 125 old os rest
      → (ds : Items) × (os ≡ before ds) × WritesItems 125 now ds rest
  pub met : (ds : Items) → seek start (objects_placed version [] 0 (before ds))
      ≡ seek next (objects_placed version names (length values) ds)
  pub named : (ds : Items) → names_of (before ds) ≡ names ++ names_of ds
  pub started : (ds : Items) → starts_of version numbers (before ds) ≡ in_front values (starts_of version after ds)
  pub counted : (ds : Items) → items_len (before ds) ≡ length values + items_len ds
  pub placed : (k : ℕ) (ds : Items) → get_item (k + length values) (before ds) ≡ get_item k ds
  pub as_many : length names ≡ length values

module _ (version : ℕ) (old : List Token) (start : Counts) (numbers : Numbers) where
  -- before the first
  pub objects_begin : (names : Table) (values : State) → names ≡ [] → values ≡ []
      → ObjectsLeft version old old start start numbers numbers names values
  objects_begin names values unnamed none = subst (λ ns. ObjectsLeft version old old start start numbers numbers ns values) (sym unnamed)
      (subst (λ vs. ObjectsLeft version old old start start numbers numbers [] vs) (sym none) (record {
        before = λ ds. ds;
        writes = λ os rest w. (os, refl, w);
        met = λ ds. refl;
        named = λ ds. refl;
        started = λ ds. refl;
        counted = λ ds. omega arith;
        placed = λ k ds. ap (λ n. get_item n ds) (omega arith);
        as_many = refl;
      }))

  module _ (now mid new : List Token) (c d : Counts) (n m : Numbers) (names all : Table) (values more : State) (o : Data)
      (r : ObjectsLeft version old now start c numbers n names values) (going : after_end_array now ≡ None)
      (read : converted of_json (value 125 now) ≡ Some (o, mid)) where
    -- the objects from this one on
    pub objects_here : (os : Items) (rest : List Token) → WritesItems 125 old os rest
        → (later : Items) × (os ≡ r.before (item o later)) × WritesItems 125 mid later rest
    objects_here os rest w =
        let here = r.writes os rest w in
        let next = items_on 125 now here.0 rest here.2 o mid going read in
        (next.0, here.1 ∙ ap r.before next.1, next.2)

    -- with one more
    pub objects_next : (x : Value) → AreMet c (object_placed version names o) d
        → (x, m) ≡ start_of (kind_in version o) n (part (codes "start") o) → all ≡ names ++ object_name o ∷ [] → more ≡ values ++ x ∷ []
        → ObjectsLeft version old mid start d numbers m all more
    objects_next x met spelt joined pushed =
        let i = length values in
        let count : length more ≡ i + 1 = ap length pushed ∙ length-append values (x ∷ []) in
        let many : length all ≡ length names + 1 = ap length joined ∙ length-append names (object_name o ∷ []) in record {
          before = λ ds. r.before (item o ds);
          writes = objects_here;
          met = λ ds. r.met (item o ds)
              ∙ part_met c d (item_at i) (object_placed version names o) (objects_placed version (names ++ object_name o ∷ []) (i + 1) ds)
              met
              ∙ ap (λ ns. seek d (objects_placed version ns (i + 1) ds)) (sym joined)
              ∙ ap (λ j. seek d (objects_placed version all j ds)) (sym count);
          named = λ ds. r.named (item o ds) ∙ sym (append_assoc names (object_name o ∷ []) (names_of ds))
              ∙ ap (λ ns. ns ++ names_of ds) (sym joined);
          started = λ ds. r.started (item o ds)
              ∙ ap (λ (p : Value × Numbers). in_front values (p.0 ∷ (starts_of version p.1 ds).0, (starts_of version p.1 ds).1)) (sym spelt)
              ∙ sym (in_front_push values x (starts_of version m ds)) ∙ ap (λ vs. in_front vs (starts_of version m ds)) (sym pushed);
          counted = λ ds. omega (arith, r.counted (item o ds), count);
          placed = λ k ds. ap (λ j. get_item j (r.before (item o ds))) (omega (arith, count)) ∙ r.placed (suc k) (item o ds);
          as_many = omega (arith, r.as_many, count, many);
        }

    -- the first fault of this one is the first of all
    pub object_fault : (os : Items) (rest : List Token) (e misread : Misread) → WritesItems 125 old os rest → length values < 2 ^ 64
        → IsFirstIn c (object_placed version names o) o e → IsBelow (decimal (length values)) e misread
        → IsFirstIn start (objects_placed version [] 0 os) (array os) misread
    object_fault os rest e misread w small failed seen =
        let here = objects_here os rest w in
        let i = length values in
        let all = r.before (item o here.0) in
        let later = objects_placed version (names ++ object_name o ∷ []) (i + 1) here.0 in
        subst (λ ds. IsFirstIn start (objects_placed version [] 0 ds) (array ds) misread) (sym here.1)
        (item_first all i o small (ap (λ n. get_item n all) (omega arith) ∙ r.placed 0 (item o here.0)) c start
        (object_placed version names o) (objects_placed version [] 0 all) e misread
        (λ found is. r.met (item o here.0) ∙ part_unmet c found (item_at i) (object_placed version names o) later is) failed seen)

  -- all of them
  pub objects_done : (now new : List Token) (next : Counts) (after : Numbers) (names : Table) (values : State)
      → ObjectsLeft version old now start next numbers after names values → after_end_array now ≡ Some new
      → (os : Items) (rest : List Token) → WritesItems 125 old os rest
      → AreMet start (objects_placed version [] 0 os) next
      × ((let here : Setting = record { version = version; names = names; kinds = kinds values } in here) ≡ declared_by version os)
      × ((values, after) ≡ starts_of version numbers os)
  objects_done now new next after names values r closed os rest w =
      let here = r.writes os rest w in
      let same : os ≡ r.before no_items = here.1 ∙ ap r.before (items_ended 125 now here.0 rest here.2 new closed).0 in
      let named : names ≡ names_of os = sym (r.named no_items ∙ append-nil names) ∙ ap names_of (sym same) in
      let started : (values, after) ≡ starts_of version numbers os =
      sym (r.started no_items ∙ in_front_none values after) ∙ ap (starts_of version numbers) (sym same) in (
        ap (λ ds. seek start (objects_placed version [] 0 ds)) same ∙ r.met no_items,
        same_setting version names (kinds values) os named
            (ap (λ (p : State × Numbers). kinds p.0) started ∙ kinds_of_starts version numbers os),
        started,
      )
