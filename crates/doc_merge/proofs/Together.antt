-- Tables of texts, put together one after the other: which have a text, and which numbers texts have.
use Rattle.std.proofs.Common.{◌≡◌, ◌<◌, ℕ, zero, suc, ◌||◌, ◌+◌, Bool, true, false, cond, List, [], ◌∷◌, ◌++◌, Option, Some, None}
use Rattle.std.proofs.Common.{length, get_or, refl}
use Rattle.std.proofs.Common.{sym, ap, subst, ◌∙◌, append_assoc, append-nil, take, arith}
use Rattle.std.proofs.lemmas.List.{get_or-map}
use Rattle.std.proofs.lemmas.List.Folds.{list_any-append}
use Rattle.std.specs.List.{position_or_len}
use Rattle.std.specs.Str.{bytes_eq}
use Rattle.doc_tree.specs.Scope.{Table, fit, is_listed, number_of, place_of, with_text}
use Rattle.doc_tree.proofs.TableLemmas.{listed_text, unlisted_text}
use Rattle.doc_merge.specs.Renumbered.{merged, numbers_in}
use Rattle.doc_merge.specs.Tables.{AreFound, AreNumbered, AreTextPlaces, AreWithout, IsNext, all_merged}
use Rattle.doc_merge.specs.declared.tables.TextPlace.{TextPlace}
use Rattle.doc_merge.proofs.NumberedTexts.{Grows, grows_both, grows_none, grows_text, listed_at, listed_kept, number_later}
use Rattle.doc_merge.proofs.Merging.{Merging, merging_more}
use Rattle.doc_merge.proofs.OwnNumbers.{Apart, not_before}
use Rattle.doc_merge.proofs.ReadAfter.{first_merged, other_merged}

-- a text that is neither among these nor the one more
unlisted_put : (text t : List ℕ) (table : Table) → is_listed text table ≡ false → bytes_eq text t ≡ false
    → is_listed text (with_text t table) ≡ false
unlisted_put text t table unseen other = by (is_listed t table)
  where
    by : (b : Bool) → is_listed text (cond b table (table ++ t ∷ [])) ≡ false
    by true = unseen
    by false = list_any-append (bytes_eq text) table (t ∷ []) ∙ (λ i. unseen i || (other i || false))

-- a text that neither of two tables has
unlisted_merged : (text : List ℕ) (table texts : Table) → is_listed text table ≡ false → is_listed text texts ≡ false
    → is_listed text (merged table texts) ≡ false
unlisted_merged text table [] unseen none = unseen
unlisted_merged text table (t ∷ texts) unseen none =
    by (bytes_eq text t) refl (unlisted_merged text (with_text t table) texts) none
  where
    by : (b : Bool) → bytes_eq text t ≡ b
        → (is_listed text (with_text t table) ≡ false → is_listed text texts ≡ false → is_listed text (merged (with_text t table) texts) ≡
        false)
        → (b || is_listed text texts) ≡ false → is_listed text (merged (with_text t table) texts) ≡ false
    by true e later h = cc
    by false e later h = later (unlisted_put text t table unseen e) h

-- a text that none of many tables has
unlisted_all : (text : List ℕ) (tables : List Table) (base : Table) → is_listed text base ≡ false → AreWithout tables text
    → is_listed text (all_merged base tables) ≡ false
unlisted_all text [] base unseen without = unseen
unlisted_all text (table ∷ tables) base unseen without =
    unlisted_all text tables (merged base table) (unlisted_merged text base table unseen without.0) without.1

-- a table that others are put after
merged_grows : (table texts : Table) → Grows table (merged table texts)
merged_grows table [] = grows_none table
merged_grows table (t ∷ texts) =
    grows_both table (with_text t table) (merged (with_text t table) texts) (grows_text t table) (merged_grows (with_text t table) texts)

all_grows : (tables : List Table) (base : Table) → Grows base (all_merged base tables)
all_grows [] base = grows_none base
all_grows (table ∷ tables) base =
    grows_both base (merged base table) (all_merged (merged base table) tables) (merged_grows base table)
    (all_grows tables (merged base table))

-- a text that is listed isn't put once more
with_listed : (text : List ℕ) (table : Table) → is_listed text table ≡ true → with_text text table ≡ table
with_listed text table e = ap (λ b. cond b table (table ++ text ∷ [])) e

-- a text that is listed keeps its number in a later table
listed_later : (text : List ℕ) (table later : Table) → is_listed text table ≡ true → Grows table later
    → number_of text table ≡ number_of text later
listed_later text table later listed grows =
    number_later text table later (subst (λ t. Grows t later) (sym (with_listed text table listed)) grows)

-- the number of a text that is at a place of one of the tables, and that it is listed
known_number : (text : List ℕ) (tables : List Table) (base : Table) (numbers : List (List ℕ)) (q x : ℕ)
    → AreNumbered base tables numbers → q < length tables → place_of text (get_or tables q []) ≡ Some x
    → (get_or (get_or numbers q []) x 0 ≡ number_of text (all_merged base tables)) × (is_listed text (all_merged base tables) ≡ true)
known_number text [] base numbers q x numbered below at = absurd (omega (arith, below))
known_number text (table ∷ tables) base [] q x numbered below at = absurd numbered
known_number text (table ∷ tables) base (own ∷ others) zero x numbered below at =
    let next = merged base table in
    let found = listed_text text table x at in
    let listed = other_merged text base table found.1 in
    let there = listed_at text table found.1 in
    let place = position_or_len (bytes_eq text) table in
    let grows = all_grows tables next in
    let first : get_or own x 0 ≡ number_of text next =
    (λ i. get_or (numbered.0 i) (found.0 i) 0) ∙ get_or-map (λ t. number_of t next) table place [] 0 there.below
    ∙ ap (λ t. number_of t next) there.there in (
      first ∙ listed_later text next (all_merged next tables) listed grows,
      ap (is_listed text) grows.1 ∙ listed_kept text next grows.0 listed,
    )
known_number text (table ∷ tables) base (own ∷ others) (suc q) x numbered below at =
    known_number text tables (merged base table) others q x numbered.1 (omega (arith, below)) at

module _ (text : List ℕ) (tables : List Table) (first done : Table) (all : all_merged [] tables ≡ first) where
  -- a text that is known from earlier tables has its number there, and isn't put once more
  pub next_known : (numbers : List (List ℕ)) (q x : ℕ) → AreNumbered [] tables numbers → q < length tables
      → place_of text (get_or tables q []) ≡ Some x
      → (get_or (get_or numbers q []) x 0 ≡ number_of text (merged first done)) × (with_text text (merged first done) ≡ merged first done)
  next_known numbers q x numbered below at =
      let known = known_number text tables [] numbers q x numbered below at in
      let listed : is_listed text first ≡ true = sym (ap (is_listed text) all) ∙ known.1 in (
        known.0 ∙ ap (number_of text) all ∙ listed_later text first (merged first done) listed (merged_grows first done),
        with_listed text (merged first done) (first_merged text first done listed),
      )

  -- one that no earlier table has, nor those before it in its own, comes last
  pub next_new : (rest : Table) → AreWithout tables text → Apart (done ++ text ∷ rest)
      → (fit (length (merged first done)) ≡ number_of text (merged first done))
      × (with_text text (merged first done) ≡ merged first done ++ text ∷ [])
  next_new rest without apart =
      let before : is_listed text first ≡ false = sym (ap (is_listed text) all) ∙ unlisted_all text tables [] refl without in
      let table = merged first done in
      let unseen = unlisted_merged text first done before (not_before done text rest apart) in (
        ap fit (sym (unlisted_text text table unseen)),
        ap (λ b. cond b table (table ++ text ∷ [])) unseen,
      )

module _ (first all table : Table) (own : List ℕ) (text : List ℕ) (rest : Table) (numbers : List (List ℕ))
    (others : List (Option TextPlace)) (n : ℕ) (m : Merging first all table own (text ∷ rest)) where
  -- the texts so far, once one was put that is known
  pub put_known : (at : TextPlace) → IsNext first numbers (text ∷ rest) (Some at ∷ others)
      → n ≡ get_or (get_or numbers at.table []) at.place 0
      → Merging first all table (own ++ n ∷ []) rest × IsNext first numbers rest others
  put_known at next is =
      let known = next_known text next.0 first m.done next.1 numbers at.table at.place next.2 next.3.0.0 next.3.0.1 in
      let number : n ≡ number_of text table = is ∙ known.0 ∙ ap (number_of text) (sym m.now) in
      let same : with_text text table ≡ table = ap (with_text text) m.now ∙ known.1 ∙ sym m.now in
      let more = merging_more first all table own text rest m in (
        subst (λ t. Merging first all t (own ++ n ∷ []) rest) same
            (subst (λ k. Merging first all (with_text text table) (own ++ k ∷ []) rest) (sym number) more),
        (next.0, next.1, next.2, next.3.1),
      )

  -- and once one was put that is new
  pub put_new : Apart all → IsNext first numbers (text ∷ rest) (None ∷ others) → n ≡ fit (length table)
      → Merging first all (table ++ text ∷ []) (own ++ n ∷ []) rest × IsNext first numbers rest others
  put_new apart next is =
      let new = next_new text next.0 first m.done next.1 rest next.3.0 (subst Apart m.split apart) in
      let number : n ≡ number_of text table = is ∙ ap (λ t. fit (length t)) m.now ∙ new.0 ∙ ap (number_of text) (sym m.now) in
      let same : with_text text table ≡ table ++ text ∷ [] =
      ap (with_text text) m.now ∙ new.1 ∙ ap (λ t. t ++ text ∷ []) (sym m.now) in
      let more = merging_more first all table own text rest m in (
        subst (λ t. Merging first all t (own ++ n ∷ []) rest) same
            (subst (λ k. Merging first all (with_text text table) (own ++ k ∷ []) rest) (sym number) more),
        (next.0, next.1, next.2, next.3.1),
      )

-- one table more without a text
pub without_more : (text : List ℕ) (tables : List Table) (k : ℕ) → AreWithout (take k tables) text
    → is_listed text (get_or tables k []) ≡ false → k < length tables → AreWithout (take (k + 1) tables) text
without_more text [] k without unseen below = absurd (omega (arith, below))
without_more text (table ∷ tables) zero without unseen below = (unseen, tt)
without_more text (table ∷ tables) (suc k) without unseen below =
    let next : suc (k + 1) ≡ suc k + 1 = omega arith in
    subst (λ n. AreWithout (take n (table ∷ tables)) text) next
    (without.0, without_more text tables k without.1 unseen (omega (arith, below)))

-- what was found of each table, in those before it
pub found_each : (tables before : List Table) (found : List (List (Option TextPlace))) → length found ≡ length tables
    → ((i : ℕ) → i < length tables → AreTextPlaces (before ++ take i tables) (get_or tables i []) (get_or found i []))
    → AreFound before tables found
found_each [] before [] size each = tt
found_each [] before (places ∷ found) size each = absurd (omega (arith, size))
found_each (table ∷ tables) before [] size each = absurd (omega (arith, size))
found_each (table ∷ tables) before (places ∷ found) size each = (
  subst (λ b. AreTextPlaces b table places) (append-nil before) (each 0 (omega arith)),
  found_each tables (before ++ table ∷ []) found (omega (arith, size)) (λ i below.
      subst (λ b. AreTextPlaces b (get_or tables i []) (get_or found i [])) (sym (append_assoc before (table ∷ []) (take i tables)))
      (each (suc i) (omega (arith, below)))),
)

-- one table more
all_merged_last : (base : Table) (tables : List Table) (table : Table)
    → all_merged base (tables ++ table ∷ []) ≡ merged (all_merged base tables) table
all_merged_last base [] table = refl
all_merged_last base (first ∷ tables) table = all_merged_last (merged base first) tables table

numbered_last : (base : Table) (tables : List Table) (numbers : List (List ℕ)) (table : Table) (own : List ℕ)
    → AreNumbered base tables numbers → own ≡ numbers_in (merged (all_merged base tables) table) table
    → AreNumbered base (tables ++ table ∷ []) (numbers ++ own ∷ [])
numbered_last base [] [] table own numbered is = (is, tt)
numbered_last base [] (ns ∷ numbers) table own numbered is = absurd numbered
numbered_last base (first ∷ tables) [] table own numbered is = absurd numbered
numbered_last base (first ∷ tables) (ns ∷ numbers) table own numbered is =
    (numbered.0, numbered_last (merged base first) tables numbers table own numbered.1 is)

-- there are numbers of each table
pub numbered_size : (base : Table) (tables : List Table) (numbers : List (List ℕ)) → AreNumbered base tables numbers
    → length numbers ≡ length tables
numbered_size base [] [] numbered = refl
numbered_size base [] (ns ∷ numbers) numbered = absurd numbered
numbered_size base (table ∷ tables) [] numbered = absurd numbered
numbered_size base (table ∷ tables) (ns ∷ numbers) numbered = ap suc (numbered_size (merged base table) tables numbers numbered.1)

-- there is what was found of each table
pub found_size : (before tables : List Table) (found : List (List (Option TextPlace))) → AreFound before tables found
    → length found ≡ length tables
found_size before [] [] are = refl
found_size before [] (places ∷ found) are = absurd are
found_size before (table ∷ tables) [] are = absurd are
found_size before (table ∷ tables) (places ∷ found) are = ap suc (found_size (before ++ table ∷ []) tables found are.1)

-- there is a place for each text
pub places_size : (tables : List Table) (texts : Table) (places : List (Option TextPlace)) → AreTextPlaces tables texts places
    → length places ≡ length texts
places_size tables [] [] are = refl
places_size tables [] (place ∷ places) are = absurd are
places_size tables (text ∷ texts) [] are = absurd are
places_size tables (text ∷ texts) (place ∷ places) are = ap suc (places_size tables texts places are.1)

-- Of all the tables some were put together, to these texts with these numbers. The texts of those that are left were found so.
pub record Together (all : List Table) (texts : Table) (numbers : List (List ℕ)) (rest : List Table)
    (places : List (List (Option TextPlace))) : Type 0 where
  pub done : List Table
  pub split : all ≡ done ++ rest
  pub now : texts ≡ all_merged [] done
  pub numbered : AreNumbered [] done numbers
  pub found : AreFound done rest places

pub together_none : (all : List Table) (places : List (List (Option TextPlace))) → AreFound [] all places → Together all [] [] all places
together_none all places found = record { done = []; split = refl; now = refl; numbered = tt; found = found }

pub together_more : (all : List Table) (texts : Table) (numbers : List (List ℕ)) (table : Table) (rest : List Table)
    (here : List (Option TextPlace)) (others : List (List (Option TextPlace))) (own : List ℕ)
    → Together all texts numbers (table ∷ rest) (here ∷ others) → own ≡ numbers_in (merged texts table) table
    → Together all (merged texts table) (numbers ++ own ∷ []) rest others
together_more all texts numbers table rest here others own t is = record {
  done = t.done ++ table ∷ [];
  split = t.split ∙ sym (append_assoc t.done (table ∷ []) rest);
  now = ap (λ x. merged x table) t.now ∙ sym (all_merged_last [] t.done table);
  numbered = numbered_last [] t.done numbers table own t.numbered (is ∙ ap (λ x. numbers_in (merged x table) table) t.now);
  found = t.found.1;
}

pub together_all : (all : List Table) (texts : Table) (numbers : List (List ℕ)) (places : List (List (Option TextPlace)))
    → Together all texts numbers [] places → (texts ≡ all_merged [] all) × AreNumbered [] all numbers
together_all all texts numbers places t =
    let whole = sym (append-nil t.done) ∙ sym t.split in (
      t.now ∙ ap (all_merged []) whole,
      subst (λ ts. AreNumbered [] ts numbers) whole t.numbered,
    )
