-- The objects of a next document with carried ones: their names are apart, and they have those of the next at their places.
use Rattle.std.proofs.Common.{◌≡◌, ◌≢◌, ℕ, zero, suc, ◌+◌, ◌≤◌, ◌||◌, inl, inr, Bool, true, false, cond, List, [], ◌∷◌, ◌++◌}
use Rattle.std.proofs.Common.{length, map, get_or, Option, None, Some, refl, sym, ap, subst, ◌∙◌, arith, length-append}
use Rattle.std.specs.Prelude.{nat_le, nat_lt, option_and_then, option_map, slice_get, unwrap_or}
use Rattle.std.specs.List.{AllByRecursion, position_or_len}
use Rattle.std.specs.Str.{bytes_eq}
use Rattle.std.proofs.lemmas.Bool.{le-leb, leb-false, leb-true, lt-ltb, ltb-true}
use Rattle.std.proofs.lemmas.Slice.Eq.{bytes_eq-Decides}
use Rattle.objects.specs.Entries.{State, kinds}
use Rattle.objects.specs.Objects.{kind_of_value}
use Rattle.objects.specs.declared.kind.Kind.{Kind}
use Rattle.objects.specs.declared.kind.Value.{Value}
use Rattle.vocabulary.specs.Words.{kind_of_text, kind_text, verb_of_text}
use Rattle.vocabulary.specs.declared.verb.Verb.{Verb}
use Rattle.batch.specs.Names.{names_of}
use Rattle.doc_tree.specs.Asked.{kinds_of}
use Rattle.doc_rules.specs.declared.limits.TheConstants.{LAST_VERSION}
use Rattle.doc_tree.specs.Scope.{Setting, Table, is_listed, place_of}
use Rattle.doc_tree.proofs.TableLemmas.{listed_text}
use Rattle.lang.proofs.Bound.{found, within}
use Rattle.carry.specs.Joined.{Named, StartOf, added, are_of_one_kind, ended, first_clash, joined, name_of, own, start_at, start_of}
use Rattle.carry.specs.Joined.{value_of}
use Rattle.carry.specs.declared.document.TheConstants.{FIRST_CARRIED}
use Rattle.carry_laws.specs.Carrying.{IsCarriedVersion, object_names}
use Rattle.carry_laws.specs.Joined.{starts_data}
use Rattle.carry_laws.proofs.Among.{Among, Apart, each_of, of_each}
use Rattle.carry_laws.proofs.CarriedFaultless.{kind_is}
use Rattle.carry_laws.proofs.KindWords.{carried_verbs, kind_back, verbs_before}
use Rattle.carry_laws.proofs.NamedTexts.{names_from}
use Rattle.doc_merge.proofs.NumberedTexts.{first_listed, listed_at, listed_kept}
use Rattle.carry_laws.proofs.LaterNames.{name_later}
use Rattle.carry_laws.proofs.LimitsSince.{limits_since}
use Rattle.carry_laws.proofs.OtherSetting.{Declares}

-- ---- names

module _ (first next : Named) where
  -- what is taken from the first has the name that was looked for
  ended_name : (name : List ℕ) (s : StartOf) → name_of s ≡ name → name_of (unwrap_or (ended first name) s) ≡ name
  ended_name name s named = by (place_of name first.texts.objects) refl
    where
      by_value : (n : ℕ) (o : Option Value) → get_or first.texts.objects n [] ≡ name
          → name_of (unwrap_or (option_map (start_of first n) o) s) ≡ name
      by_value n None there = named
      by_value n (Some v) there = there

      by : (o : Option ℕ) → place_of name first.texts.objects ≡ o → name_of (unwrap_or (option_and_then (start_at first) o) s) ≡ name
      by None here = named
      by (Some n) here =
          let at = listed_text name first.texts.objects n here in
          by_value n (slice_get first.values n)
          (ap (λ i. get_or first.texts.objects i []) at.0 ∙ (listed_at name first.texts.objects at.1).there)

  -- the objects of the next keep their names
  own_names : (n : ℕ) (values : State) → map name_of (own first next n values) ≡ object_names (names_of next.texts) n values
  own_names n [] = refl
  own_names n (v ∷ values) =
      let name = get_or next.texts.objects n [] in
      let one = ended_name name (start_of next n v) refl in
      let rest = own_names (n + 1) values in
      λ i. one i ∷ rest i

  -- the names that are added are among the first's, and in none that are known
  added_new : (known : Table) (n : ℕ) (values : State)
      → AllByRecursion (λ text. is_listed text known ≡ false) (map name_of (added first known n values))
  added_new known n [] = tt
  added_new known n (v ∷ values) = by (is_listed (get_or first.texts.objects n []) known) refl (added_new known (n + 1) values)
    where
      by : (b : Bool) → is_listed (get_or first.texts.objects n []) known ≡ b
          → AllByRecursion (λ text. is_listed text known ≡ false) (map name_of (added first known (n + 1) values))
          → AllByRecursion (λ text. is_listed text known ≡ false)
          (map name_of (cond b (added first known (n + 1) values) (start_of first n v ∷ added first known (n + 1) values)))
      by true here later = later
      by false here later = (here, later)

  -- what holds of each name of the first holds of each that is added
  each_added : (P : List ℕ → Type 0) (known : Table) (n : ℕ) (values : State)
      → AllByRecursion P (object_names (names_of first.texts) n values)
      → AllByRecursion P (map name_of (added first known n values))
  each_added P known n [] all = tt
  each_added P known n (v ∷ values) all = by (is_listed (get_or first.texts.objects n []) known) (each_added P known (n + 1) values all.1)
    where
      by : (b : Bool) → AllByRecursion P (map name_of (added first known (n + 1) values))
          → AllByRecursion P
          (map name_of (cond b (added first known (n + 1) values) (start_of first n v ∷ added first known (n + 1) values)))
      by true later = later
      by false later = (all.0, later)

  -- names that are added differ
  added_apart : (known : Table) (n : ℕ) (values : State) → Apart (object_names (names_of first.texts) n values)
      → Apart (map name_of (added first known n values))
  added_apart known n [] apart = tt
  added_apart known n (v ∷ values) apart =
      by (is_listed (get_or first.texts.objects n []) known) (added_apart known (n + 1) values apart.1)
    where
      by : (b : Bool) → Apart (map name_of (added first known (n + 1) values))
          → Apart (map name_of (cond b (added first known (n + 1) values) (start_of first n v ∷ added first known (n + 1) values)))
      by true later = later
      by false later = (each_added (λ text. get_or first.texts.objects n [] ≢ text) known (n + 1) values apart.0, later)

-- a text is listed where it is
among_listed : (text : List ℕ) (table : Table) → Among text table → is_listed text table ≡ true
among_listed text [] at = absurd at
among_listed text (t ∷ table) (inl is) = ap (λ b. b || is_listed text table) ((bytes_eq-Decides text t).1 (sym is))
among_listed text (t ∷ table) (inr at) = by (bytes_eq text t) (among_listed text table at)
  where
    by : (b : Bool) → is_listed text table ≡ true → (b || is_listed text table) ≡ true
    by true later = refl
    by false later = later

all_append : (P : List ℕ → Type 0) (xs ys : Table) → AllByRecursion P xs → AllByRecursion P ys → AllByRecursion P (xs ++ ys)
all_append P [] ys first rest = rest
all_append P (x ∷ xs) ys first rest = (first.0, all_append P xs ys first.1 rest)

-- texts that differ, and others that are not listed among them
apart_append : (xs ys : Table) → Apart xs → Apart ys → ((x y : List ℕ) → Among x xs → Among y ys → x ≢ y) → Apart (xs ++ ys)
apart_append [] ys first rest differ = rest
apart_append (x ∷ xs) ys first rest differ = (
  all_append (λ y. x ≢ y) xs ys first.0 (each_of (λ y. x ≢ y) ys (λ y at. differ x y (inl refl) at)),
  apart_append xs ys first.1 rest (λ z y at at'. differ z y (inr at) at'),
)

map_both : {A B : Type 0} (f : A → B) (xs ys : List A) → map f (xs ++ ys) ≡ map f xs ++ map f ys
map_both f [] ys = refl
map_both f (x ∷ xs) ys = ap (λ zs. f x ∷ zs) (map_both f xs ys)

module _ (first next : Named) (size : length next.texts.objects ≡ length next.values) where
  -- the names of the next come first
  pub joined_names : map name_of (joined first next)
      ≡ next.texts.objects ++ map name_of (added first next.texts.objects 0 first.values)
  joined_names =
      map_both name_of (own first next 0 next.values) (added first next.texts.objects 0 first.values)
      ∙ ap (λ names. names ++ map name_of (added first next.texts.objects 0 first.values))
      (own_names first next 0 next.values ∙ names_from next.texts 0 next.values (omega (arith, size)))

  pub joined_differ : Apart next.texts.objects → Apart (object_names (names_of first.texts) 0 first.values)
      → Apart (map name_of (joined first next))
  joined_differ apart others =
      let known = next.texts.objects in
      let more = map name_of (added first known 0 first.values) in
      let new = added_new first next known 0 first.values in
      subst Apart (sym joined_names) (apart_append known more apart (added_apart first next known 0 first.values others)
      (λ x y at at' same.
      let listed = among_listed x known at in
      let unlisted = of_each (λ text. is_listed text known ≡ false) more y new at' in
      let still = ap (λ text. is_listed text known) same in
      cc))

-- ---- kinds

abbrev pub kind_of_start : StartOf → Kind
kind_of_start start = kind_of_value start.value

-- the kinds that the starts declare
pub starts_kinds : (version : ℕ) → IsCarriedVersion version → (starts : List StartOf)
    → kinds_of version (starts_data starts) ≡ map kind_of_start starts
starts_kinds version carried [] = refl
starts_kinds version carried (start ∷ starts) =
    let one = kind_is version carried start.names start.place start.value in
    let rest = starts_kinds version carried starts in
    λ i. one i ∷ rest i

-- values that are of one kind by its word
one_kind : (v w : Value) → are_of_one_kind v w ≡ true → kind_of_value w ≡ kind_of_value v
one_kind v w same =
    let words = (bytes_eq-Decides (kind_text (kind_of_value v)) (kind_text (kind_of_value w))).0 same in
    let named = kind_back LAST_VERSION (omega arith, omega arith) in
    let back = sym (named (kind_of_value w)) ∙ ap (kind_of_text LAST_VERSION) (sym words) ∙ named (kind_of_value v) in
    cc

module _ (first next : Named) where
  -- the objects of the next keep their kinds
  own_kinds : (place n : ℕ) (values : State) (others : List StartOf) → first_clash place values (own first next n values ++ others) ≡ None
      → map kind_of_start (own first next n values ++ others) ≡ kinds values ++ map kind_of_start others
  own_kinds place n [] others none = refl
  own_kinds place n (v ∷ values) others none =
      by (are_of_one_kind v (value_of (unwrap_or (ended first (get_or next.texts.objects n [])) (start_of next n v)))) refl
      (own_kinds (place + 1) (n + 1) values others) none
    where
      start : StartOf
      start = unwrap_or (ended first (get_or next.texts.objects n [])) (start_of next n v)

      by : (b : Bool) → are_of_one_kind v (value_of start) ≡ b
          → (first_clash (place + 1) values (own first next (n + 1) values ++ others) ≡ None
          → map kind_of_start (own first next (n + 1) values ++ others) ≡ kinds values ++ map kind_of_start others)
          → cond b (first_clash (place + 1) values (own first next (n + 1) values ++ others)) (Some place) ≡ None
          → kind_of_start start ∷ map kind_of_start (own first next (n + 1) values ++ others)
          ≡ kind_of_value v ∷ (kinds values ++ map kind_of_start others)
      by true here later none_later =
          let one = one_kind v (value_of start) here in
          let rest = later none_later in
          λ i. one i ∷ rest i
      by false here later none_later = cc

  pub joined_kinds : first_clash 0 next.values (joined first next) ≡ None
      → map kind_of_start (joined first next) ≡ kinds next.values ++ map kind_of_start (added first next.texts.objects 0 first.values)
  joined_kinds none = own_kinds 0 0 next.values (added first next.texts.objects 0 first.values) none

-- ---- the setting

-- what is in a list is there with more after it
get_first : {A : Type 0} (xs more : List A) (n : ℕ) (x : A) → slice_get xs n ≡ Some x → slice_get (xs ++ more) n ≡ Some x
get_first [] more n x there = cc
get_first (y ∷ xs) more zero x there = there
get_first (y ∷ xs) more (suc n) x there = get_first xs more n x there

-- a text keeps its place with more texts after it
place_kept : (name : List ℕ) (table more : Table) → is_listed name table ≡ true → place_of name (table ++ more) ≡ place_of name table
place_kept name table more listed =
    let size = length-append table more in
    let at = within name table listed in
    let same = first_listed name table more listed in
    ap (λ n. cond (nat_lt n (length (table ++ more))) (Some n) None) same
    ∙ ap (λ b. cond b (Some (position_or_len (bytes_eq name) table)) None) (lt-ltb _ _ (omega (arith, size, at)))
    ∙ sym (found name table listed)

-- so each version has the verbs of those before
verbs_later : (old new : ℕ) → 1 ≤ old → old ≤ new → IsCarriedVersion new → (k : Kind) (word : List ℕ) (v : Verb)
    → verb_of_text old k word ≡ Some v → verb_of_text new k word ≡ Some v
verbs_later old new above later carried k word v is = by (nat_le old FIRST_CARRIED) refl
  where
    by : (b : Bool) → nat_le old FIRST_CARRIED ≡ b → verb_of_text new k word ≡ Some v
    by true few = carried_verbs new carried k word ∙ verbs_before old above (leb-true old FIRST_CARRIED few) k word v is
    by false many =
        let known = carried.1 in
        let first : IsCarriedVersion old =
        (omega (arith, leb-false old FIRST_CARRIED many), omega (arith, known, later)) in
        carried_verbs new carried k word ∙ sym (carried_verbs old first k word) ∙ is

-- what is below a limit is below one that is no less
more_below : (n few most : ℕ) → few ≤ most → nat_lt n few ≡ true → nat_lt n most ≡ true
more_below n few most le below = lt-ltb n most (omega (arith, le, ltb-true n few below))

-- an object keeps its kind with more objects after it
kind_kept : (name : List ℕ) (names more : Table) (ks others : List Kind) (k : Kind)
    → option_and_then (slice_get ks) (place_of name names) ≡ Some k
    → option_and_then (slice_get (ks ++ others)) (place_of name (names ++ more)) ≡ Some k
kind_kept name names more ks others k is = by (place_of name names) refl is
  where
    by : (o : Option ℕ) → place_of name names ≡ o → option_and_then (slice_get ks) o ≡ Some k
        → option_and_then (slice_get (ks ++ others)) (place_of name (names ++ more)) ≡ Some k
    by None here there = cc
    by (Some n) here there =
        let listed = (listed_text name names n here).1 in
        ap (option_and_then (slice_get (ks ++ others))) (place_kept name names more listed ∙ here) ∙ get_first ks others n k there

-- a setting with more objects at its end, and of a later version
pub declares_more : (old : Setting) (version : ℕ) (more : Table) (others : List Kind) → 1 ≤ old.version → old.version ≤ version
    → IsCarriedVersion version → Declares old (record { version = version; names = old.names ++ more; kinds = old.kinds ++ others })
declares_more old version more others above later carried =
    let most = limits_since old.version version later in
    let first = carried.0 in
    record {
      verbs = verbs_later old.version version above later carried;
      reasons = λ known. le-leb 3 version (omega (arith, first));
      fills = λ known. le-leb 5 version (omega (arith, leb-true 5 old.version known, later));
      operations = λ n under. more_below n _ _ most.operations under;
      nodes = λ n under. more_below n _ _ most.nodes under;
      named = name_later old.version version later;
      listed = λ name listed. listed_kept name old.names more listed;
      places = λ name listed. place_kept name old.names more listed;
      kinds = λ name k is. kind_kept name old.names more old.kinds others k is;
    }
