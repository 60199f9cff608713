-- Texts by number, as the keys of a set.
use Rattle.std.proofs.Common.{◌≡◌, ◌<◌, ◌+◌, ◌||◌, ℕ, suc, Bool, true, false, not, cond, List, [], ◌∷◌, ◌++◌, Some, None, String, Global}
use Rattle.std.proofs.Common.{string_bytes, get_or, refl, ap, ap₂, sym, ◌∙◌, arith}
use Rattle.std.proofs.lemmas.Bool.{false_from_ne_true, ltb-true}
use Rattle.std.specs.Prelude.{nat_lt, position, length}
use Rattle.std.specs.List.{IsDistinct, list_any, position_or_len}
use Rattle.std.specs.Str.{bytes_eq}
use Rattle.std.specs.String.{string_eq}
use Rattle.std.proofs.lemmas.List.Sums.{position_or_len_is}
use Rattle.std.proofs.lemmas.Map.Keys.{apart_from_distinct}
use Rattle.std.proofs.lemmas.Slice.Eq.{bytes_eq-Decides}
use Rattle.batch.specs.Names.{texts_of}
use Rattle.doc_tree.specs.Scope.{Table, place_of, is_listed, with_text}

first_of_keys : (text : List ℕ) (keys : List (String Global)) → position_or_len (bytes_eq text) (texts_of keys) ≡ position_or_len
    (λ k. bytes_eq text (string_bytes k)) keys
first_of_keys text [] = refl
first_of_keys text (k ∷ keys) = simp (first_of_keys text keys)

-- the place of a text that joins the keys of a set, or is there
pub insert_index-texts : (text : List ℕ) (keys : List (String Global)) (k : String Global) → string_bytes k ≡ text
    → position_or_len (string_eq k) keys ≡ position_or_len (bytes_eq text) (texts_of keys)
insert_index-texts text keys k is =
    sym (first_of_keys (string_bytes k) keys) ∙ ap (λ t. position_or_len (bytes_eq t) (texts_of keys)) is

pub length-texts_of : (keys : List (String Global)) → length (texts_of keys) ≡ length keys
length-texts_of [] = refl
length-texts_of (k ∷ keys) = ap suc (length-texts_of keys)

-- the place of a text among the keys of a set
pub place_of-keys : (text : List ℕ) (keys : List (String Global)) → place_of text (texts_of keys) ≡ position
    (λ k. bytes_eq text (string_bytes k)) keys
place_of-keys text keys = rw (first_of_keys text keys, length-texts_of keys) refl

-- whether a text is among the keys of a set
pub is_listed-keys : (text : List ℕ) (keys : List (String Global)) → is_listed text (texts_of keys) ≡ list_any
    (λ k. bytes_eq text (string_bytes k)) keys
is_listed-keys text [] = refl
is_listed-keys text (k ∷ keys) = simp (is_listed-keys text keys)

texts_of-append : (keys : List (String Global)) (k : String Global) → texts_of (keys ++ k ∷ []) ≡ texts_of keys ++ string_bytes k ∷ []
texts_of-append [] k = refl
texts_of-append (l ∷ keys) k = ap (λ rest. string_bytes l ∷ rest) (texts_of-append keys k)

goes_last : (b : Bool) (keys : List (String Global)) (k : String Global) → b ≡ false → texts_of (cond b keys (keys ++ k ∷ []))
    ≡ texts_of keys ++ string_bytes k ∷ []
goes_last true keys k new = cc
goes_last false keys k new = texts_of-append keys k

-- a text that is new goes last
pub new_text : (text : List ℕ) (keys : List (String Global)) (k : String Global) → string_bytes k ≡ text
    → is_listed text (texts_of keys) ≡ false
    → texts_of (cond (list_any (λ l. bytes_eq (string_bytes k) (string_bytes l)) keys) keys (keys ++ k ∷ [])) ≡ texts_of keys ++ text ∷ []
new_text text keys k is new =
    goes_last _ keys k (sym (is_listed-keys (string_bytes k) keys) ∙ ap (λ t. is_listed t (texts_of keys)) is ∙ new)
    ∙ ap (λ t. texts_of keys ++ t ∷ []) is

-- the texts of a list that has one key more, or not
shown : (b : Bool) (keys : List (String Global)) (k : String Global)
    → texts_of (cond b keys (keys ++ k ∷ [])) ≡ cond b (texts_of keys) (texts_of keys ++ string_bytes k ∷ [])
shown true keys k = refl
shown false keys k = texts_of-append keys k

-- whether a text is among the keys of a set, by a look into it with a key of the same bytes
pub is_listed-contains : (text : List ℕ) (keys : List (String Global)) (k : String Global) → string_bytes k ≡ text
    → list_any (λ l. bytes_eq (string_bytes k) (string_bytes l)) keys ≡ is_listed text (texts_of keys)
is_listed-contains text keys k is = sym (is_listed-keys (string_bytes k) keys) ∙ ap (λ t. is_listed t (texts_of keys)) is

-- a text goes last if it is new, and else adds nothing
pub texts_of-insert : (text : List ℕ) (keys : List (String Global)) (k : String Global) → string_bytes k ≡ text
    → texts_of (cond (list_any (λ l. bytes_eq (string_bytes k) (string_bytes l)) keys) keys (keys ++ k ∷ []))
    ≡ with_text text (texts_of keys)
texts_of-insert text keys k is =
    shown (list_any (λ l. bytes_eq (string_bytes k) (string_bytes l)) keys) keys k
    ∙ ap₂ (λ b t. cond b (texts_of keys) (texts_of keys ++ t ∷ [])) (is_listed-contains text keys k is) is

listed_there : (text : List ℕ) (table : Table) → position_or_len (bytes_eq text) table < length table → is_listed text table ≡ true
listed_there text [] h = absurd (omega arith)
listed_there text (t ∷ table) h = by (bytes_eq text t) (listed_there text table) h
  where
    by : (b : Bool) → (position_or_len (bytes_eq text) table < length table → is_listed text table ≡ true)
        → cond (not b) (1 + position_or_len (bytes_eq text) table) 0 < length (t ∷ table) → (b || is_listed text table) ≡ true
    by true later h = refl
    by false later h = later (omega arith)

-- a text that is in the table adds nothing, and has its place
pub listed_text : (text : List ℕ) (table : Table) (i : ℕ) → place_of text table ≡ Some i → (i ≡ position_or_len (bytes_eq text) table)
    × (is_listed text table ≡ true)
listed_text text table i at = by (nat_lt (position_or_len (bytes_eq text) table) (length table)) refl at
  where
    by : (b : Bool) → nat_lt (position_or_len (bytes_eq text) table) (length table) ≡ b
        → cond b (Some (position_or_len (bytes_eq text) table)) None ≡ Some i → (i ≡ position_or_len (bytes_eq text) table)
        × (is_listed text table ≡ true)
    by true lt e = (cc, listed_there text table (ltb-true _ _ lt))
    by false lt e = cc

pub unlisted_text : (text : List ℕ) (table : Table) → is_listed text table ≡ false → position_or_len (bytes_eq text) table ≡ length table
unlisted_text text [] h = refl
unlisted_text text (t ∷ table) h = by (bytes_eq text t) (unlisted_text text table) h
  where
    by : (b : Bool) → (is_listed text table ≡ false → position_or_len (bytes_eq text) table ≡ length table)
        → (b || is_listed text table) ≡ false → cond (not b) (1 + position_or_len (bytes_eq text) table) 0 ≡ length (t ∷ table)
    by true later h = cc
    by false later h = omega (arith, later h)

other_key : (text : List ℕ) (k l : String Global) → bytes_eq (string_bytes k) text ≡ true → string_eq l k ≡ false
    → bytes_eq text (string_bytes l) ≡ false
other_key text k l is other = false_from_ne_true _ (λ same.
    let alike : string_eq l k ≡ true = (bytes_eq-Decides (string_bytes l) (string_bytes k)).1
    (sym ((bytes_eq-Decides (string_bytes k) text).0 is ∙ (bytes_eq-Decides text (string_bytes l)).0 same)) in cc)

-- the place of a key is that of its text, as keys differ
pub place_of_key : (text : List ℕ) (keys : List (String Global)) (i : ℕ) (k : String Global) → IsDistinct string_eq keys
    → nat_lt i (length keys) ≡ true → get_or keys i k ≡ k → bytes_eq (string_bytes k) text ≡ true → place_of text (texts_of keys) ≡ Some i
place_of_key text keys i k distinct within here is =
    let test = λ (l : String Global). bytes_eq text (string_bytes l) in
    let lt : i < length keys = ltb-true _ _ within in
    let first : position_or_len test keys ≡ i = position_or_len_is test keys i k (omega arith)
    (λ j before. other_key text k (get_or keys j k) is (rw here at (apart_from_distinct string_eq keys j i k distinct before lt)))
    (λ _. ap test here ∙ (bytes_eq-Decides text (string_bytes k)).1 (sym ((bytes_eq-Decides (string_bytes k) text).0 is))) in
    place_of-keys text keys ∙ ap (λ n. cond (nat_lt n (length keys)) (Some n) None) first ∙ ap (λ b. cond b (Some i) None) within
