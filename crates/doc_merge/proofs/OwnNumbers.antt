-- A table of texts, each once: put into an empty table it is the same, and each text is at its own number.
use Rattle.std.proofs.Common.{◌≡◌, ◌<◌, ◌≤◌, ◌⊎◌, inl, inr, ℕ, true, false, cond, List, [], ◌∷◌, ◌++◌, String, Global, string_bytes}
use Rattle.std.proofs.Common.{length, get_or, refl, ap, sym, subst, ◌∙◌, append-nil, append_assoc, length-append, arith}
use Rattle.std.specs.List.{IsDistinct, position_or_len}
use Rattle.std.specs.Str.{bytes_eq}
use Rattle.std.specs.String.{string_eq}
use Rattle.std.proofs.lemmas.Bool.{cases_lt, false_from_ne_true}
use Rattle.std.proofs.lemmas.List.{get_or-append-add, get_or-map, get_or_append_left, get_or_past, length-map}
use Rattle.std.proofs.lemmas.List.Sums.{position_or_len_is}
use Rattle.std.proofs.lemmas.Map.Keys.{apart_from_distinct}
use Rattle.std.proofs.lemmas.Slice.Eq.{bytes_eq-Decides}
use Rattle.batch.specs.Names.{texts_of}
use Rattle.doc_tree.specs.Scope.{Table, fit, is_listed, number_of}
use Rattle.doc_tree.proofs.TableLemmas.{length-texts_of}
use Rattle.doc_merge.specs.declared.tables.TheConstants.{MOST_TEXTS}
use Rattle.doc_merge.specs.Renumbered.{merged, new_number, numbers_in}
use Rattle.doc_merge.proofs.NumberedTexts.{fit_same, listed_at}

-- no text is there twice
abbrev pub Apart : Table → Type 0
Apart table = (i j : ℕ) → i < j → j < length table → bytes_eq (get_or table i []) (get_or table j []) ≡ false

same_bytes : (text : List ℕ) → bytes_eq text text ≡ true
same_bytes text = (bytes_eq-Decides text text).1 refl

other_way : (a b : List ℕ) → bytes_eq a b ≡ false → bytes_eq b a ≡ false
other_way a b other = false_from_ne_true _ (λ same.
    let alike : bytes_eq a b ≡ true = (bytes_eq-Decides a b).1 (sym ((bytes_eq-Decides b a).0 same)) in cc)

-- the texts of distinct keys
pub keys_apart : (keys : List (String Global)) → IsDistinct string_eq keys → Apart (texts_of keys)
keys_apart [] distinct i j less within = absurd (omega (arith, within))
keys_apart (k ∷ keys) distinct i j less within =
    let size = length-texts_of (k ∷ keys) in
    let below : j < length (k ∷ keys) = omega (arith, within, size) in
    let first = get_or-map string_bytes (k ∷ keys) i k [] (omega (arith, less, below)) in
    let second = get_or-map string_bytes (k ∷ keys) j k [] below in
    (λ t. bytes_eq (first t) (second t)) ∙ apart_from_distinct string_eq (k ∷ keys) i j k distinct less below

-- a text that comes after others isn't listed among them
pub not_before : (done : Table) (text : List ℕ) (rest : Table) → Apart (done ++ text ∷ rest) → is_listed text done ≡ false
not_before done text rest apart = false_from_ne_true _ (λ listed.
    let at = listed_at text done listed in
    let below = at.below in
    let size = length-append done (text ∷ rest) in
    let n = position_or_len (bytes_eq text) done in
    let first = get_or_append_left done (text ∷ rest) [] n below ∙ at.there in
    let here : get_or (done ++ text ∷ rest) (length done) [] ≡ text =
    ap (λ m. get_or (done ++ text ∷ rest) m []) (omega arith) ∙ get_or-append-add done (text ∷ rest) 0 [] in
    let other = sym (λ t. bytes_eq (first t) (here t)) ∙ apart n (length done) below (omega (arith, size)) in
    let same = same_bytes text in cc)

-- each text is put after those before it
put_apart : (done rest : Table) → Apart (done ++ rest) → merged done rest ≡ done ++ rest
put_apart done [] apart = sym (append-nil done)
put_apart done (text ∷ rest) apart =
    ap (λ b. merged (cond b done (done ++ text ∷ [])) rest) (not_before done text rest apart)
    ∙ put_apart (done ++ text ∷ []) rest (subst Apart (sym (append_assoc done (text ∷ []) rest)) apart)
    ∙ append_assoc done (text ∷ []) rest

-- distinct texts, put into an empty table
pub merged_alone : (keys : List (String Global)) → IsDistinct string_eq keys → merged [] (texts_of keys) ≡ texts_of keys
merged_alone keys distinct = put_apart [] (texts_of keys) (keys_apart keys distinct)

-- a text that is nowhere before its place is first there
number_at_place : (table : Table) (n : ℕ) → Apart table → n < length table → length table ≤ MOST_TEXTS
    → number_of (get_or table n []) table ≡ n
number_at_place table n apart below few =
    let text = get_or table n [] in
    let place = position_or_len_is (bytes_eq text) table n [] (omega (arith, below))
    (λ k before. other_way (get_or table k []) text (apart k n before below)) (λ within. same_bytes text) in
    ap fit place ∙ fit_same n (omega (arith, below, few))

-- so the numbers of a table's own texts are their places
pub own_numbers : (keys : List (String Global)) → IsDistinct string_eq keys → length keys ≤ MOST_TEXTS
    → (n : ℕ) → new_number (numbers_in (texts_of keys) (texts_of keys)) n ≡ n
own_numbers keys distinct few n = by (cases_lt n (length (texts_of keys)))
  where
    by : (n < length (texts_of keys)) ⊎ (length (texts_of keys) ≤ n) → new_number (numbers_in (texts_of keys) (texts_of keys)) n ≡ n
    by (inl below) =
        get_or-map (λ t. number_of t (texts_of keys)) (texts_of keys) n [] n below
        ∙ number_at_place (texts_of keys) n (keys_apart keys distinct) below (omega (arith, length-texts_of keys, few))
    by (inr past) = get_or_past (numbers_in (texts_of keys) (texts_of keys)) n n
        (omega (arith, past, length-map (texts_of keys) (λ t. number_of t (texts_of keys))))
