-- A pointer into an item, and into a member of a document.
use Rattle.std.proofs.Common.{◌≡◌, ℕ, zero, suc, ◌<◌, ◌^◌, ◌==◌, List, [], ◌∷◌, ◌++◌, length, get_or, Bool, true, false, not, ◌&&◌, ◌||◌}
use Rattle.std.proofs.Common.{Option, None, Some, option_and_then, decimal, ◌⊎◌, inl, inr}
use Rattle.std.proofs.Common.{refl, sym, subst, ap, ◌∙◌, arith, append-nil, lt-ltb, eq-eqb, ne_eqb}
use Rattle.std.specs.Prelude.{codes, nat_lt, slice_index, if◌then◌else◌}
use Rattle.std.specs.Str.Parse.{AllDigits}
use Rattle.std.specs.Float.Numeral.{Parts, IsWellFormed, numeral_digits, scan_numeral}
use Rattle.std.proofs.lemmas.Fmt.{decimal_digit, decimal_is_IsNumeral, decimal_nonempty, first_decimal}
use Rattle.std.proofs.lemmas.Str.Parse.{digit_from_value}
use Rattle.std.proofs.lemmas.Float.Parse.{scan_numeral-text_of}
use Rattle.serde_json.specs.Data.{Data, Items, Members, array, object}
use Rattle.serde_json.specs.Find.{get_item, get_member, index_of, pointer as points_to, step, unescape, walk}
use Rattle.serde_json.specs.Read.{is_integer}
use Rattle.serde_json.proofs.Paths.{Lacks, walk_last, walk_part}

-- a pointer is empty, or begins with the mark of a token
abbrev pub IsPath : List ℕ → Type 0
IsPath p = (p ≡ []) ⊎ ((rest : List ℕ) × (p ≡ 47 ∷ rest))

-- ---- indices

-- an index that was scanned
abbrev index_with : Parts → List ℕ → Option ℕ
index_with p s =
    if is_integer p && (p.len == length s) && nat_lt (numeral_digits p) (2 ^ 64) && (length s == 1 || not (slice_index s 0 == 48))
    then Some (numeral_digits p) else None

abbrev digits : List ℕ → Parts
digits ds = record { whole = ds; point = false; fraction = []; exponent_negative = false; exponent = []; len = length (ds ++ []) }

all_hold : (a b c d : Bool) (n : ℕ) → a ≡ true → b ≡ true → c ≡ true → d ≡ true
    → (if a && b && c && d then Some n else None) ≡ Some n
all_hold a b c d n p q r s = rw (p, q, r, s) refl

either : (a b : Bool) → b ≡ true → (a || b) ≡ true
either true b is = refl
either false b is = is

no_zero : (n : ℕ) → n < 2 ^ 64 → (length (decimal n) == 1 || not (slice_index (decimal n) 0 == 48)) ≡ true
no_zero zero small = ap (λ ds. length ds == 1 || not (slice_index ds 0 == 48)) (decimal_digit 0 (omega arith))
no_zero (suc n) small =
    either _ _ (ap not (ne_eqb (get_or (decimal (suc n)) 0 0) 48 (λ e. omega (arith, first_decimal (suc n) (omega arith) small))))

-- what is written of an index is read as it
index_read : (n : ℕ) → n < 2 ^ 64 → index_of (decimal n) ≡ Some n
unfolding index_of
index_read n small =
    let ds = decimal n in
    let e = decimal_is_IsNumeral n small in
    let some = decimal_nonempty n small in
    let formed : IsWellFormed (digits ds) = record {
      whole_digits = e.0.1;
      fraction_digits = tt;
      exponent_digits = tt;
      no_point = λ _. refl;
      no_exponent = λ _. refl;
      len_is = refl;
    } in
    let scanned : scan_numeral ds ≡ digits ds = ap scan_numeral (sym (append-nil ds)) ∙ scan_numeral-text_of (digits ds) formed in
    let value : numeral_digits (digits ds) ≡ n = rw append-nil e.1 in
    ap (λ p. index_with p ds) scanned
    ∙ all_hold _ _ _ _ _ (rw (lt-ltb _ _ some)) (ap (λ l. length l == length ds) (append-nil ds) ∙ eq-eqb (length ds) (length ds) refl)
    (ap (λ m. nat_lt m (2 ^ 64)) value ∙ lt-ltb _ _ small) (no_zero n small)
    ∙ ap (λ m. Some m) value

digits_lack : (ds : List ℕ) → AllDigits 10 ds → Lacks 47 ds
digits_lack [] all i less = absurd (omega arith)
digits_lack (c ∷ cs) all zero less = λ e. omega (arith, digit_from_value c all.0)
digits_lack (c ∷ cs) all (suc i) less = digits_lack cs all.1 i (omega arith)

-- ---- items

module _ (ds : Items) (i : ℕ) (d : Data) (small : i < 2 ^ 64) (there : get_item i ds ≡ Some d) where
  stepped : step (decimal i) (array ds) ≡ Some d
  stepped = ap (option_and_then (λ k. get_item k ds)) (index_read i small) ∙ there

  lacks : Lacks 47 (decimal i)
  lacks = digits_lack (decimal i) (decimal_is_IsNumeral i small).0.1

  -- a pointer that begins with an item's index leads on from the item
  pub item_pointed : (p : List ℕ) → IsPath p → points_to (codes "/" ++ decimal i ++ p) (array ds) ≡ points_to p d
  item_pointed p (inl none) =
      let here : walk [] (decimal i ++ []) (array ds) ≡ Some d =
      ap (λ s. walk [] s (array ds)) (append-nil (decimal i)) ∙ walk_last (decimal i) (array ds) lacks ∙ stepped in
      subst (λ p. points_to (codes "/" ++ decimal i ++ p) (array ds) ≡ points_to p d) (sym none) here
  item_pointed p (inr (rest, is)) =
      let here : walk [] (decimal i ++ 47 ∷ rest) (array ds) ≡ walk [] rest d =
      walk_part (decimal i) rest (array ds) lacks ∙ ap (option_and_then (walk [] rest)) stepped in
      subst (λ p. points_to (codes "/" ++ decimal i ++ p) (array ds) ≡ points_to p d) (sym is) here

-- ---- members

module _ (ms : Members) (v : Data) where
  pub objects_pointed : get_member (codes "objects") ms ≡ Some v → (p : List ℕ) → IsPath p
      → points_to (codes "/objects" ++ p) (object ms) ≡ points_to p v
  unfolding walk unescape
  objects_pointed there p (inl none) =
      subst (λ p. points_to (codes "/objects" ++ p) (object ms) ≡ points_to p v) (sym none) there
  objects_pointed there p (inr (rest, is)) =
      subst (λ p. points_to (codes "/objects" ++ p) (object ms) ≡ points_to p v) (sym is) (ap (option_and_then (walk [] rest)) there)

  pub transactions_pointed : get_member (codes "transactions") ms ≡ Some v → (p : List ℕ) → IsPath p
      → points_to (codes "/transactions" ++ p) (object ms) ≡ points_to p v
  unfolding walk unescape
  transactions_pointed there p (inl none) =
      subst (λ p. points_to (codes "/transactions" ++ p) (object ms) ≡ points_to p v) (sym none) there
  transactions_pointed there p (inr (rest, is)) =
      subst (λ p. points_to (codes "/transactions" ++ p) (object ms) ≡ points_to p v) (sym is) (ap (option_and_then (walk [] rest)) there)
