-- Rows of digits, and the numbers that they write.
use Rattle.std.proofs.Common.{◌≡◌, ◌<◌, ◌≤◌, ◌^◌, ◌==◌, ◌∷◌, ℕ, zero, suc, false, List, [], length, get_or, take, Some}
use Rattle.std.proofs.Common.{refl, sym, ap, ◌∙◌, append-nil, lt-ltb, arith}
use Rattle.std.proofs.lemmas.Str.Parse.{digit_at, digits_value_short, numerals_by_value, tells_digits}
use Rattle.std.proofs.lemmas.Float.Parse.{scan_numeral-text_of}
use Rattle.std.specs.Char.{digit_value}
use Rattle.std.specs.Str.Parse.{AllDigits, digits_value}
use Rattle.std.specs.Float.Numeral.{scan_numeral}
use Rattle.fast_float.specs.Text.{IsWellFormed, Parts, scan}
use Rattle.serde_json.specs.Data.{unsigned}
use Rattle.serde_json.specs.Read.{number_of}
use borrow.Author.Tests.{ne_eqb}

-- one more digit
pub digits_more : (ds : List ℕ) (i : ℕ) → i < length ds → AllDigits 10 (take i ds) → digit_value (get_or ds i 0) < 10
    → AllDigits 10 (take (suc i) ds)
digits_more [] i within before digit = absurd (omega arith)
digits_more (c ∷ cs) zero within before digit = (digit, tt)
digits_more (c ∷ cs) (suc i) within before digit = (before.0, digits_more cs i (omega arith) before.1 digit)

-- the number of a few digits is less than the power of ten of their count
pub digits_below : (ds : List ℕ) (k : ℕ) → AllDigits 10 ds → length ds ≤ k → digits_value 10 ds < 10 ^ k
digits_below = digits_value_short (numerals_by_value (AllDigits 10) tells_digits)

-- digits alone, as a numeral
abbrev digits_alone : List ℕ → Parts
digits_alone ds = record { whole = ds; point = false; fraction = []; exponent_negative = false; exponent = []; len = length ds }

-- they are scanned as such
scan_digits : (ds : List ℕ) → AllDigits 10 ds → scan ds ≡ digits_alone ds
unfolding scan
scan_digits ds digits =
    let well_formed : IsWellFormed (digits_alone ds) = record {
      whole_digits = digits;
      fraction_digits = tt;
      exponent_digits = tt;
      no_point = λ _. refl;
      no_exponent = λ _. refl;
      len_is = ap length (sym (append-nil ds));
    } in
    ap scan_numeral (sym (append-nil ds)) ∙ scan_numeral-text_of (digits_alone ds) well_formed

-- a few digits, and nothing else, are read as their number
pub few_digits_read : (ds : List ℕ) → 0 < length ds → length ds ≤ 19 → AllDigits 10 ds → number_of ds ≡ Some (unsigned (digits_value 10 ds))
unfolding number_of
few_digits_read ds some few digits =
    let plain : (get_or ds 0 0 == 45) ≡ false = ne_eqb _ 45 (λ e. omega (arith, digit_at ds 0 digits some)) in
    let fits : digits_value 10 ds < 2 ^ 64 = omega (arith, digits_below ds 19 digits few) in
    rw plain (rw (scan_digits ds digits, append-nil, lt-ltb 0 (length ds) some, lt-ltb _ _ fits) refl)
