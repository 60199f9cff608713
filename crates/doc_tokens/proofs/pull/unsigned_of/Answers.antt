use Rattle.std.proofs.Common.{◌≡◌, ◌<◌, ◌≤◌, ◌^◌, ℕ, List, length, get_or, true, false, ◌==◌, Option, Some, None}
use Rattle.std.proofs.Common.{refl, sym, ap, subst, ◌∙◌, lt-ltb, arith, rules}
use Rattle.std.specs.Prelude.{IfSome, SomeIff}
use Rattle.std.specs.Str.Parse.{AllDigits, digits_value}
use Rattle.fast_float.specs.Text.{Parts, scan, IsInteger, digits_of}
use Rattle.serde_json.specs.Data.{unsigned}
use Rattle.serde_json.specs.Read.{number_of, number_from, is_integer}
use Rattle.doc_tokens.proofs.DigitLemmas.{few_digits_read}
use Rattle.doc_tokens.proofs.pull.unsigned_of.Goals as goal

-- an integer by its parts is one by the test
integral : (p : Parts) → IsInteger p → is_integer p ≡ true
integral p h = rw (lt-ltb _ _ h.0, h.1, h.2)

-- what a numeral gives is the number of its text
from_parts : (p : Parts) (r : Option ℕ) → SomeIff r (IsInteger p × (digits_of p < 2 ^ 64)) (digits_of p)
    → IfSome r (λ n. number_from false p ≡ Some (unsigned n))
from_parts p None h = tt
from_parts p (Some n) h = rw (integral p h.0.0, lt-ltb _ _ h.0.1) (ap (λ m. Some (unsigned m)) (sym h.1))

-- and so is what a few digits give
from_digits : (ds : List ℕ) (r : Option ℕ) → 0 < length ds → length ds ≤ 19 → SomeIff r (AllDigits 10 ds) (digits_value 10 ds)
    → IfSome r (λ n. number_of ds ≡ Some (unsigned n))
from_digits ds None some few h = tt
from_digits ds (Some n) some few h = few_digits_read ds some few h.0 ∙ ap (λ m. Some (unsigned m)) (sym h.1)

pub returns-then-bytes-le-FEW_DIGITS : goal.returns-then-bytes-le-FEW_DIGITS
returns-then-bytes-le-FEW_DIGITS c =
    let bytes = c.as_bytes-bytes.result.now in
    let some : 0 < length bytes = grind (arith, rules) in
    subst (λ s. IfSome c.few_digits.result (λ n. number_of s ≡ Some (unsigned n))) c.as_bytes-bytes.ensures.value
    (from_digits bytes c.few_digits.result some c.if-bytes-le-FEW_DIGITS.true c.few_digits.ensures)

pub returns : goal.returns
unfolding number_of
returns c =
    let s = c.args.text.now in
    let plain : (get_or s 0 0 == 45) ≡ false = search rules in
    let parts : c.scan.result ≡ scan s = c.scan.ensures.parts ∙ ap scan c.as_bytes-bytes.ensures.value in
    let read : number_from false (scan s) ≡ number_of s = rw plain refl in
    subst (λ o. IfSome c.to_u64.result (λ n. o ≡ Some (unsigned n))) (ap (number_from false) parts ∙ read)
    (from_parts c.scan.result c.to_u64.result c.to_u64.ensures)
