use Rattle.std.proofs.Common.{◌≡◌, ◌<◌, ◌-◌, length, ◌≤◌, ◌^◌, ℕ, get_or, drop, true, ◌==◌, Some, refl, sym, ap, ◌∙◌, lt-ltb, le-leb, arith}
use Rattle.std.proofs.Common.{rules}
use Rattle.std.proofs.lemmas.List.{length-drop, take_all}
use Rattle.fast_float.specs.Text.{Parts, scan, IsInteger, digits_of, with_sign}
use Rattle.serde_json.specs.Data.{negative}
use Rattle.serde_json.specs.Read.{number_of, number_from, is_integer}
use Rattle.doc_tokens.proofs.pull.size_below_0.Goals as goal

integral : (p : Parts) → IsInteger p → is_integer p ≡ true
integral p h = rw (lt-ltb _ _ h.0, h.1, h.2)

from_parts : (p : Parts) (n : ℕ) → (IsInteger p × (digits_of p < 2 ^ 64)) × (n ≡ digits_of p) → 0 < n → n ≤ 9223372036854775807
    → number_from true p ≡ Some (negative (with_sign true n))
from_parts p n h some few =
    let some_digits : 0 < digits_of p = omega (arith, some, h.1) in
    let few_digits : digits_of p ≤ 2 ^ 63 = omega (arith, few, h.1) in
    rw (integral p h.0.0, lt-ltb _ _ some_digits, le-leb _ _ few_digits) (ap (λ m. Some (negative (with_sign true m))) (sym h.1))

pub returns-then-size-le-MOST_WHOLE : goal.returns-then-size-le-MOST_WHOLE
unfolding number_of
returns-then-size-le-MOST_WHOLE c =
    let s = c.args.text.now in
    let sign : (get_or s 0 0 == 45) ≡ true = search rules in
    let bytes = c.as_bytes-bytes.result.now in
    let tail = take_all (length bytes - 1) (drop 1 bytes) (omega (arith, length-drop 1 bytes)) in
    let parts : c.scan.result ≡ scan (drop 1 s) = c.scan.ensures.parts ∙ ap scan tail
    ∙ ap (λ bs. scan (drop 1 bs)) c.as_bytes-bytes.ensures.value in
    let some = c.if-size-gt0.true in
    let few = c.if-size-le-MOST_WHOLE.true in
    let read : number_from true (scan (drop 1 s)) ≡ number_of s = rw sign refl in (
      some,
      few,
      sym read ∙ ap (number_from true) (sym parts) ∙ from_parts c.scan.result c.in_ok-size.size c.in_ok-size.ensures some few,
    )
