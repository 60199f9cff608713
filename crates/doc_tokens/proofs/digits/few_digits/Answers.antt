use Rattle.std.proofs.Common.{◌<◌, ◌≤◌, length, get_or, take, add-one, length-take, ap, ◌∙◌, arith, subst}
use Rattle.std.proofs.lemmas.List.{take_all}
use Rattle.std.proofs.lemmas.Int.Digits.{digits_value_more}
use Rattle.std.proofs.lemmas.Str.{digit_value_digit}
use Rattle.std.proofs.lemmas.Str.Parse.{digit_at, digit_from_value}
use Rattle.std.specs.Str.Parse.{AllDigits, digits_value}
use Rattle.doc_tokens.proofs.DigitLemmas.{digits_below, digits_more}
use Rattle.doc_tokens.proofs.digits.few_digits.Goals as goal

pub returns-then-not-is_ascii_digit : goal.returns-then-not-is_ascii_digit
returns-then-not-is_ascii_digit c = λ digits.
    let digit = digit_at c.args.bytes.now c.loop-byte.byte-index digits c.loop-byte-test.true in
    omega (arith, c.if-not-is_ascii_digit.ensures.cases)

pub overflow_mul-number : goal.overflow_mul-number
overflow_mul-number c =
    let front = take c.loop-byte.byte-index c.args.bytes.now in
    let few : length front ≤ 18 = simp length-take (omega arith) in
    omega (arith, digits_below front 18 c.loop-byte.invariant.digits few)

pub overflow_add-number : goal.overflow_add-number
overflow_add-number c =
    let front = take c.loop-byte.byte-index c.args.bytes.now in
    let few : length front ≤ 18 = simp length-take (omega arith) in
    omega (arith, digits_below front 18 c.loop-byte.invariant.digits few)

pub loop-byte-preserved : goal.loop-byte-preserved
loop-byte-preserved c =
    let i = c.loop-byte.byte-index in
    let bs = c.args.bytes.now in
    let within : i < length bs = c.loop-byte-test.true in
    let bound = c.if-not-is_ascii_digit.ensures.bound in
    let digit = digit_value_digit (get_or bs i 0) (digit_from_value _ bound) in record {
      digits = rw add-one (digits_more bs i within c.loop-byte.invariant.digits bound);
      value = omega (arith, digits_value_more 10 bs i within, digit);
    }

pub returns : goal.returns
returns c =
    let whole = take_all c.loop-byte.byte-index c.args.bytes.now (omega arith) in
    (subst (AllDigits 10) whole c.loop-byte.invariant.digits, c.loop-byte.invariant.value ∙ ap (digits_value 10) whole)
