-- The digits of numbers.
use Rattle.std.proofs.Common.{◌≡◌, ℕ, zero, suc, ◌+◌, ◌/◌, ◌%◌, ◌<◌, ◌≤◌, ◌^◌, [], ◌++◌, ap, sym, refl, ◌∙◌, arith}
use Rattle.std.specs.Fmt.{decimal}
use native.Mathlib.Decide.{dec_lt}
use Rattle.std.proofs.lemmas.Fmt.{decimal_digit, decimal_step}
use Rattle.report.specs.Paths.{decimal_or_none, tens}

pub two_digits : (n : ℕ) → 10 ≤ n → n < 100 → decimal n ≡ decimal (n / 10) ++ decimal (n % 10)
two_digits n low high =
    decimal_step n low (omega (arith, high)) ∙ ap (λ last. decimal (n / 10) ++ last) (sym (decimal_digit (n % 10) (omega arith)))

-- a number above 0 is written
some_digits : (n : ℕ) → 0 < n → decimal_or_none n ≡ decimal n
some_digits zero some = elim some [ ]
some_digits (suc n) some = refl

-- of a number of several digits
pub tens-some : (n : ℕ) → 10 ≤ n → tens n ≡ decimal (n / 10)
tens-some n long = some_digits (n / 10) (omega (arith, long))

-- of a number of one digit there are none but the last
pub tens-none : (n : ℕ) → n < 10 → tens n ≡ []
tens-none n short = let none : n / 10 ≡ zero = omega (arith, short) in ap decimal_or_none none

-- the last digit after the others
pub tens_digit : (n : ℕ) → n < 2 ^ 64 → tens n ++ decimal (n % 10) ≡ decimal n
tens_digit n fits = elim (dec_lt n 10) [
  | yes short ↦ ap (λ first. first ++ decimal (n % 10)) (tens-none n short) ∙ ap decimal (omega (arith, short))
  | no short ↦
      let long : 10 ≤ n = omega (arith, short) in
      ap (λ first. first ++ decimal (n % 10)) (tens-some n long)
      ∙ ap (λ last. decimal (n / 10) ++ last) (decimal_digit (n % 10) (omega arith)) ∙ sym (decimal_step n long fits)
]

-- the next number has the same digits before its last, where that is not 0
pub tens_after : (n : ℕ) → 0 < (n + 1) % 10 → tens n ≡ tens (n + 1)
tens_after n some = ap decimal_or_none (omega (arith, some))
