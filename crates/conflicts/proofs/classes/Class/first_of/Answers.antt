use Rattle.std.proofs.Common.{ℕ, arith, w16, inl, inr, ap, ◌∙◌}
use Rattle.std.proofs.lemmas.Bool.{cases_eq}
use Rattle.std.proofs.lemmas.Nat.Bits.{bit_at-trailing_zeros, bit_at-zero}
use Rattle.std.specs.Int.{bit_at, trailing_zeros}
use Rattle.std.specs.Int.Count.{trailing_of_zero}
use Rattle.conflicts.specs.Classes.{class_number}
use Rattle.conflicts.proofs.ClassNumbers.{number_at, number-bound}
use Rattle.conflicts.proofs.classes.Class.first_of.Goals as goal

pub returns-then-number-lt13-clause-some : goal.returns-then-number-lt13-clause-some
returns-then-number-lt13-clause-some c =
    let set = c.args.set in
    let low = c.if-number-lt13.true in
    ap (bit_at set) (number_at (trailing_zeros w16 set) low) ∙ (elim (cases_eq set 0) [
      | inl none ↦ absurd (omega (arith, low, ap (trailing_zeros w16) none, trailing_of_zero 16))
      | inr some ↦ (bit_at-trailing_zeros w16 set (omega (arith, some)) c.ranges.set.fits).1
    ])

pub returns-clause-none : goal.returns-clause-none
returns-clause-none c none class =
    let set = c.args.set in
    let at : ℕ = class_number class in
    elim (cases_eq set 0) [
      | inl empty ↦ ap (λ s. bit_at s at) empty ∙ bit_at-zero at
      | inr some ↦ (bit_at-trailing_zeros w16 set (omega (arith, some)) c.ranges.set.fits).2 at
          (omega (arith, number-bound class, c.if-number-lt13.false))
    ]
