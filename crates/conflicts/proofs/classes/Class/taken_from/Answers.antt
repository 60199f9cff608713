use Rattle.std.proofs.Common.{◌-◌, arith, ℕ, bit_and, w16, inl, inr, ap}
use Rattle.std.proofs.lemmas.Bool.{cases_eq}
use Rattle.std.proofs.lemmas.Nat.{and_le_l}
use Rattle.std.proofs.lemmas.Nat.Bits.{bit_at_and, bit_at_not, bit_at-pow_same, bit_at-pow_other}
use Rattle.std.specs.Int.{bit_at}
use Rattle.conflicts.specs.Classes.{class_number}
use Rattle.conflicts.proofs.ClassNumbers.{number-bound, one_class}
use Rattle.conflicts.proofs.classes.Class.taken_from.Goals as goal

pub returns-clause-less : goal.returns-clause-less
returns-clause-less c =
    let set = c.args.set in
    let left : ℕ = bit_and set (65535 - c.bit.result) in
    let at : ℕ = class_number c.args.self in
    elim (cases_eq left set) [
      | inl same ↦ absurd (omega (
        arith,
        c.requires,
        ap (λ s. bit_at s at) same,
        bit_at_and set (65535 - c.bit.result) at,
        bit_at_not w16 c.bit.result at c.bit.type_inv (omega (arith, number-bound c.args.self)),
        ap (λ s. bit_at s at) c.bit.ensures,
        bit_at-pow_same at,
      ))
      | inr less ↦ omega (arith, less, and_le_l set (65535 - c.bit.result))
    ]

pub returns-clause-others : goal.returns-clause-others
returns-clause-others c class gone =
    let set = c.args.set in
    let at : ℕ = class_number class in
    elim (cases_eq at (class_number c.args.self)) [
      | inl same ↦ inl (one_class class c.args.self same)
      | inr other ↦ inr (omega (
        arith,
        gone,
        bit_at_and set (65535 - c.bit.result) at,
        bit_at_not w16 c.bit.result at c.bit.type_inv (omega (arith, number-bound class)),
        ap (λ s. bit_at s at) c.bit.ensures,
        bit_at-pow_other (class_number c.args.self) at other,
      ))
    ]
