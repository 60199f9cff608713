-- An amount is its number.
use Rattle.std.proofs.Common.{◌≡◌, ℕ, nat_eq, true, ap, subst}
use Rattle.std.proofs.lemmas.Bool.{eqb-true}
use Rattle.std.proofs.Props.{props}
use Rattle.atoms.specs.Amount.{IsAmount}
use Rattle.atoms.specs.declared.amount.Amount.{Amount}

abbrev made : (n : ℕ) → IsAmount n → Amount
made n in_range = record { value = n; in_range = in_range }

one_proof : (n : ℕ) (p q : IsAmount n) → made n p ≡ made n q
one_proof n p q = let one : IsProp (IsAmount n) = hlevel props in ap (made n) (one p q)

at_number : (n m : ℕ) (p : IsAmount n) → n ≡ m → (q : IsAmount m) → made n p ≡ made m q
at_number n m p e = subst (λ k. (q : IsAmount k) → made n p ≡ made k q) e (one_proof n p)

pub one_amount : (a b : Amount) → a.value ≡ b.value → a ≡ b
one_amount a b e = at_number a.value b.value a.in_range e b.in_range

pub same_amount : (a b : Amount) → nat_eq a.value b.value ≡ true → a ≡ b
same_amount a b h = one_amount a b (eqb-true a.value b.value h)
