-- The amount of a number, where it is one.
use Rattle.std.proofs.Common.{◌≡◌, ◌↔◌, ℕ, pos, Bool, true, false, Option, Some, None, refl, sym, ap, ap₂, subst, ◌∙◌, arith}
use Rattle.std.specs.Prelude.{IsSome, IfSome, ◌&&◌, nat_le}
use Rattle.std.proofs.lemmas.Bool.{false≢true, and_parts, le-leb, leb-true}
use Rattle.atoms.specs.Amount.{IsAmount}
use Rattle.atoms.specs.declared.amount.Amount.{Amount}
use Rattle.atoms.specs.declared.amount.TheConstants.Amount.{MAX}
use Rattle.atoms.proofs.Amounts.{one_amount}
use Rattle.meaning.specs.Amounts.{amount_of, clamped, number_amount, some_if}

clamped_same : (a : Amount) (n : ℕ) → a.value ≡ n → a.value ≡ clamped n
clamped_same a n e = omega (arith, a.in_range.0, a.in_range.1)

amount_of-value : (a : Amount) (n : ℕ) → a.value ≡ n → a ≡ amount_of n
unfolding amount_of
amount_of-value a n e = one_amount a (amount_of n) (clamped_same a n e)

in_range : (n : ℕ) → IsAmount n → (nat_le 1 n && nat_le n MAX) ≡ true
in_range n h = ap₂ (λ x y. x && y) (le-leb 1 n h.0) (le-leb n MAX h.1)

no_amount : (n : ℕ) (test : Bool) → (nat_le 1 n && nat_le n MAX) ≡ test → ¬ IsAmount n → None ≡ some_if test (amount_of n)
no_amount n false is none = refl
no_amount n true is none =
    let parts = and_parts (nat_le 1 n) (nat_le n MAX) is in absurd (none (leb-true 1 n parts.0, leb-true n MAX parts.1))

pub amount_found : (n : ℕ) (found : Option Amount) → IsSome found ↔ IsAmount n → IfSome found (λ a. a.value ≡ n)
    → found ≡ number_amount (pos n)
amount_found n (Some a) is value =
    let h : IsAmount n = subst IsAmount value a.in_range in
    ap Some (amount_of-value a n value) ∙ sym (ap (λ test. some_if test (amount_of n)) (in_range n h))
amount_found n None is value = no_amount n (nat_le 1 n && nat_le n MAX) refl (λ h. false≢true (is.1 h))
