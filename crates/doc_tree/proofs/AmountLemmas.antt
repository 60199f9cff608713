-- An amount is its number.
use Rattle.std.proofs.Common.{◌≡◌, ℕ, arith}
use Rattle.atoms.specs.declared.amount.Amount.{Amount}
use Rattle.atoms.proofs.Amounts.{one_amount}
use Rattle.meaning.specs.Amounts.{amount_of, clamped}

clamped_same : (a : Amount) (n : ℕ) → a.value ≡ n → a.value ≡ clamped n
clamped_same a n e = omega (arith, a.in_range.0, a.in_range.1)

-- the amount that was read is the one of its number
pub amount_of-value : (a : Amount) (n : ℕ) → a.value ≡ n → a ≡ amount_of n
unfolding amount_of
amount_of-value a n e = one_amount a (amount_of n) (clamped_same a n e)
