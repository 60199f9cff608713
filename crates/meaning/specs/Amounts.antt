-- Amounts of whole numbers.
use Rattle.std.specs.Prelude.{ℕ, ℤ, pos, negsuc, Bool, true, false, max, min, refl, nat_le, ◌&&◌, Option, Some, None}
use Rattle.std.proofs.Math.Nat.{le-max_left, max-le, min-le_left}
use Rattle.std.proofs.lemmas.Bool.{leb-true}
use Rattle.atoms.specs.Amount.{IsAmount}
use Rattle.atoms.specs.declared.amount.Amount.{Amount}
use Rattle.atoms.specs.declared.amount.TheConstants.Amount.{MAX}

-- the nearest number that is an amount
abbrev pub clamped : ℕ → ℕ
clamped n = max 1 (min MAX n)

pub clamped-IsAmount : (n : ℕ) → IsAmount (clamped n)
clamped-IsAmount n = (le-max_left 1 (min MAX n), max-le (leb-true 1 MAX refl) (min-le_left MAX n))

-- the amount that a number is, where a test before has found that it is one
unfoldable pub amount_of : ℕ → Amount
amount_of n = record { value = clamped n; in_range = clamped-IsAmount n }

abbrev pub some_if : {A : Type 0} → Bool → A → Option A
some_if true a = Some a
some_if false a = None

-- the amount that a number is, if it is one
abbrev pub number_amount : ℤ → Option Amount
number_amount (pos n) = some_if (nat_le 1 n && nat_le n MAX) (amount_of n)
number_amount (negsuc n) = None
