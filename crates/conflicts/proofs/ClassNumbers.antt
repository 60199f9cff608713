-- Numbers of classes.
use Rattle.std.proofs.Common.{◌≡◌, ◌<◌, ◌∙◌, arith, ℕ, get_or, sym, ap}
use Rattle.std.proofs.lemmas.List.{get_or-map}
use Rattle.std.proofs.lemmas.List.FromFn.{get_or-range_with_len}
use Rattle.conflicts.specs.declared.classes.Class.{Class}
use Rattle.conflicts.specs.declared.classes.Class.TheVariants.{Deposit}
use Rattle.conflicts.specs.Classes.{class_number, classes}

-- a class is at its number among all
pub class_at : (c : Class) → get_or classes (class_number c) Deposit ≡ c
class_at c = grind arith

-- there are thirteen
pub number-bound : (c : Class) → class_number c < 13
number-bound c = grind arith

-- each at its own
pub number_at : (n : ℕ) → n < 13 → class_number (get_or classes n Deposit) ≡ n
number_at n low = omega (arith, get_or-map class_number classes n Deposit 0 low, get_or-range_with_len 0 13 n 0 low)

-- classes of one number are one
pub one_class : (c d : Class) → class_number c ≡ class_number d → c ≡ d
one_class c d e = sym (class_at c) ∙ ap (λ n. get_or classes n Deposit) e ∙ class_at d
