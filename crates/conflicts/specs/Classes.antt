-- Classes of operations that always commute forward.
use Rattle.std.specs.Prelude.{ℕ, ◌+◌, ◌^◌, Bool, true, false, not, cond, List, [], ◌∷◌}
use Rattle.objects.specs.declared.kind.Call.{Call}
use Rattle.objects.specs.declared.kind.Reply.{Reply}
use Rattle.objects.specs.Objects.{effect_of}
use Rattle.conflicts.specs.Effects.{effect_class}
use Rattle.conflicts.specs.declared.classes.Class.{Class}
use Rattle.conflicts.specs.declared.classes.Class.TheVariants.{Deposit, Withdrawal, Refusal, Balance, Count, Raise, Change, Put, Enqueue}
use Rattle.conflicts.specs.declared.classes.Class.TheVariants.{Dequeue, Size, Look, Taken}

-- the class of an operation
abbrev pub class_of : Call → Reply → Class
class_of c r = effect_class (effect_of c r)

abbrev pub class_number : Class → ℕ
class_number Deposit = 0
class_number Withdrawal = 1
class_number Refusal = 2
class_number Balance = 3
class_number Count = 4
class_number Raise = 5
class_number Change = 6
class_number Put = 7
class_number Enqueue = 8
class_number Dequeue = 9
class_number Size = 10
class_number Look = 11
class_number Taken = 12

-- any two operations of these classes commute forward
abbrev pub always_commute : Class → Class → Bool
always_commute Deposit Refusal = false
always_commute Deposit Balance = false
always_commute Refusal Deposit = false
always_commute Balance Deposit = false
always_commute Withdrawal Withdrawal = false
always_commute Withdrawal Balance = false
always_commute Balance Withdrawal = false
always_commute Look Count = false
always_commute Look Raise = false
always_commute Look Change = false
always_commute Count Look = false
always_commute Raise Look = false
always_commute Change Look = false
always_commute Size Change = false
always_commute Size Enqueue = false
always_commute Size Dequeue = false
always_commute Change Size = false
always_commute Enqueue Size = false
always_commute Dequeue Size = false
always_commute Change Change = false
always_commute Put Put = false
always_commute Put Change = false
always_commute Put Look = false
always_commute Change Put = false
always_commute Look Put = false
always_commute Taken Change = false
always_commute Change Taken = false
always_commute Enqueue Enqueue = false
always_commute Dequeue Dequeue = false
always_commute c d = true

-- every class, in the order of the numbers
abbrev pub classes : List Class
classes = Deposit ∷ Withdrawal ∷ Refusal ∷ Balance ∷ Count ∷ Raise ∷ Change ∷ Put ∷ Enqueue ∷ Dequeue ∷ Size ∷ Look ∷ Taken ∷ []

-- a set of classes as a number, with a bit for each
abbrev pub set_of : (Class → Bool) → List Class → ℕ
set_of p [] = 0
set_of p (c ∷ cs) = cond (p c) (2 ^ class_number c) 0 + set_of p cs

-- the classes that one doesn't always commute with
abbrev pub conflicts_of : Class → ℕ
conflicts_of c = set_of (λ d. not (always_commute c d)) classes

-- of the class, two operations on different items of an object commute forward
abbrev pub is_by_item : Class → Bool
is_by_item Change = true
is_by_item Put = true
is_by_item Dequeue = true
is_by_item Look = true
is_by_item Taken = true
is_by_item c = false

-- these classes, as a set
abbrev pub by_item : ℕ
by_item = set_of is_by_item classes
