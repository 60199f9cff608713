-- What a fetch and a whole reading of a source do.
use Rattle.std.specs.Prelude.{◌≡◌, ◌==◌, ◌&&◌, ℕ, Bool, List, Option, Result, Ok, Err, false, take, nat_lt, IfSome}
use Rattle.std.specs.Io.KnownBytes.{Consumes}

-- a fetch to a piece of this length met the end: it had room, and gave nothing
abbrev pub meets_end : {E : Type 0} → Result ℕ E → ℕ → Bool
meets_end (Ok count) room = nat_lt 0 room && count == 0
meets_end (Err failure) room = false

-- these bytes of the input were read, and are gone: all of it, but at most so many
abbrev pub ReadsUpTo : ℕ → Option (List ℕ) → Option (List ℕ) → List ℕ → Type 0
ReadsUpTo most old new bytes = Consumes old new bytes × IfSome old (λ input. bytes ≡ take most input)
