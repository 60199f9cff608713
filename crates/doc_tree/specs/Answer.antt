-- What a result says of what is asked.
use Rattle.std.specs.Prelude.{◌≡◌, ◌≢◌, ℕ, List, [], Option, Ok, Err, option_map, string_bytes, unwrap_or, String}
use Rattle.std.specs.declared.alloc.Global.{Global}
use Rattle.doc_rules.specs.declared.failure.Failure.{Failure}
use Rattle.doc_rules.specs.declared.failure.Failure.TheVariants.{NoMemory}
use Rattle.doc_tree.specs.declared.counts.Counts.{Counts}
use Rattle.doc_tree.specs.declared.unmet.Unmet.{Unmet}
use Rattle.doc_tree.specs.Demand.{Demand, check}
use Rattle.doc_tree.specs.Places.{Found, Placed, seek}

-- ---- of a value itself

-- all of it is met, and the counts are then these
abbrev pub IsMet : Counts → List Demand → Counts → Type 0
IsMet c asked next = check c asked ≡ Ok next

-- unless memory was refused, it is the first rule that isn't kept
abbrev pub IsFirst : Counts → List Demand → Failure → Type 0
IsFirst c asked failure = failure ≢ NoMemory → check c asked ≡ Err failure

-- ---- of a value and its parts

-- all of it is met, and the counts are then these
abbrev pub AreMet : Counts → Placed → Counts → Type 0
AreMet c asked next = seek c asked ≡ Ok next

abbrev pub pointer_text : Option (String Global) → List ℕ
pointer_text pointer = unwrap_or (option_map (λ text. string_bytes text) pointer) []

-- what a demand that is not met gives
abbrev pub found_of : Unmet → Found
found_of unmet = record { failure = unmet.failure; pointer = pointer_text unmet.pointer }

-- unless memory was refused, the demand is the first that is not met
abbrev pub IsFound : Counts → Placed → Unmet → Type 0
IsFound c asked unmet = unmet.failure ≢ NoMemory → seek c asked ≡ Err (found_of unmet)
