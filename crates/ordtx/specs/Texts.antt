-- What the functions inside this crate give of a document. No public contract names it.
use Rattle.std.specs.Prelude.{◌≡◌, ◌≢◌, ℕ, Bool, true, false, List, Result, IfErr, IfOk, string_bytes}
use Rattle.std.specs.List.{flat_map}
use Rattle.std.specs.declared.alloc.Global.{Global}
use Rattle.std.specs.declared.string.String.{String}
use Rattle.std.specs.declared.vec.Vec.{Vec}
use Rattle.faults.specs.Faults.{is_of_reading, memory_fault}
use Rattle.faults.specs.declared.fault.Fault.{Fault}
use Rattle.ordtx.specs.Answers.{IsFaultOf, Refusal, fault_of, refusal_of}
use Rattle.ordtx.specs.declared.carrying.Uncarried.{Uncarried}
use Rattle.ordtx.specs.declared.texts.RunCounts.{RunCounts}
use Rattle.ordtx.specs.declared.texts.RunCounts.TheVariants.{Shown, Omitted}

-- whether the run counts are in the report
abbrev pub are_shown : RunCounts → Bool
are_shown Shown = true
are_shown Omitted = false

-- An answer, or else an error whose fault is one of memory, or of which this holds. No input and no output failed.
pub record GivesAnswer {T E : Type 0} (fault_of : E → Fault) (IsAnswer : T → Type 0) (IsFault : E → Type 0)
    (result : Result T E) : Type 0 where
  pub answer : IfOk result IsAnswer
  pub fault : IfErr result (λ error. fault_of error ≢ memory_fault → IsFault error)
  pub code : IfErr result (λ error. is_of_reading (fault_of error).code ≡ true)

-- a text of the bytes, or else their first fault
abbrev pub GivesText : (List ℕ → List ℕ → Type 0) → List ℕ → Result (String Global) Fault → Type 0
GivesText IsAnswer bytes = GivesAnswer (λ fault. fault) (λ text. IsAnswer bytes (string_bytes text)) (IsFaultOf bytes)

-- such a text in parts, which follow one another
abbrev pub GivesParts : (List ℕ → List ℕ → Type 0) → List ℕ → Result (Vec (String Global) Global) Fault → Type 0
GivesParts IsAnswer bytes = GivesAnswer (λ fault. fault) (λ parts. IsAnswer bytes (flat_map string_bytes parts.items)) (IsFaultOf bytes)

-- the text of objects that are carried, or else why there is none
abbrev pub GivesCarried : (List ℕ → Type 0) → (Refusal → Type 0) → Result (String Global) Uncarried → Type 0
GivesCarried IsText IsFault = GivesAnswer fault_of (λ text. IsText (string_bytes text)) (λ refused. IsFault (refusal_of refused))
