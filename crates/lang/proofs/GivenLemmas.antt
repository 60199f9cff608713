-- What a value spells is given as a batch or as a fault, and judged by its length.
use Rattle.std.specs.Prelude.{IfOk}
use Rattle.std.proofs.Common.{◌≡◌, ◌≢◌, ◌≤◌, ◌<◌, ℕ, List, length, Result, Ok, Err, true, subst, sym, ap, ◌∙◌}
use Rattle.batch.specs.declared.batch.Batch.{Batch}
use Rattle.faults.specs.declared.fault.Fault.{Fault}
use Rattle.faults.specs.declared.fault.Wrong.TheVariants.{TooMany}
use Rattle.faults.specs.Faults.{is_of_reading, memory_fault, wrong_outside}
use Rattle.lang.specs.Reading.{Document, GivesDocument, document_of, most_bytes, reading, spelled_by, value_of, version_by}
use Rattle.lang.proofs.SpelledLemmas.{reads_long, reads_short, version_spelled}

-- a batch of what is spelled
pub gives_batch : (spelled : Result Document Fault) (batch : Batch) → spelled ≡ Ok (document_of batch) → GivesDocument spelled (Ok batch)
gives_batch spelled batch is = record { batch = is; fault = tt; code = tt }

-- the fault of what is spelled
pub gives_fault : (spelled : Result Document Fault) (fault : Fault) → (fault ≢ memory_fault → spelled ≡ Err fault)
    → is_of_reading fault.code ≡ true → GivesDocument spelled (Err fault)
gives_fault spelled fault is code = record { batch = tt; fault = is; code = code }

-- the fault of too many bytes
pub gives_too_many : (bytes : List ℕ) (fault : Fault) → most_bytes (value_of bytes) < length bytes → fault ≡ wrong_outside TooMany
    → GivesDocument (reading bytes) (Err fault)
gives_too_many bytes fault long is =
    gives_fault (reading bytes) fault (λ other. reads_long bytes long ∙ ap Err (sym is)) (ap (λ e. is_of_reading e.code) is)

-- what is given of a value is given of its bytes, where they are as few as its version asks for
pub gives_short : (bytes : List ℕ) (answer : Result Batch Fault) → length bytes ≤ most_bytes (value_of bytes)
    → GivesDocument (spelled_by (value_of bytes)) answer → GivesDocument (reading bytes) answer
gives_short bytes answer short given = subst (λ s. GivesDocument s answer) (sym (reads_short bytes short)) given

-- a batch that is given has the version of the bytes
pub given_version : (bytes : List ℕ) (answer : Result Batch Fault) (batch : Batch) → answer ≡ Ok batch
    → GivesDocument (spelled_by (value_of bytes)) answer → batch.version ≡ version_by (value_of bytes)
given_version bytes answer batch is given =
    let spelled = subst (λ a. IfOk a (λ b. spelled_by (value_of bytes) ≡ Ok (document_of b))) is given.batch in
    sym (version_spelled (value_of bytes) (document_of batch) spelled)
