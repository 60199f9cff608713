-- A document's faults come of bytes alone: none is of the input or the output.
use Rattle.std.proofs.Common.{◌≡◌, ◌≢◌, true, Some, Result, Ok, Err, refl, subst, ap, ◌∙◌}
use Rattle.serde_json.specs.Data.{Data}
use Rattle.faults.specs.Faults.{is_of_reading, memory_fault}
use Rattle.faults.specs.declared.fault.Fault.{Fault}
use Rattle.doc_rules.specs.Failures.{fault_of}
use Rattle.doc_rules.specs.declared.failure.Failure.{Failure}
use Rattle.doc_rules.specs.declared.failure.Failure.TheVariants.{Broken, NoMemory}
use Rattle.doc_tree.specs.declared.counts.Counts.{Counts}
use Rattle.doc_tree.specs.Demand.{no_counts}
use Rattle.doc_tree.specs.Places.{Found, fault_in, first_fault, placed, seek}

-- the fault of what wasn't read
pub failure_code : (failure : Failure) → is_of_reading (fault_of failure).code ≡ true
failure_code (Broken rule transaction) = refl
failure_code NoMemory = refl

-- where the fault is another than that of memory, memory was not refused
pub not_refused : (failure : Failure) (fault : Fault) → fault ≡ fault_of failure → fault ≢ memory_fault → failure ≢ NoMemory
not_refused failure fault is other refused = other (is ∙ ap fault_of refused)

fault_code : (r : Result Counts Found) (e : Fault) → fault_in r ≡ Some e → is_of_reading e.code ≡ true
fault_code (Ok c) e is = cc
fault_code (Err found) e is =
    let same : fault_of found.failure ≡ e = cc in subst (λ e. is_of_reading e.code ≡ true) same (failure_code found.failure)

-- a document's first fault
pub first_fault_code : (d : Data) (e : Fault) → first_fault (placed d) ≡ Some e → is_of_reading e.code ≡ true
first_fault_code d e is = fault_code (seek no_counts (placed d)) e is
