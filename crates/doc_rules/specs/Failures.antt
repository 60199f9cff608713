-- The fault of what wasn't read.
use Rattle.faults.specs.declared.fault.Code.TheVariants as code
use Rattle.faults.specs.declared.fault.Fault.{Fault}
use Rattle.faults.specs.Faults.{memory_fault}
use Rattle.doc_rules.specs.declared.failure.Failure.{Failure}
use Rattle.doc_rules.specs.declared.failure.Failure.TheVariants.{Broken, NoMemory}
use Rattle.doc_rules.specs.Rules.{wrong_of}

abbrev pub fault_of : Failure → Fault
fault_of (Broken rule transaction) = record { code = code.Wrong (wrong_of rule); transaction = transaction }
fault_of NoMemory = memory_fault
