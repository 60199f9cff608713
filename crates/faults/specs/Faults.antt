-- The numbers of codes, the faults that are in no transaction, and the faults of reading.
use Rattle.std.specs.Prelude.{ℕ, Bool, true, false}
use Rattle.faults.specs.declared.fault.Wrong.{Wrong}
use Rattle.faults.specs.declared.fault.Wrong.TheVariants.{NotJson, Shape, Name, DuplicateObject, UnknownObject, UnknownOperation, Argument}
use Rattle.faults.specs.declared.fault.Wrong.TheVariants.{UnknownLabel, DuplicateLabel, Condition, Depth, TooMany, Start}
use Rattle.faults.specs.declared.fault.Code.{Code}
use Rattle.faults.specs.declared.fault.Code.TheVariants as code
use Rattle.faults.specs.declared.fault.Fault.{Fault}

abbrev pub code_number : Code → ℕ
code_number (code.Wrong NotJson) = 1
code_number (code.Wrong Shape) = 2
code_number (code.Wrong Name) = 3
code_number (code.Wrong DuplicateObject) = 4
code_number (code.Wrong UnknownObject) = 5
code_number (code.Wrong UnknownOperation) = 6
code_number (code.Wrong Argument) = 7
code_number (code.Wrong UnknownLabel) = 8
code_number (code.Wrong DuplicateLabel) = 9
code_number (code.Wrong Condition) = 10
code_number (code.Wrong Depth) = 11
code_number (code.Wrong TooMany) = 12
code_number (code.Wrong Start) = 13
code_number code.Memory = 20
code_number code.Input = 21
code_number code.Output = 22

-- whether it may come of bytes alone: no input and no output failed
abbrev pub is_of_reading : Code → Bool
is_of_reading (code.Wrong w) = true
is_of_reading code.Memory = true
is_of_reading code.Input = false
is_of_reading code.Output = false

abbrev pub fault_outside : Code → Fault
fault_outside c = record { code = c; transaction = 0 }

abbrev pub wrong_outside : Wrong → Fault
wrong_outside wrong = fault_outside (code.Wrong wrong)

abbrev pub memory_fault : Fault
memory_fault = fault_outside code.Memory

abbrev pub input_fault : Fault
input_fault = fault_outside code.Input

abbrev pub output_fault : Fault
output_fault = fault_outside code.Output
