use Rattle.std.proofs.Common.{rules}
use Rattle.atoms.proofs.directory.commute_at_key.Goals as goal

pub returns-in-WasBound-WasBound : goal.returns-in-WasBound-WasBound
returns-in-WasBound-WasBound c = search rules

pub returns-in-WasBound-WasBound-2 : goal.returns-in-WasBound-WasBound-2
returns-in-WasBound-WasBound-2 c = search rules

pub returns-in-WasBound-WasBound-3 : goal.returns-in-WasBound-WasBound-3
returns-in-WasBound-WasBound-3 c = search rules

pub returns-in-WasBound-WasBound-4 : goal.returns-in-WasBound-WasBound-4
returns-in-WasBound-WasBound-4 c = search rules

pub returns-in-WasBound-WasBound-5 : goal.returns-in-WasBound-WasBound-5
returns-in-WasBound-WasBound-5 c = search rules

pub returns-in-WasBound-WasBound-6 : goal.returns-in-WasBound-WasBound-6
returns-in-WasBound-WasBound-6 c = search rules

pub returns-in-WasPut-WasPut : goal.returns-in-WasPut-WasPut
returns-in-WasPut-WasPut c = search rules

pub returns-in_default : goal.returns-in_default
returns-in_default c = search rules

pub returns-in_default-2 : goal.returns-in_default-2
returns-in_default-2 c = search rules

pub returns-in_default-3 : goal.returns-in_default-3
returns-in_default-3 c = search rules

pub returns-in_default-4 : goal.returns-in_default-4
returns-in_default-4 c = search rules

pub returns-in_default-5 : goal.returns-in_default-5
returns-in_default-5 c = search rules

pub returns-in_default-6 : goal.returns-in_default-6
returns-in_default-6 c = search rules

pub returns-in_default-7 : goal.returns-in_default-7
returns-in_default-7 c = search rules
