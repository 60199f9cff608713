use Rattle.std.proofs.Common.{rules}
use Rattle.atoms.proofs.item_set.effects_commute.Goals as goal

pub returns-in-WasAdded-WasAdded : goal.returns-in-WasAdded-WasAdded
returns-in-WasAdded-WasAdded c = search rules

pub returns-in-WasAdded-WasCounted : goal.returns-in-WasAdded-WasCounted
returns-in-WasAdded-WasCounted c = search rules

pub returns-in-WasAdded-WasCounted-2 : goal.returns-in-WasAdded-WasCounted-2
returns-in-WasAdded-WasCounted-2 c = search rules

pub returns-in-WasRemoved-WasCounted : goal.returns-in-WasRemoved-WasCounted
returns-in-WasRemoved-WasCounted c = search rules

pub returns-in_default : goal.returns-in_default
returns-in_default c = search rules

pub returns-in_default-2 : goal.returns-in_default-2
returns-in_default-2 c = search rules

pub returns-in_default-3 : goal.returns-in_default-3
returns-in_default-3 c = search rules

pub returns-in_default-4 : goal.returns-in_default-4
returns-in_default-4 c = search rules

pub returns-in_default-5 : goal.returns-in_default-5
returns-in_default-5 c = search rules

pub returns-in_default-6 : goal.returns-in_default-6
returns-in_default-6 c = search rules
