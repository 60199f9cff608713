use Rattle.carry_laws.proofs.CarriedLaws.{carried_is_read}
use Rattle.carry_laws.proofs.laws.carried_objects_are_read.Goals as goal

pub returns : goal.returns
returns c = carried_is_read
