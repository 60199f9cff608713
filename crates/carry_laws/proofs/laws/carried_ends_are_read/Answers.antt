use Rattle.carry_laws.proofs.CarriedEnd.{end_is_read}
use Rattle.carry_laws.proofs.laws.carried_ends_are_read.Goals as goal

pub returns : goal.returns
returns c = end_is_read
