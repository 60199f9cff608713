use Rattle.carry_laws.proofs.NamedTexts.{named_objects_fit}
use Rattle.carry_laws.proofs.laws.named_objects_can_be_carried.Goals as goal

pub returns : goal.returns
returns c = named_objects_fit
