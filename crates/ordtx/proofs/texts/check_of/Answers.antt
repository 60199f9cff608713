use Rattle.std.proofs.Common.{arith}
use Rattle.std.proofs.lemmas.Grind.{common_steps}
use Rattle.ordtx.proofs.texts.check_of.Goals as goal

pub returns : goal.returns
returns c = record { answer = grind (arith, common_steps); fault = tt; code = tt }
