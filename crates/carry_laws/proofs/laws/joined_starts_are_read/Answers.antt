use Rattle.carry_laws.proofs.JoinedLaws.{joined_starts}
use Rattle.carry_laws.proofs.laws.joined_starts_are_read.Goals as goal

pub returns : goal.returns
returns c = joined_starts
