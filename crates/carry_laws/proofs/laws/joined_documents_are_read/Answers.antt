use Rattle.carry_laws.proofs.JoinedLaws.{joined_is_read}
use Rattle.carry_laws.proofs.laws.joined_documents_are_read.Goals as goal

pub returns : goal.returns
returns c = joined_is_read
