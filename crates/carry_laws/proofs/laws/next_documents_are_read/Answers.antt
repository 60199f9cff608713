use Rattle.carry_laws.proofs.JoinedNext.{joined_is_next}
use Rattle.carry_laws.proofs.laws.next_documents_are_read.Goals as goal

pub returns : goal.returns
returns c = joined_is_next
