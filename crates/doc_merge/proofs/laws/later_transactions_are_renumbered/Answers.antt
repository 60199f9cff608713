use Rattle.doc_merge.proofs.ReadAfter.{read_after}
use Rattle.doc_merge.proofs.laws.later_transactions_are_renumbered.Goals as goal

pub returns : goal.returns
returns c = read_after
