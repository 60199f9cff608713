use Rattle.std.proofs.Common.{rules}
use Rattle.doc_tree.proofs.steps.has_reasons.Goals as goal

pub returns : goal.returns
returns c = search rules
