use Rattle.std.proofs.Common.{rules}
use Rattle.doc_tree.specs.Asked.{label_asked}
use Rattle.doc_tree.proofs.labels.add_new_label.Goals as goal

pub returns-clause-met : goal.returns-clause-met
unfolding label_asked
returns-clause-met c = search rules
