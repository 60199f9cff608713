use Rattle.std.proofs.Common.{rules}
use Rattle.doc_tree.proofs.counts.Counts.one_more_node.Goals as goal

pub returns : goal.returns
returns c = search rules
