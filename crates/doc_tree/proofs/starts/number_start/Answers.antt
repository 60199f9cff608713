use Rattle.std.proofs.Common.{rules}
use Rattle.doc_tree.proofs.starts.number_start.Goals as goal

pub returns-in-Some : goal.returns-in-Some
returns-in-Some c = search rules
