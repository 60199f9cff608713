use Rattle.std.proofs.Common.{arith}
use Rattle.doc_tree.proofs.Members.{only_operation}
use Rattle.doc_tree.proofs.steps.sort_of.Goals as goal

pub returns-then-has_only : goal.returns-then-has_only
returns-then-has_only c = grind (arith, only_operation)
