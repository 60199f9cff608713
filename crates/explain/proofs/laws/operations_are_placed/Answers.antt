use Rattle.explain.proofs.Linked.{run_entries, run_net}
use Rattle.explain.proofs.laws.operations_are_placed.Goals as goal

pub returns : goal.returns
returns c names start batch i b = (run_entries names start batch i b, run_net names start batch i b)
