use Rattle.std.proofs.Common.{rules}
use Rattle.intentions.proofs.view.View.into_run.Goals as goal

pub returns-clause-net : goal.returns-clause-net
returns-clause-net c = search rules
