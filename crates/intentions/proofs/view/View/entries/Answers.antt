use Rattle.std.proofs.Common.{rules}
use Rattle.intentions.proofs.view.View.entries.Goals as goal

pub returns : goal.returns
returns c = search rules
