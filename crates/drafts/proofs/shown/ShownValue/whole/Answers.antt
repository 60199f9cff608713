use Rattle.std.proofs.Common.{rules}
use Rattle.drafts.proofs.shown.ShownValue.whole.Goals as goal

pub returns-in-Changed-clause-refused : goal.returns-in-Changed-clause-refused
returns-in-Changed-clause-refused c = search rules
