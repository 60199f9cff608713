use Rattle.std.proofs.Common.{rules}
use Rattle.drafts.proofs.shown.ShownValue.look.Goals as goal

pub returns-in-Changed-clause-answers : goal.returns-in-Changed-clause-answers
returns-in-Changed-clause-answers c = search rules
