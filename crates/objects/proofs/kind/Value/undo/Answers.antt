use Rattle.std.proofs.Common.{rules}
use Rattle.objects.proofs.kind.Value.undo.Goals as goal

pub returns-clause-ok : goal.returns-clause-ok
returns-clause-ok c = search rules
