use Rattle.std.proofs.Common.{rules}
use Rattle.objects.proofs.kind.Value.change.Goals as goal

pub returns-in-Max-Max : goal.returns-in-Max-Max
returns-in-Max-Max c = search rules
