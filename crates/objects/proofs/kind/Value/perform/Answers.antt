use Rattle.std.proofs.Common.{rules}
use Rattle.objects.proofs.kind.Value.perform.Goals as goal

pub returns-clause-refused : goal.returns-clause-refused
returns-clause-refused c = search rules
