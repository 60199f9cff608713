use Rattle.std.proofs.Common.{rules}
use Rattle.objects.proofs.kind.Value.kind.Goals as goal

pub returns-in-Set : goal.returns-in-Set
returns-in-Set c = search rules
