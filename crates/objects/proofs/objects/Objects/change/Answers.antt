use Rattle.std.proofs.Common.{rules}
use Rattle.objects.proofs.objects.Objects.change.Goals as goal

pub returns-in-Some : goal.returns-in-Some
returns-in-Some c = search rules
