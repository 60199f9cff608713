use Rattle.std.proofs.Common.{rules}
use Rattle.objects.proofs.objects.Objects.len.Goals as goal

pub returns : goal.returns
returns c = search rules
