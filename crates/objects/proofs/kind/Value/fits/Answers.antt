use Rattle.std.proofs.Common.{rules}
use Rattle.objects.proofs.kind.Value.fits.Goals as goal

pub returns : goal.returns
returns c = search rules
