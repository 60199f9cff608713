use Rattle.std.proofs.Common.{rules}
use Rattle.objects.proofs.objects.Objects.fits.Goals as goal

pub returns-in-None : goal.returns-in-None
returns-in-None c = search rules
