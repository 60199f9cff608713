use Rattle.std.proofs.Common.{rules}
use Rattle.drafts.proofs.shown.ShownValue.fits.Goals as goal

pub returns-in-Changed : goal.returns-in-Changed
returns-in-Changed c = search rules
