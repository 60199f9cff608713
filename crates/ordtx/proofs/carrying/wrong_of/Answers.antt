use Rattle.std.proofs.Common.{rules}
use Rattle.ordtx.proofs.carrying.wrong_of.Goals as goal

pub returns-in-TooMany : goal.returns-in-TooMany
returns-in-TooMany c = search rules
