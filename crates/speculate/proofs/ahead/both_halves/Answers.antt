use Rattle.std.proofs.Common.{rules}
use Rattle.speculate.proofs.ahead.both_halves.Goals as goal

pub returns : goal.returns
returns c = search rules
