use Rattle.std.proofs.Common.{rules}
use Rattle.carry.proofs.document.carried.Goals as goal

pub returns : goal.returns
returns c = search rules
