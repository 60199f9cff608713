use Rattle.std.proofs.Common.{rules}
use Rattle.atoms.proofs.counter.effects_commute.Goals as goal

pub returns : goal.returns
returns c = search rules
