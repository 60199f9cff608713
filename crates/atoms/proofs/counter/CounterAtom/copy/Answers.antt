use Rattle.std.proofs.Common.{rules}
use Rattle.atoms.proofs.counter.CounterAtom.copy.Goals as goal

pub returns-clause-refused : goal.returns-clause-refused
returns-clause-refused c = search rules

pub returns-clause-copied : goal.returns-clause-copied
returns-clause-copied c = search rules
