use Rattle.std.proofs.Common.{rules}
use Rattle.atoms.proofs.counter.CounterAtom.has_room.Goals as goal

pub returns-in-Read : goal.returns-in-Read
returns-in-Read c = search rules
