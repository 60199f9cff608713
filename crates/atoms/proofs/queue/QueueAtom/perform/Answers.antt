use Rattle.std.proofs.Common.{rules}
use Rattle.atoms.proofs.queue.QueueAtom.perform.Goals as goal

pub returns-in-Deq-clause-refused : goal.returns-in-Deq-clause-refused
returns-in-Deq-clause-refused c = search rules

pub returns-in-Deq-clause-reply : goal.returns-in-Deq-clause-reply
returns-in-Deq-clause-reply c = search rules

pub returns-in-Deq-clause-ok : goal.returns-in-Deq-clause-ok
returns-in-Deq-clause-ok c = search rules
