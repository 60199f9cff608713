use Rattle.std.proofs.Common.{rules}
use Rattle.atoms.proofs.queue.effects_commute.Goals as goal

pub returns-in-Dequeued-Counted : goal.returns-in-Dequeued-Counted
returns-in-Dequeued-Counted c = search rules

pub returns-in-Dequeued-Dequeued : goal.returns-in-Dequeued-Dequeued
returns-in-Dequeued-Dequeued c = search rules

pub returns-in-Enqueued-Enqueued : goal.returns-in-Enqueued-Enqueued
returns-in-Enqueued-Enqueued c = search rules

pub returns-in-Enqueued-FoundEmpty : goal.returns-in-Enqueued-FoundEmpty
returns-in-Enqueued-FoundEmpty c = search rules

pub returns-in-Enqueued-FoundEmpty-2 : goal.returns-in-Enqueued-FoundEmpty-2
returns-in-Enqueued-FoundEmpty-2 c = search rules

pub returns-in-Enqueued-FoundEmpty-3 : goal.returns-in-Enqueued-FoundEmpty-3
returns-in-Enqueued-FoundEmpty-3 c = search rules

pub returns-in_default : goal.returns-in_default
returns-in_default c = search rules

pub returns-in_default-2 : goal.returns-in_default-2
returns-in_default-2 c = search rules

pub returns-in_default-3 : goal.returns-in_default-3
returns-in_default-3 c = search rules

pub returns-in_default-4 : goal.returns-in_default-4
returns-in_default-4 c = search rules

pub returns-in_default-5 : goal.returns-in_default-5
returns-in_default-5 c = search rules
