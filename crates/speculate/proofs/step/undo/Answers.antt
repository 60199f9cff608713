use Rattle.std.proofs.Common.{rules}
use Rattle.speculate.proofs.step.undo.Goals as goal

pub returns-in-None-clause-undone : goal.returns-in-None-clause-undone
returns-in-None-clause-undone c = search rules

pub returns-in-Some-clause-undone : goal.returns-in-Some-clause-undone
returns-in-Some-clause-undone c = search rules

pub returns-in-None-clause-end : goal.returns-in-None-clause-end
returns-in-None-clause-end c = search rules

pub returns-in-Some-clause-takes : goal.returns-in-Some-clause-takes
returns-in-Some-clause-takes c = search rules

pub returns-in-None-clause-none : goal.returns-in-None-clause-none
returns-in-None-clause-none c = search rules
