use Rattle.std.proofs.Common.{rules}
use Rattle.batch.specs.declared.tree.Otherwise.{the_lemmas as otherwise_lemmas}
use Rattle.doc_tree.proofs.steps.taking.Goals as goal

pub returns-in-Some-None : goal.returns-in-Some-None
returns-in-Some-None c = search (rules, otherwise_lemmas)
