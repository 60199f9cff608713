use Rattle.std.proofs.Common.{rules}
use Rattle.atoms.proofs.item_set.ItemSetUndo.undo.Goals as goal

pub returns-in-Added-clause-refused : goal.returns-in-Added-clause-refused
returns-in-Added-clause-refused c = search rules

pub returns-in-Added-clause-ok : goal.returns-in-Added-clause-ok
returns-in-Added-clause-ok c = search rules
