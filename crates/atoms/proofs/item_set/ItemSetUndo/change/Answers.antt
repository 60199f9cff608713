use Rattle.std.proofs.Common.{rules}
use Rattle.atoms.proofs.item_set.ItemSetUndo.change.Goals as goal

pub returns-in-Insert : goal.returns-in-Insert
returns-in-Insert c = search rules
