use Rattle.std.proofs.Common.{rules}
use Rattle.batch.proofs.names.Names.item.Goals as goal

pub returns : goal.returns
returns c = search rules
