use Rattle.std.proofs.Common.{rules}
use Rattle.committed.proofs.committed.Committed.len.Goals as goal

pub returns : goal.returns
returns c = search rules
