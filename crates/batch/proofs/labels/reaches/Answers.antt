use Rattle.std.proofs.Common.{rules}
use Rattle.batch.proofs.labels.reaches.Goals as goal

pub returns-in-Ok : goal.returns-in-Ok
returns-in-Ok c = search rules
