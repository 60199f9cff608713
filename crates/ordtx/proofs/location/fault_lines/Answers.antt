use Rattle.std.proofs.Common.{rules}
use Rattle.ordtx.proofs.location.fault_lines.Goals as goal

pub returns-clause-text : goal.returns-clause-text
returns-clause-text c = search rules
