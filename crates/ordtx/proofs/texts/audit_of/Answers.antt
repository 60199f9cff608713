use Rattle.std.proofs.Common.{rules}
use Rattle.ordtx.proofs.texts.audit_of.Goals as goal

pub returns : goal.returns
returns g c = record { answer = search rules; fault = tt; code = tt }
