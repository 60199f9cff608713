use Rattle.std.proofs.Common.{rules}
use Rattle.claims.proofs.seat.Seat.is_over.Goals as goal

pub returns : goal.returns
returns c = search rules
