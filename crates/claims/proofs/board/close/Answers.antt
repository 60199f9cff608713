use Rattle.std.proofs.Common.{rules}
use Rattle.claims.proofs.board.close.Goals as goal

pub returns : goal.returns
returns c = search rules
