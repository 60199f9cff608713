use Rattle.std.proofs.Common.{rules}
use Rattle.claims.proofs.board.Board.open.Goals as goal

pub of_words-requires : goal.of_words-requires
of_words-requires c = search rules

pub returns-clause-size : goal.returns-clause-size
returns-clause-size c = search rules
