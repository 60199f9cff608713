use Rattle.std.proofs.Common.{rules}
use Rattle.vocabulary.proofs.verb.Verb.since.Goals as goal

pub returns-in-Alone-Length : goal.returns-in-Alone-Length
returns-in-Alone-Length c = search rules
