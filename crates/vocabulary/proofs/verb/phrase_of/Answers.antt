use Rattle.std.proofs.Common.{rules}
use Rattle.vocabulary.proofs.verb.phrase_of.Goals as goal

pub returns-in-Directory-Put : goal.returns-in-Directory-Put
returns-in-Directory-Put c = search rules
