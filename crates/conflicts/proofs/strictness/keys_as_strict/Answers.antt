use Rattle.std.proofs.Common.{rules}
use Rattle.conflicts.proofs.strictness.keys_as_strict.Goals as goal

pub returns-after-matches : goal.returns-after-matches
returns-after-matches c = search rules
