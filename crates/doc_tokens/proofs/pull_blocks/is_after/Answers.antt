use Rattle.std.proofs.Common.{rules}
use Rattle.doc_tokens.proofs.pull_blocks.is_after.Goals as goal

pub returns-in-Some : goal.returns-in-Some
returns-in-Some c = search rules
