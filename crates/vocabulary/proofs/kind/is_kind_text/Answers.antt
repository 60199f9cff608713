use Rattle.std.proofs.Common.{rules}
use Rattle.vocabulary.proofs.kind.is_kind_text.Goals as goal

pub returns-then-eq : goal.returns-then-eq
returns-then-eq c = search rules
