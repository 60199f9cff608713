use Rattle.std.proofs.Common.{rules}
use Rattle.intentions.proofs.draft_table.DraftTable.clear.Goals as goal

pub returns : goal.returns
returns c = search rules
