use Rattle.std.proofs.Common.{rules}
use Rattle.drafts.proofs.draft.Draft.whole.Goals as goal

pub returns-in-Counter-clause-refused : goal.returns-in-Counter-clause-refused
returns-in-Counter-clause-refused c = search rules

pub returns-in-Counter-clause-value : goal.returns-in-Counter-clause-value
returns-in-Counter-clause-value c = search rules
