use Rattle.std.proofs.Common.{rules}
use Rattle.drafts.proofs.draft.Draft.settle.Goals as goal

pub returns-in_ok-reply-in_default-clause-ok : goal.returns-in_ok-reply-in_default-clause-ok
returns-in_ok-reply-in_default-clause-ok c = search rules
