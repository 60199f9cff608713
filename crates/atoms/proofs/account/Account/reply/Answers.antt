use Rattle.std.proofs.Common.{rules}
use Rattle.atoms.proofs.account.Account.reply.Goals as goal

pub returns-else-get-balance : goal.returns-else-get-balance
returns-else-get-balance c = search rules

pub returns-then-get-balance : goal.returns-then-get-balance
returns-then-get-balance c = search rules
