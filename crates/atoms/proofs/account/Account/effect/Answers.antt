use Rattle.std.proofs.Common.{rules}
use Rattle.atoms.proofs.account.Account.effect.Goals as goal

pub returns-in-Withdraw-No : goal.returns-in-Withdraw-No
returns-in-Withdraw-No c = search rules
