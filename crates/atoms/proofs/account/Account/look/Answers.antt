use Rattle.std.proofs.Common.{rules}
use Rattle.atoms.proofs.account.Account.look.Goals as goal

pub returns-then-balance-get-clause-same : goal.returns-then-balance-get-clause-same
returns-then-balance-get-clause-same c = search rules

pub returns-then-balance-get-clause-reply : goal.returns-then-balance-get-clause-reply
returns-then-balance-get-clause-reply c = search rules

pub returns-then-balance-get-clause-answers : goal.returns-then-balance-get-clause-answers
returns-then-balance-get-clause-answers c = search rules
