use Rattle.atoms.proofs.AccountLemmas.{account_takes_back}
use Rattle.atoms.proofs.CounterLemmas.{counter_takes_back}
use Rattle.atoms.proofs.ItemSetLemmas.{set_takes_back}
use Rattle.atoms.proofs.QueueLemmas.{queue_takes_back}
use Rattle.atoms.proofs.DirectoryLemmas.{directory_takes_back}
use Rattle.atoms.proofs.MaxRegisterLemmas.{max_takes_back}
use Rattle.atoms.proofs.laws.calls_are_undone.Goals as goal

pub returns-clause-account : goal.returns-clause-account
returns-clause-account c = account_takes_back

pub returns-clause-counter : goal.returns-clause-counter
returns-clause-counter c = counter_takes_back

pub returns-clause-set : goal.returns-clause-set
returns-clause-set c = set_takes_back

pub returns-clause-queue : goal.returns-clause-queue
returns-clause-queue c = queue_takes_back

pub returns-clause-directory : goal.returns-clause-directory
returns-clause-directory c = directory_takes_back

pub returns-clause-max : goal.returns-clause-max
returns-clause-max c = max_takes_back
