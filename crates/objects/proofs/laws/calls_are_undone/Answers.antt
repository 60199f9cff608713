use Rattle.objects.proofs.KindLemmas.{objects_take_back, objects_rewind}
use Rattle.objects.proofs.laws.calls_are_undone.Goals as goal

pub returns-clause-one : goal.returns-clause-one
returns-clause-one c = objects_take_back

pub returns-clause-journal : goal.returns-clause-journal
returns-clause-journal c = objects_rewind
