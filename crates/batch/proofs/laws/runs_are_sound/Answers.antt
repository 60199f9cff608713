use Rattle.batch.proofs.Soundness.{soundness, batch_soundness}
use Rattle.batch.proofs.laws.runs_are_sound.Goals as goal

pub returns-clause-run : goal.returns-clause-run
returns-clause-run c = soundness

pub returns-clause-batch : goal.returns-clause-batch
returns-clause-batch c = batch_soundness
