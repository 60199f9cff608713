use Rattle.one_thread.proofs.Answered.{ArePartAnswered}
use Rattle.one_thread.proofs.transactions.plain.Given as goal

abbrev pub invariant-loop-block : goal.invariant-loop-block
invariant-loop-block l = ArePartAnswered l.batch l.block-index l.records.items l.workspace
