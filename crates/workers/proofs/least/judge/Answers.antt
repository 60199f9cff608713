use Rattle.std.proofs.Common.{rules}
use Rattle.workers.proofs.least.judge.Goals as goal

pub returns-then-bound-piece-clause-judged : goal.returns-then-bound-piece-clause-judged
returns-then-bound-piece-clause-judged g c = search rules

pub returns-then-not-passes-clause-same : goal.returns-then-not-passes-clause-same
returns-then-not-passes-clause-same g c = search rules
