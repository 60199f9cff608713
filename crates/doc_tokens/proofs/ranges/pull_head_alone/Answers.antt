use Rattle.std.proofs.Common.{ap}
use Rattle.std.specs.Prelude.{false}
use Rattle.doc_cuts.specs.Whole.{is_left}
use Rattle.doc_tokens.proofs.ranges.pull_head_alone.Goals as goal

pub returns-clause-begun : goal.returns-clause-begun
unfolding is_left
returns-clause-begun c = c.in_ok-declared.ensures.left false (ap (is_left false false) c.in_ok-pull_end.ensures)
