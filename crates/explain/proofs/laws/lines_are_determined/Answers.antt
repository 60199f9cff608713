use Rattle.explain.proofs.Determined.{determined}
use Rattle.explain.proofs.laws.lines_are_determined.Goals as goal

pub returns : goal.returns
returns c = determined
