use Rattle.std.proofs.Common.{rules}
use Rattle.std.proofs.lemmas.List.{length-reverse}
use Rattle.intentions.proofs.StartsLemmas.{length-around}
use Rattle.intentions.proofs.view.View.depth.Goals as goal

pub returns : goal.returns
returns c = rw (← c.self.view_is, length-around, length-reverse) (search rules)
