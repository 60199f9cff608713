use Rattle.std.proofs.Common.{◌≡◌, take}
use Rattle.intentions.proofs.layers.Layers.state.Given as goal

abbrev pub invariant-loop-object : goal.invariant-loop-object
invariant-loop-object l = l.state ≡ take l.object l.self.shown
