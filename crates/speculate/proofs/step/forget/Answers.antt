use Rattle.speculate.proofs.step.forget.Goals as goal

pub returns : goal.returns
returns c = c.truncate.ensures.items
