use Rattle.batch.proofs.FillingLemmas.{amount_found}
use Rattle.batch.proofs.filling.whole_amount.Goals as goal

pub returns : goal.returns
returns c = amount_found c.args.number c.new.result c.new.ensures.in_range c.new.ensures.value
