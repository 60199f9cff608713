use Rattle.std.proofs.Common.{None, reverse, ap, ◌∙◌}
use Rattle.intentions.specs.DraftTables.{drafts_of}
use Rattle.intentions.specs.Layers.{histories, values_now, values_at}
use Rattle.intentions.proofs.LayersLemmas.{states_of, histories-same, now-none}
use Rattle.intentions.proofs.layers.Layers.restart.Goals as goal

pub returns : goal.returns
returns c =
    let snapshot = c.args.snapshot.now in
    let hs = histories snapshot (drafts_of c.clear.new.self) in
    states_of
    (ap values_now (histories-same snapshot (λ object. None) (drafts_of c.clear.new.self) c.clear.ensures) ∙ now-none snapshot)
    (ap (λ ss. values_at hs (reverse ss) c.clear-2.new.self.items) c.clear-3.ensures.items)
