use Rattle.std.proofs.Common.{None, reverse, ap, ◌∙◌}
use Rattle.intentions.specs.DraftTables.{drafts_of}
use Rattle.intentions.specs.Layers.{histories, values_now, values_at}
use Rattle.intentions.proofs.LayersLemmas.{states_of, histories-same, now-none}
use Rattle.intentions.proofs.layers.Layers.open.Goals as goal

pub returns : goal.returns
returns c =
    let snapshot = c.args.snapshot.now in
    let hs = histories snapshot (drafts_of c.new.result) in
    states_of
    (ap values_now (histories-same snapshot (λ object. None) (drafts_of c.new.result) c.new.ensures) ∙ now-none snapshot)
    (ap (λ ss. values_at hs (reverse ss) c.new-2.result.items) c.new-3.ensures.items)
