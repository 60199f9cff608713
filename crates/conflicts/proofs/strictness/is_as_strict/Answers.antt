use Rattle.std.proofs.Common.{sym, ap, ◌∙◌}
use Rattle.conflicts.specs.Strictness.{strength_of, covers}
use Rattle.conflicts.proofs.EffectLemmas.{given_strict}
use Rattle.conflicts.proofs.strictness.is_as_strict.Goals as goal

pub returns-clause-strict : goal.returns-clause-strict
returns-clause-strict c h = given_strict c.args.first.now c.args.second.now c.of.result c.of-2.result c.of.ensures c.of-2.ensures
    (sym c.covers.ensures ∙ h)

pub returns-clause-exact : goal.returns-clause-exact
returns-clause-exact c = c.covers.ensures ∙ ap (λ s. covers s c.of-2.result) c.of.ensures
    ∙ ap (covers (strength_of c.args.first.now)) c.of-2.ensures
