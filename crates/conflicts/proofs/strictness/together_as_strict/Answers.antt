use Rattle.std.proofs.Common.{ap}
use Rattle.objects.specs.Objects.{effects_commute, OfSet, OfQueue, OfDirectory}
use Rattle.conflicts.proofs.EffectLemmas.{sets_strict, queues_strict, directories_strict, strict_together, as_effects, as_effect}
use Rattle.conflicts.proofs.strictness.together_as_strict.Goals as goal

pub returns-in-Set-Set-Set-Set-Set-Set :
    goal.returns-in-Set-Set-Set-Set-Set-Set
returns-in-Set-Set-Set-Set-Set-Set c = λ first second h.
    let w = c.in-Set-Set-Set-Set-Set-Set in
    strict_together c.args.first.now c.args.second.now c.args.third.now first second
    (as_effects effects_commute
    (as_effect w.is-0 w.is-1 (ap OfSet c.effect.ensures))
    (as_effect w.is-2 w.is-3 (ap OfSet c.effect-in-Set-Set-Set-Set-Set-Set.ensures))
    (as_effect w.is-4 w.is-5 (ap OfSet c.effect-in-Set-Set-Set-Set-Set-Set-2.ensures))
    (sets_strict _ _ _ (c.sets_as_strict.ensures h)))

pub returns-in-Queue-Queue-Queue-Queue-Queue-Queue :
    goal.returns-in-Queue-Queue-Queue-Queue-Queue-Queue
returns-in-Queue-Queue-Queue-Queue-Queue-Queue c = λ first second h.
    let w = c.in-Queue-Queue-Queue-Queue-Queue-Queue in
    strict_together c.args.first.now c.args.second.now c.args.third.now first second
    (as_effects effects_commute
    (as_effect w.is-0 w.is-1 (ap OfQueue c.effect-in-Queue-Queue-Queue-Queue-Queue-Queue.ensures))
    (as_effect w.is-2 w.is-3 (ap OfQueue c.effect-in-Queue-Queue-Queue-Queue-Queue-Queue-2.ensures))
    (as_effect w.is-4 w.is-5 (ap OfQueue c.effect-in-Queue-Queue-Queue-Queue-Queue-Queue-3.ensures))
    (queues_strict _ _ _ (c.queues_as_strict.ensures h)))

pub returns-in-Directory-Directory-Directory-Directory-Directory-Directory :
    goal.returns-in-Directory-Directory-Directory-Directory-Directory-Directory
returns-in-Directory-Directory-Directory-Directory-Directory-Directory c = λ first second h.
    let w = c.in-Directory-Directory-Directory-Directory-Directory-Directory in
    strict_together c.args.first.now c.args.second.now c.args.third.now first second
    (as_effects effects_commute
    (as_effect w.is-0 w.is-1 (ap OfDirectory c.effect-in-Directory-Directory-Directory-Directory-Directory-Directory.ensures))
    (as_effect w.is-2 w.is-3 (ap OfDirectory c.effect-in-Directory-Directory-Directory-Directory-Directory-Directory-2.ensures))
    (as_effect w.is-4 w.is-5 (ap OfDirectory c.effect-in-Directory-Directory-Directory-Directory-Directory-Directory-3.ensures))
    (directories_strict _ _ _ (c.directories_as_strict.ensures h)))
