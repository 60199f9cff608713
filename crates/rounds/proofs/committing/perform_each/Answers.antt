use Rattle.std.proofs.Common.{◌+◌, [], ◌∷◌, drop, subst}
use Rattle.objects.specs.Parts.{CanPerformOn}
use Rattle.objects.proofs.PartLemmas.{can-fits, can-room, performed-entry}
use Rattle.rounds.proofs.Commits.{fewer_left, next_entries}
use Rattle.rounds.proofs.committing.perform_each.Goals as goal

pub perform_on-requires-clause-fits : goal.perform_on-requires-clause-fits
perform_on-requires-clause-fits c =
    let e = c.entry-item.result in
    let later = drop (c.loop-entry.entry-index + 1) c.args.entries.now in
    can-fits c.args.first c.loop-entry.values e later (subst (CanPerformOn c.args.first c.loop-entry.values)
    (next_entries c.args.entries.now c.loop-entry.entry-index e c.loop-entry-test.true c.entry-item.is) c.loop-entry.invariant.can)

pub perform_on-requires-clause-room : goal.perform_on-requires-clause-room
perform_on-requires-clause-room c =
    let e = c.entry-item.result in
    let later = drop (c.loop-entry.entry-index + 1) c.args.entries.now in
    can-room c.args.first c.loop-entry.values e later (subst (CanPerformOn c.args.first c.loop-entry.values)
    (next_entries c.args.entries.now c.loop-entry.entry-index e c.loop-entry-test.true c.entry-item.is) c.loop-entry.invariant.can)

pub loop-entry-preserved : goal.loop-entry-preserved
loop-entry-preserved c =
    let e = c.entry-item.result in
    let i = c.loop-entry.entry-index in
    fewer_left c.args.first c.args.values.now c.loop-entry.values c.perform_on.new.values c.args.entries.now (drop i c.args.entries.now)
    (e ∷ []) (drop (i + 1) c.args.entries.now) (next_entries c.args.entries.now i e c.loop-entry-test.true c.entry-item.is)
    c.loop-entry.invariant (performed-entry c.args.first c.loop-entry.values c.perform_on.new.values e c.in_ok-perform_on.ensures.ok)
