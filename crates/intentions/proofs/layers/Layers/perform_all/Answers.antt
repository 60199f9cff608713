use Rattle.std.proofs.Common.{◌+◌, drop, sym, ap, ◌∙◌, subst}
use Rattle.intentions.specs.Layers.{States}
use Rattle.intentions.specs.Levels.{AllHaveRoom}
use Rattle.objects.specs.Entries.{after, AreLegal}
use Rattle.intentions.proofs.EntriesLemmas.{next_entry, legal-fits}
use Rattle.intentions.proofs.layers.Layers.perform_all.Goals as goal

pub perform-requires-clause-fits : goal.perform-requires-clause-fits
perform-requires-clause-fits c =
    let e = c.entry-item.result in
    let next = next_entry c.loop-entry.self.shown c.args.entries.now c.loop-entry.entry-index e c.loop-entry-test.true c.entry-item.is
    c.loop-entry.invariant.legal c.loop-entry.invariant.room in
    legal-fits c.loop-entry.self.shown e.object e.call e.reply next.legal

pub perform-requires-clause-room : goal.perform-requires-clause-room
perform-requires-clause-room c =
    let e = c.entry-item.result in
    let next = next_entry c.loop-entry.self.shown c.args.entries.now c.loop-entry.entry-index e c.loop-entry-test.true c.entry-item.is
    c.loop-entry.invariant.legal c.loop-entry.invariant.room in
    next.room

pub loop-entry-preserved : goal.loop-entry-preserved
loop-entry-preserved c =
    let e = c.entry-item.result in
    let rest = drop (c.loop-entry.entry-index + 1) c.args.entries.now in
    let next = next_entry c.loop-entry.self.shown c.args.entries.now c.loop-entry.entry-index e c.loop-entry-test.true c.entry-item.is
    c.loop-entry.invariant.legal c.loop-entry.invariant.room in
    let same = ap (λ (s : States). s.shown) c.in_ok-_reply.ensures.ok in
    record {
      legal = subst (λ ws. AreLegal ws rest) (sym same) next.rest_legal;
      room = subst (λ ws. AllHaveRoom ws rest) (sym same) next.rest_room;
      leads = ap (λ ws. after ws rest) same ∙ sym next.leads ∙ c.loop-entry.invariant.leads;
      begun = ap (λ (s : States). s.begun) c.in_ok-_reply.ensures.ok ∙ c.loop-entry.invariant.begun;
    }
