use Rattle.std.proofs.Common.{◌≡◌, ◌+◌, ◌≤◌, arith, [], ◌∷◌, ◌++◌, length, vec_capacity, reverse, ap, sym, ◌∙◌, subst}
use Rattle.objects.specs.Objects.{objects, Fits, ObjectHasRoom}
use Rattle.objects.specs.declared.entry.Entry.{Entry}
use Rattle.intentions.specs.Levels.{listed_by}
use Rattle.intentions.specs.Layers.{States, CanList}
use Rattle.intentions.proofs.ViewLemmas.{nets_of, same_shown, kept_absorbing, can_list_more, listed_more}
use Rattle.intentions.proofs.view.View.perform.Goals as goal

pub perform-requires-clause-fits : goal.perform-requires-clause-fits
perform-requires-clause-fits c =
    subst (λ ws. Fits ws c.args.object c.args.call.now) (same_shown c.self.inside c.args.self.now c.self.view_is c.self.invariant)
    c.requires.fits

pub perform-requires-clause-room : goal.perform-requires-clause-room
perform-requires-clause-room c =
    subst (λ ws. ObjectHasRoom ws c.args.object c.args.call.now) (same_shown c.self.inside c.args.self.now c.self.view_is c.self.invariant)
    c.requires.room

pub invariant_of-self-2 : goal.invariant_of-self-2
invariant_of-self-2 c =
    let entry : Entry = record { object = c.args.object; call = c.args.call.now; reply = c.in_ok-reply.reply } in
    let same = same_shown c.self.inside c.args.self.now c.self.view_is c.self.invariant in
    let listed = c.self.inside.listed in
    let entries = c.self.inside.entries.items in
    let own = c.push_reserved-2.new.own in
    let entries_are : c.push_reserved.new.self.items ≡ entries ++ entry ∷ [] = cc in
    let own_is : own.items ≡ listed_by listed c.self.inside.net.items (c.self.inside.net.items ++ entry ∷ []) = cc in
    let nets_are : listed_by listed c.push_reserved.new.self.items own.items ≡ nets_of c.self.inside ++ entry ∷ [] =
    cc (entries_are, own_is, listed_more listed entries c.self.inside.net.items entry) in
    let same_nets : listed_by listed c.deref.result.now c.self.inside.net.items ≡ nets_of c.self.inside = cc in
    let room : length (nets_of c.self.inside) + 1 ≤ vec_capacity own =
    omega (arith, ap length same_nets, c.in_ok-reserve-2.ensures.ok, c.push_reserved-2.ensures.capacity) in
    let can = can_list_more listed entries entry c.self.inside.net own c.self.invariant.1 room own_is in
    let kept = kept_absorbing c.self.inside.snapshot.now (nets_of c.self.inside) (entry ∷ [])
    (listed_by listed c.push_reserved.new.self.items own.items) (reverse c.self.inside.marks.items) c.self.inside.layers c.perform.new.self
    c.self.invariant.0 (c.in_ok-reply.ensures.reply, tt)
    (subst (λ ws. ObjectHasRoom ws c.args.object c.args.call.now) same c.requires.room, tt)
    (ap (λ (s : States). s.shown) c.in_ok-reply.ensures.ok) (ap (λ (s : States). s.begun) c.in_ok-reply.ensures.ok) nets_are in
    (kept, subst (λ es. CanList listed es own) (sym entries_are) can)

pub returns-clause-reply : goal.returns-clause-reply
returns-clause-reply c =
    ap (λ ws. objects.reply ws (c.args.object, c.args.call.now)) (same_shown c.self.inside c.args.self.now c.self.view_is c.self.invariant)
    ∙ c.in_ok-reply.ensures.reply
