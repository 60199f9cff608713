use Rattle.std.proofs.Common.{◌≡◌, ◌++◌, reverse, ap, ◌∙◌, subst}
use Rattle.intentions.specs.Layers.{States}
use Rattle.intentions.specs.Levels.{AllHaveRoom}
use Rattle.objects.specs.Entries.{AreLegal}
use Rattle.intentions.proofs.ViewLemmas.{nets_of, same_shown, kept_absorbing}
use Rattle.intentions.proofs.view.View.absorb.Goals as goal

pub perform_whole-requires-clause-legal : goal.perform_whole-requires-clause-legal
perform_whole-requires-clause-legal c =
    subst (λ ws. AreLegal ws c.args.net.now) (same_shown c.self.inside c.args.self.now c.self.view_is c.self.invariant) c.requires.legal

pub perform_whole-requires-clause-room : goal.perform_whole-requires-clause-room
perform_whole-requires-clause-room c =
    subst (λ ws. AllHaveRoom ws c.args.net.now) (same_shown c.self.inside c.args.self.now c.self.view_is c.self.invariant) c.requires.room

pub invariant_of-self-2 : goal.invariant_of-self-2
invariant_of-self-2 c =
    let same = same_shown c.self.inside c.args.self.now c.self.view_is c.self.invariant in
    let nets : c.make_own.new.own.items ≡ nets_of c.self.inside = c.make_own.ensures.net ∙ cc in
    let kept = kept_absorbing c.self.inside.snapshot.now (nets_of c.self.inside) c.args.net.now c.extend_reserved-2.new.list.items
    (reverse c.self.inside.marks.items) c.self.inside.layers c.perform_whole.new.self
    c.self.invariant.0 (subst (λ ws. AreLegal ws c.args.net.now) same c.requires.legal)
    (subst (λ ws. AllHaveRoom ws c.args.net.now) same c.requires.room)
    (ap (λ (s : States). s.shown) c.in_ok-perform_whole.ensures.ok) (ap (λ (s : States). s.begun) c.in_ok-perform_whole.ensures.ok)
    (c.extend_reserved-2.ensures.items ∙ ap (λ es. es ++ c.args.net.now) nets) in
    rw (c.make_own.ensures.listed) (kept, tt)
