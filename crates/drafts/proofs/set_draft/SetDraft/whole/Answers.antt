use Rattle.std.proofs.Common.{◌≡◌, Bool, [], ◌∷◌, ◌++◌, sym, ap, ◌∙◌}
use Rattle.atoms.specs.declared.item.Item.{Item}
use Rattle.drafts.specs.Overlays.{put_item, over_set}
use Rattle.drafts.proofs.OverlayLemmas.{over_set-append}
use Rattle.drafts.proofs.set_draft.SetDraft.whole.Goals as goal

pub loop-item-preserved-in_ok-insert : goal.loop-item-preserved-in_ok-insert
loop-item-preserved-in_ok-insert c =
    let whole = c.loop-item.whole in
    let rest = c.next.new.self.iter in
    let slot : Item × Bool = (c.in-Some.item.now, c.in-Some.inside.now) in
    let steps : c.loop-item.item-iterator.iter ≡ rest ++ slot ∷ [] = c.in-Some.ensures.steps in
    ap (λ s. over_set s rest) (c.in_ok-insert.ensures.ok ∙ ap (put_item whole slot.0) (sym c.if-inside.true))
    ∙ sym (over_set-append whole rest slot) ∙ sym (ap (over_set whole) steps) ∙ c.loop-item.invariant

pub loop-item-preserved : goal.loop-item-preserved
loop-item-preserved c =
    let whole = c.loop-item.whole in
    let rest = c.next.new.self.iter in
    let slot : Item × Bool = (c.in-Some.item.now, c.in-Some.inside.now) in
    let steps : c.loop-item.item-iterator.iter ≡ rest ++ slot ∷ [] = c.in-Some.ensures.steps in
    ap (λ s. over_set s rest) (c.remove.ensures.removed ∙ ap (put_item whole slot.0) (sym c.if-inside.false))
    ∙ sym (over_set-append whole rest slot) ∙ sym (ap (over_set whole) steps) ∙ c.loop-item.invariant
