use Rattle.std.proofs.Common.{◌≡◌, Some, None, sym, ap, ◌∙◌}
use Rattle.std.specs.FinSet as set
use Rattle.atoms.specs.ItemSet.{Sets}
use Rattle.drafts.specs.History.{History}
use Rattle.drafts.specs.Overlays.{slot_at}
use Rattle.drafts.proofs.OverlayLemmas.{slot_or, contains-over}
use Rattle.drafts.proofs.set_draft.SetDraft.contains.Goals as goal

pub returns-in-Some : goal.returns-in-Some
returns-in-Some c =
    let lent = c.self.inside.lent.now in
    let slots = c.self.inside.touched.entries in
    let there : Some c.in-Some.inside.now ≡ slot_at slots c.args.item = c.in-Some.ensures.value in
    ap (λ o. slot_or o (set.contains lent c.args.item)) there ∙ sym (contains-over lent slots c.args.item)
    ∙ ap (λ (h : History Sets). set.contains h.value c.args.item) c.self.view_is

pub returns-in-None : goal.returns-in-None
returns-in-None c =
    let lent = c.self.inside.lent.now in
    let slots = c.self.inside.touched.entries in
    let there : None ≡ slot_at slots c.args.item = c.in-None.ensures.value in
    c.contains.ensures ∙ ap (λ o. slot_or o (set.contains lent c.args.item)) there ∙ sym (contains-over lent slots c.args.item)
    ∙ ap (λ (h : History Sets). set.contains h.value c.args.item) c.self.view_is
