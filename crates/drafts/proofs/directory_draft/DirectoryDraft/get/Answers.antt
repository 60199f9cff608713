use Rattle.std.proofs.Common.{◌≡◌, Some, None, sym, ap, ◌∙◌}
use Rattle.std.specs.FinMap as map
use Rattle.atoms.specs.Directory.{Directories}
use Rattle.drafts.specs.History.{History}
use Rattle.drafts.specs.Overlays.{slot_at}
use Rattle.drafts.proofs.OverlayLemmas.{slot_or, get-over}
use Rattle.drafts.proofs.directory_draft.DirectoryDraft.get.Goals as goal

pub returns-in-Some : goal.returns-in-Some
returns-in-Some c =
    let lent = c.self.inside.lent.now in
    let slots = c.self.inside.touched.entries in
    let there : Some c.in-Some.bound.now ≡ slot_at slots c.args.key = c.in-Some.ensures.value in
    ap (λ o. slot_or o (map.get lent c.args.key)) there ∙ sym (get-over lent slots c.args.key)
    ∙ ap (λ (h : History Directories). map.get h.value c.args.key) c.self.view_is

pub returns-in-None : goal.returns-in-None
returns-in-None c =
    let lent = c.self.inside.lent.now in
    let slots = c.self.inside.touched.entries in
    let there : None ≡ slot_at slots c.args.key = c.in-None.ensures.value in
    c.get-in-None.ensures ∙ ap (λ o. slot_or o (map.get lent c.args.key)) there ∙ sym (get-over lent slots c.args.key)
    ∙ ap (λ (h : History Directories). map.get h.value c.args.key) c.self.view_is
