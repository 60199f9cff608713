use Rattle.std.proofs.Common.{◌≡◌, [], ◌∷◌, ◌++◌, sym, ap, ◌∙◌, Option}
use Rattle.atoms.specs.Directory.{put_at}
use Rattle.atoms.specs.declared.item.Item.{Item}
use Rattle.drafts.specs.Overlays.{over_directory}
use Rattle.drafts.proofs.OverlayLemmas.{over_directory-append}
use Rattle.drafts.proofs.directory_draft.DirectoryDraft.whole.Goals as goal

pub loop-key-preserved-in-Continue-branch-2 : goal.loop-key-preserved-in-Continue-branch-2
loop-key-preserved-in-Continue-branch-2 c =
    let whole = c.loop-key.whole in
    let rest = c.next.new.self.iter in
    let slot : Item × Option Item = (c.in-Some.key.now, c.in-Some.bound.now) in
    let steps : c.loop-key.key-iterator.iter ≡ rest ++ slot ∷ [] = c.in-Some.ensures.steps in
    ap (λ m. over_directory m rest) (c.in_ok-put-in-Some-bound.ensures.ok ∙ ap (put_at whole slot.0) (sym c.in-Some-bound.is))
    ∙ sym (over_directory-append whole rest slot) ∙ sym (ap (over_directory whole) steps) ∙ c.loop-key.invariant

pub loop-key-preserved : goal.loop-key-preserved
loop-key-preserved c =
    let whole = c.loop-key.whole in
    let rest = c.next.new.self.iter in
    let slot : Item × Option Item = (c.in-Some.key.now, c.in-Some.bound.now) in
    let steps : c.loop-key.key-iterator.iter ≡ rest ++ slot ∷ [] = c.in-Some.ensures.steps in
    ap (λ m. over_directory m rest) (c.unbind.ensures.removed ∙ ap (put_at whole slot.0) (sym c.in-None-bound.is))
    ∙ sym (over_directory-append whole rest slot) ∙ sym (ap (over_directory whole) steps) ∙ c.loop-key.invariant
