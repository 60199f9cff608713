use Rattle.std.proofs.Common.{◌≡◌, ◌<◌, ◌^◌, reverse, sym, ap, ◌∙◌, subst}
use Rattle.std.specs.FinSet as set
use Rattle.std.proofs.lemmas.Map.Keys.{IsDistinct-from_sorted}
use Rattle.atoms.specs.Item.{item_cmp}
use Rattle.atoms.proofs.ItemSets.{len_keys}
use Rattle.drafts.specs.Overlays.{over_set, AreTouched, AreMade, changed_item}
use Rattle.drafts.proofs.set_draft.SetDraft.of.Goals as goal

pub invariant_of-result : goal.invariant_of-result
invariant_of-result c =
    let keys = c.items.result.now.keys in
    let slots = c.new.result.entries in
    let size : c.len.result ≡ set.len c.args.lent.now =
    c.len.ensures.len ∙ sym (len_keys keys (IsDistinct-from_sorted item_cmp keys c.len.ensures.ordered)) ∙ ap set.len c.items.ensures in
    record {
      counted = size ∙ sym (ap (λ ss. set.len (over_set c.args.lent.now ss)) c.new.ensures.empty);
      small = subst (λ n. n < 2 ^ 63) size c.len.ensures.small;
      touched = subst (λ js. AreTouched changed_item slots (reverse js)) (sym c.new-2.ensures.items) tt;
      made = subst (λ js. AreMade (over_set c.args.lent.now slots) (reverse js)) (sym c.new-2.ensures.items) tt;
    }
