use Rattle.std.proofs.Common.{◌≡◌, ◌<◌, ◌+◌, ◌∷◌, ◌++◌, ◌-◌, [], drop, length, get_or, append_assoc, arith, sym, ap, ◌∙◌}
use Rattle.std.proofs.lemmas.List.{drop_more}
use Rattle.std.specs.Prelude.{List}
use Rattle.atoms.specs.declared.item.Item.{Item}
use Rattle.drafts.specs.History.{History}
use Rattle.drafts.proofs.QueueLemmas.{between_parts}
use Rattle.drafts.proofs.queue_draft.QueueDraft.whole.Goals as goal

pub loop-place-init : goal.loop-place-init
loop-place-init c =
    let lent = c.self.inside.lent.now in
    let added = c.self.inside.added.items in
    let taken = c.self.inside.taken in
    ap (λ xs. xs ++ (drop taken lent ++ drop (taken - length lent) added)) c.new-whole.ensures
    ∙ sym (between_parts lent added taken) ∙ ap (λ (h : History (List Item)). h.value) c.self.view_is

pub loop-place-preserved : goal.loop-place-preserved
loop-place-preserved c =
    let lent = c.self.inside.lent.now in
    let rest = drop (c.self.inside.taken - length lent) c.self.inside.added.items in
    let whole = c.loop-place.whole in
    let place = c.loop-place.place in
    let item = c.index.result.now in
    let here : item ≡ get_or lent place item = c.index.ensures ∙ ap (λ xs. get_or xs place item) c.items-lent.ensures in
    let size : length c.items-lent.result.now.items ≡ length lent = ap length c.items-lent.ensures in
    let within : place < length lent = omega (arith, c.len-place-end.ensures, c.items-lent.result.now.ok) in
    let more : drop place lent ≡ item ∷ drop (place + 1) lent = drop_more lent place item within ∙ ap (λ x. x ∷ drop (place + 1) lent)
    (sym here) in
    ap (λ xs. xs ++ (drop (place + 1) lent ++ rest)) c.in_ok-push_back.ensures.ok
    ∙ append_assoc whole (item ∷ []) (drop (place + 1) lent ++ rest)
    ∙ sym (ap (λ xs. whole ++ (xs ++ rest)) more) ∙ c.loop-place.invariant
