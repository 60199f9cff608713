use Rattle.std.proofs.Common.{◌∙◌}
use Rattle.doc_tree.proofs.DigestLemmas.{outline_found, slot_right}
use Rattle.doc_tree.proofs.outlines.Outlines.find.Goals as goal

pub returns-in-Some : goal.returns-in-Some
returns-in-Some c = λ names kinds all.
    let os = c.as_slice-outline-items.result.now in
    let slot = rw c.deref.ensures.value at c.in_ok-get.ensures.lookup.3 in
    let right = slot_right names kinds c.args.self.now.slots.items c.slot-slot.result os slot.0
    (c.as_slice-outline-items.ensures ∙ slot.1 os) all in
    let found = c.in-Some.ensures in
    outline_found names kinds _ c.args.digest c.in-Some.found (right c.loop-outline.outline-index _ c.loop-outline-test.true)
    found.digest found.place found.kind
