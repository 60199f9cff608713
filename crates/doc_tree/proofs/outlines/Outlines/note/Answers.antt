use Rattle.std.proofs.Common.{set}
use Rattle.std.specs.List.{All}
use Rattle.std.proofs.lemmas.List.Elements.{All-set}
use Rattle.doc_tree.specs.Digests.{IsRight}
use Rattle.doc_tree.proofs.DigestLemmas.{slot_right}
use Rattle.doc_tree.proofs.outlines.Outlines.note.Goals as goal

pub returns-in-Some-position : goal.returns-in-Some-position
returns-in-Some-position c = λ names kinds right all.
    let slots = c.args.self.now.slots.items in
    let os = c.in-Some.outlines.now in
    let at = c.in-Some.ensures.item in
    All-set (All (IsRight names kinds)) slots c.slot-slot.result (set os c.in-Some-position.room c.args.outline)
    (All-set (IsRight names kinds) os c.in-Some-position.room c.args.outline right
    (slot_right names kinds slots c.slot-slot.result os at.3.0 at.1 all)) all

pub returns-in_default-position : goal.returns-in_default-position
returns-in_default-position c = λ names kinds right all.
    let slots = c.args.self.now.slots.items in
    let os = c.in-Some.outlines.now in
    let at = c.in-Some.ensures.item in
    All-set (All (IsRight names kinds)) slots c.slot-slot.result os
    (slot_right names kinds slots c.slot-slot.result os at.3.0 at.1 all) all
