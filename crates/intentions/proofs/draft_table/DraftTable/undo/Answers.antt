use Rattle.std.proofs.Common.{◌≡◌, sym}
use Rattle.intentions.specs.DraftTables.{drafts_of, drafts_in}
use Rattle.intentions.specs.Places.{place_in}
use Rattle.intentions.specs.declared.draft_table.Drafted.{Drafted}
use Rattle.intentions.proofs.LayersLemmas.{undo-put, undo_none}
use Rattle.intentions.proofs.DraftTableLemmas.{drafted, found_item, found-at, put-at}
use Rattle.std.specs.Prelude.{slice_set}
use Rattle.intentions.proofs.draft_table.DraftTable.undo.Goals as goal

pub returns-in-Some : goal.returns-in-Some
returns-in-Some c =
    let places = place_in c.args.self.now.places in
    let drafts = c.args.self.now.drafts.items in
    let object = c.args.object in
    let place = c.in-Some.place in
    let d = c.index_mut.result.now in
    let placed = c.in-Some.ensures.found.placed in
    let there = found_item drafts place (λ (e : Drafted). e.object ≡ object) d c.in-Some.ensures.found.named c.index_mut.ensures.value in
    let now = drafts_in places (slice_set drafts place (drafted d.object c.undo.new.self)) in
    λ snapshot. undo-put snapshot (drafts_in places drafts) now object d.draft c.undo.new.self
    (found-at places drafts object place d placed there.0 there.1) c.undo.ensures
    (put-at places drafts object place d c.undo.new.self placed there.0 there.1)

pub returns-in_default : goal.returns-in_default
returns-in_default c = λ snapshot. undo_none snapshot (drafts_of c.args.self.now) c.args.object (sym c.in_default.ensures.draft)
