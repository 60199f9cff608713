use Rattle.std.proofs.Common.{◌<◌, length, arith}
use Rattle.intentions.specs.DraftTables.{drafts_of}
use Rattle.intentions.proofs.LayersLemmas.{undone_more}
use Rattle.intentions.proofs.layers.undo_from.Goals as goal

pub loop-journal-preserved-in-Some : goal.loop-journal-preserved-in-Some
loop-journal-preserved-in-Some c =
    let left : c.args.start < length c.loop-journal.journal.items = omega (
      arith,
      c.len.ensures,
      c.loop-journal.journal.ok,
      c.loop-journal-test.true,
    ) in
    undone_more (drafts_of c.args.drafts.now) (drafts_of c.loop-journal.drafts) (drafts_of c.undo.new.self) c.args.journal.now.items
    c.loop-journal.journal.items c.pop.new.self.items c.args.start
    c.in-Some.object c.loop-journal.invariant left c.in-Some.ensures.items c.undo.ensures
