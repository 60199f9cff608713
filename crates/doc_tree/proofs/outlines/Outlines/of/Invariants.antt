-- The outlines so far are right.
use Rattle.objects.specs.Entries.{kinds}
use Rattle.batch.specs.Names.{texts_of}
use Rattle.doc_tree.specs.Digests.{AreRight}
use Rattle.doc_tree.proofs.outlines.Outlines.of.Given as goal

abbrev pub invariant-loop-place : goal.invariant-loop-place
invariant-loop-place l = AreRight (texts_of l.fn.names.keys) (kinds l.fn.objects) l.outlines.slots.items
