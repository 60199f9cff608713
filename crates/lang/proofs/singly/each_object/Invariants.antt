use Rattle.std.proofs.Common.{◌≤◌, length}
use Rattle.batch.specs.Names.{texts_of}
use Rattle.doc_rules.specs.Limits.{limits_of}
use Rattle.doc_tree.specs.Scope.{numbers_of}
use Rattle.lang.proofs.EachObject.{ObjectsLeft}
use Rattle.lang.proofs.singly.each_object.Given as goal

-- the objects that were read
abbrev pub invariant-loop-limits : goal.invariant-loop-limits
invariant-loop-limits l = ObjectsLeft l.version l.initial.reader l.reader l.initial.counts l.counts (numbers_of l.initial.numbering)
    (numbers_of l.numbering) (texts_of l.names.keys) l.objects
    × (length l.objects ≤ (limits_of l.version).objects)

abbrev pub decreases-loop-limits : goal.decreases-loop-limits
decreases-loop-limits l = length l.reader
