use Rattle.std.proofs.Common.{◌≤◌, length}
use Rattle.batch.specs.Names.{texts_of}
use Rattle.doc_rules.specs.Limits.{limits_of}
use Rattle.doc_tree.specs.Scope.{numbers_of}
use Rattle.doc_tokens.proofs.ObjectLemmas.{ObjectsRead}
use Rattle.doc_tokens.proofs.pull_objects.pull_objects.Given as goal

-- the objects that were read
abbrev pub invariant-loop-objects : goal.invariant-loop-objects
invariant-loop-objects l = ObjectsRead l.version l.initial.reader l.reader l.initial.counts l.counts (numbers_of l.initial.numbering)
    (numbers_of l.numbering) (texts_of l.names.keys) l.objects
    × (length l.objects ≤ (limits_of l.version).objects)

abbrev pub decreases-loop-objects : goal.decreases-loop-objects
decreases-loop-objects l = length l.reader
