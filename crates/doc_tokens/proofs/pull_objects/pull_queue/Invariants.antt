use Rattle.std.proofs.Common.{length}
use Rattle.doc_tree.specs.Scope.{numbers_of}
use Rattle.doc_tokens.proofs.EntryLemmas.{QueueRead}
use Rattle.doc_tokens.proofs.pull_objects.pull_queue.Given as goal

-- the entries that were read
abbrev pub invariant-loop-alloc : goal.invariant-loop-alloc
invariant-loop-alloc l = QueueRead l.version l.initial.reader l.reader l.initial.counts l.counts (numbers_of l.initial.numbering)
    (numbers_of l.numbering) l.queue

abbrev pub decreases-loop-alloc : goal.decreases-loop-alloc
decreases-loop-alloc l = length l.reader
