-- The tables and the transactions so far, and then those that are left, are all.
use Rattle.std.proofs.Common.{◌≡◌, ◌∷◌, ◌++◌, map}
use Rattle.batch.specs.Names.{texts_of}
use Rattle.doc_merge.specs.Parts.{items_of, reasons_of}
use Rattle.doc_merge.proofs.ranges.split_reads.Given as goal

abbrev pub invariant-loop-read : goal.invariant-loop-read
invariant-loop-read l =
    (map (λ table. texts_of table.keys) l.items.items ++ map items_of l.read-iterator.rest.items
    ≡ texts_of l.fn.head.items.keys ∷ map items_of l.fn.reads.items)
    × (map (λ table. texts_of table.keys) l.reasons.items ++ map reasons_of l.read-iterator.rest.items
    ≡ texts_of l.fn.head.reasons.keys ∷ map reasons_of l.fn.reads.items)
    × (map (λ one. one.items) l.transactions.items ++ map (λ read. read.transactions.items) l.read-iterator.rest.items
    ≡ map (λ read. read.transactions.items) l.fn.reads.items)
