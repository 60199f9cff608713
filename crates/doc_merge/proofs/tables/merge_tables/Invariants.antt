-- The tables so far are put together, and the others are left with what was found of them.
use Rattle.std.proofs.Common.{map}
use Rattle.batch.specs.Names.{texts_of}
use Rattle.doc_merge.proofs.Together.{Together}
use Rattle.doc_merge.proofs.tables.merge_tables.Given as goal

abbrev pub invariant-loop-table : goal.invariant-loop-table
invariant-loop-table g l = Together (map (λ table. texts_of table.keys) l.fn.tables.items) (texts_of l.texts.items)
    (map (λ one. one.items) l.numbers.items) (map (λ table. texts_of table.keys) l.table-iterator.rest.items)
    (map (λ one. one.items) l.places.rest.items)
