-- The texts so far are among all, with their numbers, and the others are left with their places.
use Rattle.std.proofs.Common.{map}
use Rattle.batch.specs.Names.{texts_of}
use Rattle.doc_merge.specs.Tables.{IsNext}
use Rattle.doc_merge.proofs.Merging.{Merging}
use Rattle.doc_merge.proofs.tables.put_texts.Given as goal

abbrev pub invariant-loop-text : goal.invariant-loop-text
invariant-loop-text l =
    Merging (texts_of l.fn.all.items) (texts_of l.fn.texts.keys) (texts_of l.all.items) l.own.items
    (texts_of l.text-iterator.rest.items)
    × IsNext (texts_of l.fn.all.items) (map (λ one. one.items) l.numbers) (texts_of l.text-iterator.rest.items) l.places.rest.items
