-- The places so far, and then those of the texts that are left, are all.
use Rattle.std.proofs.Common.{List, Option, ◌++◌, drop, map}
use Rattle.batch.specs.Names.{texts_of}
use Rattle.doc_merge.specs.Tables.{AreTextPlaces}
use Rattle.doc_merge.specs.declared.tables.TextPlace.{TextPlace}
use Rattle.doc_merge.proofs.tables.find_texts.Given as goal

abbrev pub invariant-loop-text : goal.invariant-loop-text
invariant-loop-text l = (more : List (Option TextPlace))
    → AreTextPlaces (map (λ table. texts_of table.keys) l.tables) (texts_of (drop l.text-index l.texts.keys)) more
    → AreTextPlaces (map (λ table. texts_of table.keys) l.tables) (texts_of l.texts.keys) (l.places.items ++ more)
