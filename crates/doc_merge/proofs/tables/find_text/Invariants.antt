-- No table so far has the text.
use Rattle.std.proofs.Common.{map, take}
use Rattle.batch.specs.Names.{texts_of}
use Rattle.doc_merge.specs.Tables.{AreWithout}
use Rattle.doc_merge.proofs.tables.find_text.Given as goal

abbrev pub invariant-loop-table : goal.invariant-loop-table
invariant-loop-table l = AreWithout (take l.table (map (λ table. texts_of table.keys) l.tables)) l.text
