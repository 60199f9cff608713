-- There is room for what is found of each table so far.
use Rattle.std.proofs.Common.{◌≡◌, length}
use Rattle.doc_merge.proofs.tables.find_all.Given as goal

abbrev pub invariant-loop-table : goal.invariant-loop-table
invariant-loop-table g l = length l.found.items ≡ l.table-index
