use Rattle.std.proofs.Common.{◌≡◌, take}
use Rattle.batch.specs.Names.{texts_of}
use Rattle.carry.proofs.starts.name_table.Given as goal

abbrev pub invariant-loop-place : goal.invariant-loop-place
invariant-loop-place l = texts_of l.table.keys ≡ take l.place l.fn.names.objects
