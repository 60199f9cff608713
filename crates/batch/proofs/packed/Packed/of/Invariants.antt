use Rattle.std.proofs.Common.{string_bytes, take}
use Rattle.batch.specs.Names.{texts_of}
use Rattle.batch.proofs.PackedLemmas.{Holds}
use Rattle.batch.proofs.packed.Packed.of.Given as goal

abbrev pub invariant-loop-part : goal.invariant-loop-part
invariant-loop-part l = Holds (string_bytes l.text) 0 l.ends.items (texts_of (take l.part-index l.texts))
