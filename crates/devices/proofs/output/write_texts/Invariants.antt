-- What was taken so far is the texts before this one.
use Rattle.std.proofs.Common.{◌≡◌, false, take}
use Rattle.std.specs.Prelude.{string_bytes}
use Rattle.std.specs.List.{flat_map}
use Rattle.std.specs.Io.KnownBytes.{Appends}
use Rattle.devices.proofs.output.write_texts.Given as goal

abbrev pub invariant-loop-text : goal.invariant-loop-text
invariant-loop-text g l = (g.W.Sink.has_failed l.sink ≡ false)
    × Appends (g.W.Sink.taken l.initial.sink) (g.W.Sink.taken l.sink) (flat_map string_bytes (take l.text-index l.texts))
