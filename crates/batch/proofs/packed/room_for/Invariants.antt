use Rattle.std.proofs.Common.{◌≡◌, ◌^◌, ◌-◌, length, min, string_bytes, take}
use Rattle.std.specs.List.{sum_by}
use Rattle.batch.proofs.packed.room_for.Given as goal

abbrev pub invariant-loop-text : goal.invariant-loop-text
invariant-loop-text l = l.room ≡ min (sum_by (λ text. length (string_bytes text)) (take l.text-index l.texts)) (2 ^ 64 - 1)
