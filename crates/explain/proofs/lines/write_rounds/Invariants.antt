use Rattle.std.proofs.Common.{◌-◌, length, string_bytes}
use Rattle.batch.specs.Parts.{blocks_of}
use Rattle.explain.specs.Rounds.{HasReached}
use Rattle.explain.proofs.lines.write_rounds.Given as goal

abbrev pub invariant-opening : goal.invariant-opening
invariant-opening g l = HasReached l.batch l.opened l.number l.objects (string_bytes l.out)

abbrev pub decreases-opening : goal.decreases-opening
decreases-opening g l = length (blocks_of l.batch) - l.opened
