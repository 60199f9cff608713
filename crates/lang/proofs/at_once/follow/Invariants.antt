-- The ranges so far follow one another: where those that are left do, all do.
use Rattle.std.proofs.Common.{◌≡◌, [], drop}
use Rattle.std.specs.Prelude.{false, true}
use Rattle.lang.specs.AtOnce.{Follow}
use Rattle.lang.proofs.at_once.follow.Given as goal

abbrev pub invariant-loop-read : goal.invariant-loop-read
invariant-loop-read l =
    (l.ended ≡ false → Follow l.text l.next (drop l.read-index l.reads) → Follow l.text l.begin l.reads)
    × (l.ended ≡ true → drop l.read-index l.reads ≡ [] → Follow l.text l.begin l.reads)
