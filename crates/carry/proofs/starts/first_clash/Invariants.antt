use Rattle.std.proofs.Common.{◌≡◌, drop, map}
use Rattle.carry.specs.Joined.{first_clash, start_view}
use Rattle.carry.proofs.starts.first_clash.Given as goal

abbrev pub invariant-loop-place : goal.invariant-loop-place
invariant-loop-place l =
    first_clash l.place (drop l.place l.objects) (drop l.place (map start_view l.starts))
    ≡ first_clash 0 l.fn.objects (map start_view l.fn.starts)
