use Rattle.std.proofs.Common.{◌≡◌, ◌++◌, drop, map}
use Rattle.carry.specs.Joined.{named_view, own, start_view}
use Rattle.carry.proofs.starts.add_own.Given as goal

abbrev pub invariant-loop-place : goal.invariant-loop-place
invariant-loop-place l =
    map start_view l.starts.items ++ own (named_view l.first) (named_view l.next) l.place (drop l.place l.next.objects.now)
    ≡ map start_view l.fn.starts.items ++ own (named_view l.fn.first) (named_view l.fn.next) 0 l.fn.next.objects.now
