use Rattle.std.proofs.Common.{◌≡◌, ◌++◌, map}
use Rattle.std.specs.List.{flat_map}
use Rattle.workers.proofs.work.part.Given as goal

abbrev pub invariant-loop-worked : goal.invariant-loop-worked
invariant-loop-worked g l = (l.seats.items ≡ l.fn.seats.items ++ map (λ w. w.seat) l.yielded)
    × (l.items.items ≡ flat_map (λ w. w.items.items) l.yielded)
