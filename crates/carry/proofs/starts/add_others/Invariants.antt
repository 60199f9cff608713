use Rattle.std.proofs.Common.{◌≡◌, ◌++◌, drop, map}
use Rattle.batch.specs.Names.{texts_of}
use Rattle.carry.specs.Joined.{added, named_view, start_view}
use Rattle.carry.proofs.starts.add_others.Given as goal

abbrev pub invariant-loop-place : goal.invariant-loop-place
invariant-loop-place l =
    map start_view l.starts.items
    ++ added (named_view l.first) (texts_of l.next_names.keys) l.place (drop l.place l.first.objects.now)
    ≡ map start_view l.fn.starts.items ++ added (named_view l.fn.first) (texts_of l.fn.next_names.keys) 0 l.fn.first.objects.now
