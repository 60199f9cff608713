use Rattle.std.proofs.Common.{◌≡◌, ◌++◌, map, string_bytes}
use Rattle.std.specs.VecDeque.Iter.{deque_iter_rest}
use Rattle.std.specs.Prelude.{codes}
use denote.Shadow.{shadow}
use denote.Text.{Utf8}
use Rattle.meaning.specs.Words.{spaced}
use Rattle.batch.specs.Names.{names_of}
use Rattle.report.proofs.Joined.{joined_behind}
use Rattle.report.proofs.values.write_queue.Given as goal

abbrev pub invariant-loop-item : goal.invariant-loop-item
invariant-loop-item l =
    shadow (Utf8 l.space)
    × (string_bytes l.out ++ joined_behind (codes " ") l.space (map (names_of l.names).item (deque_iter_rest l.item-iterator))
    ≡ string_bytes l.fn.out ++ spaced (map (names_of l.fn.names).item l.fn.queue))
