use Rattle.std.proofs.Common.{◌≡◌, ◌++◌, map, string_bytes}
use Rattle.std.specs.Prelude.{codes}
use Rattle.std.specs.VecDeque.Iter.{deque_iter_rest}
use denote.Shadow.{shadow}
use denote.Text.{Utf8}
use Rattle.meaning.specs.Words.{joined_by}
use Rattle.batch.specs.Names.{names_of}
use Rattle.carry.specs.Carried.{item_text}
use Rattle.report.proofs.Joined.{joined_behind}
use Rattle.carry.proofs.document.write_queue.Given as goal

abbrev pub invariant-loop-item : goal.invariant-loop-item
invariant-loop-item l =
    shadow (Utf8 l.between)
    × (string_bytes l.out ++ joined_behind (codes ", ") l.between (map (item_text (names_of l.names)) (deque_iter_rest l.item-iterator))
    ≡ string_bytes l.fn.out ++ joined_by (codes ", ") (map (item_text (names_of l.fn.names)) l.fn.queue))
