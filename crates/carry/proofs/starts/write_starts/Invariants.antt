use Rattle.std.proofs.Common.{◌≡◌, ◌++◌, drop, map, string_bytes}
use Rattle.std.specs.Prelude.{codes}
use denote.Shadow.{shadow}
use denote.Text.{Utf8}
use Rattle.meaning.specs.Words.{joined_by}
use Rattle.report.proofs.Joined.{joined_behind}
use Rattle.carry.specs.Joined.{object_text_of, start_view}
use Rattle.carry.proofs.starts.write_starts.Given as goal

abbrev pub invariant-loop-start : goal.invariant-loop-start
invariant-loop-start l =
    shadow (Utf8 l.between)
    × (string_bytes l.out ++ joined_behind (codes ",\n") l.between (map object_text_of (map start_view (drop l.start-index l.starts)))
    ≡ string_bytes l.fn.out ++ joined_by (codes ",\n") (map object_text_of (map start_view l.fn.starts)))
