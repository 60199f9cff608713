use Rattle.std.proofs.Common.{◌≡◌, ◌++◌, map, string_bytes}
use Rattle.std.specs.Prelude.{codes}
use Rattle.std.specs.FinMap as finite_map
use denote.Shadow.{shadow}
use denote.Text.{Utf8}
use Rattle.meaning.specs.Words.{joined_by}
use Rattle.batch.specs.Names.{names_of}
use Rattle.carry.specs.Carried.{pair_text}
use Rattle.report.proofs.Joined.{joined_behind}
use Rattle.carry.proofs.document.write_pairs.Given as goal

abbrev pub invariant-loop-key : goal.invariant-loop-key
invariant-loop-key l =
    shadow (Utf8 l.between)
    × (string_bytes l.out ++ joined_behind (codes ", ") l.between (map (pair_text (names_of l.names)) l.key-iterator)
    ≡ string_bytes l.fn.out ++ joined_by (codes ", ") (map (pair_text (names_of l.fn.names)) (finite_map.entries l.fn.directory)))
