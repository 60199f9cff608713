use Rattle.std.proofs.Common.{◌≡◌, ◌++◌, map, string_bytes}
use Rattle.std.specs.Prelude.{codes}
use denote.Shadow.{shadow}
use denote.Text.{Utf8}
use Rattle.std.specs.FinMap as finite_map
use Rattle.meaning.specs.Words.{spaced, binding_text}
use Rattle.batch.specs.Names.{names_of}
use Rattle.report.proofs.Joined.{joined_behind}
use Rattle.report.proofs.values.write_bindings.Given as goal

abbrev pub invariant-loop-key : goal.invariant-loop-key
invariant-loop-key l =
    shadow (Utf8 l.space)
    × (string_bytes l.out ++ joined_behind (codes " ") l.space (map (binding_text (names_of l.names)) l.key-iterator)
    ≡ string_bytes l.fn.out ++ spaced (map (binding_text (names_of l.fn.names)) (finite_map.entries l.fn.directory)))
