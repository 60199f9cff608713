use Rattle.std.proofs.Common.{◌≡◌, ◌++◌, map, string_bytes}
use Rattle.std.specs.Prelude.{codes}
use denote.Shadow.{shadow}
use denote.Text.{Utf8}
use Rattle.meaning.specs.Words.{spaced, members}
use Rattle.batch.specs.Names.{names_of}
use Rattle.report.proofs.Joined.{joined_behind}
use Rattle.report.proofs.values.write_members.Given as goal

abbrev pub invariant-loop-member : goal.invariant-loop-member
invariant-loop-member l =
    shadow (Utf8 l.space)
    × (string_bytes l.out ++ joined_behind (codes " ") l.space (map (names_of l.names).item l.member-iterator)
    ≡ string_bytes l.fn.out ++ spaced (map (names_of l.fn.names).item (members l.fn.set)))
