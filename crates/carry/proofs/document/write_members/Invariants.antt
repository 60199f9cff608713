use Rattle.std.proofs.Common.{◌≡◌, ◌++◌, map, string_bytes}
use Rattle.std.specs.Prelude.{codes}
use denote.Shadow.{shadow}
use denote.Text.{Utf8}
use Rattle.meaning.specs.Words.{joined_by, members}
use Rattle.batch.specs.Names.{names_of}
use Rattle.carry.specs.Carried.{item_text}
use Rattle.report.proofs.Joined.{joined_behind}
use Rattle.carry.proofs.document.write_members.Given as goal

abbrev pub invariant-loop-member : goal.invariant-loop-member
invariant-loop-member l =
    shadow (Utf8 l.between)
    × (string_bytes l.out ++ joined_behind (codes ", ") l.between (map (item_text (names_of l.names)) l.member-iterator)
    ≡ string_bytes l.fn.out ++ joined_by (codes ", ") (map (item_text (names_of l.fn.names)) (members l.fn.set)))
