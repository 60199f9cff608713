use Rattle.std.proofs.Common.{◌≡◌, ◌++◌, drop, string_bytes}
use Rattle.std.specs.Prelude.{codes}
use denote.Shadow.{shadow}
use denote.Text.{Utf8}
use Rattle.meaning.specs.Words.{joined_by}
use Rattle.batch.specs.Names.{names_of}
use Rattle.carry.specs.Carried.{object_texts}
use Rattle.report.proofs.Joined.{joined_behind}
use Rattle.carry.proofs.document.write_objects.Given as goal

abbrev pub invariant-loop-object : goal.invariant-loop-object
invariant-loop-object l =
    shadow (Utf8 l.between)
    × (string_bytes l.out ++ joined_behind (codes ",\n") l.between (object_texts (names_of l.names) l.object (drop l.object l.objects))
    ≡ string_bytes l.fn.out ++ joined_by (codes ",\n") (object_texts (names_of l.fn.names) 0 l.fn.objects))
