use Rattle.std.proofs.Common.{◌≡◌, ◌++◌, string_bytes}
use Rattle.batch.specs.Names.{names_of}
use Rattle.report.specs.Parts.{objects_from}
use Rattle.report.proofs.answer.write_objects.Given as goal

abbrev pub invariant-loop-object : goal.invariant-loop-object
invariant-loop-object l =
    string_bytes l.out ++ objects_from (names_of l.names) l.objects l.object
    ≡ string_bytes l.fn.out ++ objects_from (names_of l.fn.names) l.fn.objects l.fn.from
