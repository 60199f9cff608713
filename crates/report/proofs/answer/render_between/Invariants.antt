use Rattle.std.proofs.Common.{◌≡◌, ◌≤◌, ◌+◌, ◌++◌, string_bytes}
use Rattle.batch.specs.Names.{names_of}
use Rattle.report.specs.Parts.{lines_from}
use Rattle.report.specs.Paths.{tens}
use Rattle.report.proofs.answer.render_between.Given as goal

abbrev pub invariant-loop-entry : goal.invariant-loop-entry
invariant-loop-entry l =
    (string_bytes l.out
    ++ lines_from (names_of l.batch.names) l.batch.transactions.items l.records l.objects (record { entry = l.entry; line = l.line })
    ≡ lines_from (names_of l.fn.batch.names) l.fn.batch.transactions.items l.fn.records l.fn.objects l.fn.from)
    × (l.entry ≡ l.to.entry → l.line ≤ l.to.line) × (string_bytes l.path ≡ tens (l.entry + 1))
