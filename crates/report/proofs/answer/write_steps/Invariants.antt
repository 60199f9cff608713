use Rattle.std.proofs.Common.{◌≡◌, ◌++◌, string_bytes}
use Rattle.std.specs.Prelude.{codes}
use Rattle.batch.specs.Names.{names_of}
use Rattle.report.specs.Parts.{steps_from}
use Rattle.report.specs.Paths.{tens}
use Rattle.report.proofs.answer.write_steps.Given as goal

abbrev pub invariant-loop-index : goal.invariant-loop-index
invariant-loop-index l =
    (string_bytes l.out
    ++ steps_from (names_of l.names) (string_bytes l.fn.path) l.index l.block.steps.items l.done.taken.items l.done.outcome
    ≡ string_bytes l.fn.out ++ steps_from (names_of l.fn.names) (string_bytes l.fn.path) l.fn.steps.start l.fn.block.steps.items
    l.fn.done.taken.items l.fn.done.outcome)
    × (string_bytes l.path ≡ (string_bytes l.fn.path ++ codes ".") ++ tens l.index)
