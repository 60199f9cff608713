use Rattle.std.proofs.Common.{◌≡◌, ◌++◌, string_bytes}
use Rattle.std.specs.Prelude.{codes}
use Rattle.meaning.specs.Texts.{steps_text, children_text}
use Rattle.batch.specs.Names.{names_of}
use Rattle.batch.specs.Views.{block_view, record_view, all_tried_view, children_view}
use Rattle.report.specs.Parts.{steps_from}
use Rattle.report.specs.Paths.{tens}
use Rattle.report.proofs.TextLemmas.{rest_children_text}
use Rattle.report.proofs.lines.+lines.Given as goal

abbrev pub invariant-write_block-loop-index : goal.invariant-write_block-loop-index
invariant-write_block-loop-index l =
    let path = string_bytes l.fn.path ++ l.fn.end in
    (string_bytes l.out ++ steps_from (names_of l.names) path l.index l.block.steps.items l.done.taken.items l.done.outcome
    ≡ string_bytes l.fn.out ++ steps_text (names_of l.fn.names) path 1 (block_view l.fn.block) (record_view l.fn.done))
    × (string_bytes l.path ≡ (path ++ codes ".") ++ tens l.index)

abbrev pub invariant-write_children-loop-index : goal.invariant-write_children-loop-index
invariant-write_children-loop-index l =
    (string_bytes l.out ++ rest_children_text (names_of l.names) (string_bytes l.fn.path) l.index l.children l.all_tried
    ≡ string_bytes l.fn.out
    ++ children_text (names_of l.fn.names) (string_bytes l.fn.path) 1 (children_view l.fn.children) (all_tried_view l.fn.all_tried))
    × (string_bytes l.path ≡ string_bytes l.fn.path)
