use Rattle.std.proofs.Common.{take, string_bytes, sym, ap, ◌∙◌, ◌++◌}
use Rattle.std.proofs.Math.Seq.{take-append_seam}
use Rattle.std.proofs.lemmas.List.{take-map}
use Rattle.doc_tree.specs.Scope.{scope_of}
use Rattle.doc_tree.proofs.labels.leave_block.Goals as goal

pub returns : goal.returns
returns c before longer count =
    let entries = c.args.labels.now.entries in
    ap scope_of c.truncate.ensures.entries ∙ sym (take-map (λ label. (string_bytes label.0, label.1)) c.args.seen entries)
    ∙ ap (take c.args.seen) longer.1 ∙ ap (λ n. take n (before ++ longer.0)) (sym count) ∙ take-append_seam before longer.0
