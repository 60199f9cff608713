use Rattle.std.proofs.Common.{sym, ap, ◌∙◌, ◌++◌, append-nil}
use Rattle.std.proofs.lemmas.Result.{IfOk-weaker}
use Rattle.std.specs.Prelude.{string_bytes}
use Rattle.batch.specs.Names.{names_of}
use Rattle.report.specs.Parts.{lines_from}
use Rattle.report.proofs.AnswerLemmas.{lines_from-start, lines_from-last}
use Rattle.report.proofs.answer.render_entries.Goals as goal

pub returns : goal.returns
returns c =
    let names = names_of c.args.batch.now.names in
    let blocks = c.args.batch.now.transactions.items in
    let records = c.args.records.now in
    let objects = c.args.objects.now in
    let none = ap (lines_from names blocks records objects) c.last_cut-last.ensures ∙ lines_from-last names blocks records objects in
    IfOk-weaker c.render_between.result _ _ (λ text is. sym (append-nil (string_bytes text))
    ∙ ap (λ rest. string_bytes text ++ rest) (sym none) ∙ is ∙ lines_from-start names blocks records objects) c.render_between.ensures
