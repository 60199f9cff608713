use Rattle.std.proofs.Common.{◌∙◌}
use Rattle.std.proofs.lemmas.Result.{IfOk-weaker}
use Rattle.batch.specs.Names.{names_of}
use Rattle.report.specs.Parts.{last_cut, lines_from}
use Rattle.report.proofs.AnswerLemmas.{lines_from-start, lines_from-last}
use Rattle.report.proofs.PartLemmas.{all_parts}
use Rattle.report.proofs.parts.render_entry_parts.Goals as goal

pub returns : goal.returns
returns g c =
    let names = names_of c.args.batch.now.names in
    let blocks = c.args.batch.now.transactions.items in
    let records = c.args.records.now in
    let objects = c.args.objects.now in
    IfOk-weaker c.gathered.result _ _ (λ parts is. all_parts (lines_from names blocks records objects) (last_cut blocks records objects)
    c.in_ok-cuts.cuts.items c.in_ok-made.made.items parts.items
    (rw c.last_cut-last.ensures at c.in_ok-cuts.ensures)
    (lines_from-last names blocks records objects) (rw c.deref.ensures.value at c.in_ok-made.ensures.count) is
    (rw c.deref.ensures.value at c.in_ok-made.ensures.each)
    ∙ lines_from-start names blocks records objects) c.gathered.ensures
