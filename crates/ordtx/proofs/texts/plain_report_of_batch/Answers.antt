use Rattle.std.proofs.Common.{◌∙◌, List, ℕ, map, ap₂}
use Rattle.std.proofs.lemmas.Result.{IfOk-weaker}
use Rattle.objects.specs.Entries.{State}
use Rattle.meaning.specs.Shown.{Shown}
use Rattle.meaning.specs.Texts.{plain_text}
use Rattle.batch.specs.Names.{names_of}
use Rattle.batch.specs.Views.{block_view}
use Rattle.lang.specs.Reading.{document_of}
use Rattle.ordtx.proofs.texts.plain_report_of_batch.Goals as goal

pub returns : goal.returns
returns c =
    let given = c.args.batch.now in
    let of_parts : List Shown → State → List ℕ = λ shown objects. plain_text (names_of given.names)
    (map (λ block. block_view block) given.transactions.items) shown objects in
    IfOk-weaker c.render_plain.result _ _ (λ written is bytes reads. record {
      document = document_of given;
      reads = reads;
      is = is ∙ ap₂ of_parts c.in_ok-answer.ensures.records c.in_ok-answer.ensures.objects;
    }) c.render_plain.ensures
