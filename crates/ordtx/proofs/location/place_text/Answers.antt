use Rattle.std.proofs.Common.{ap, sym, ◌∙◌}
use Rattle.std.proofs.lemmas.Result.{IfOk-weaker}
use Rattle.ordtx.specs.Answers.{place_text}
use Rattle.ordtx.proofs.location.place_text.Goals as goal

pub returns-in-LineColumn : goal.returns-in-LineColumn
returns-in-LineColumn c =
    IfOk-weaker c.position_text-in-LineColumn.result _ _
    (λ text wrote. wrote ∙ ap place_text (sym c.in-LineColumn.is))
    c.position_text-in-LineColumn.ensures
