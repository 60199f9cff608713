use Rattle.std.proofs.Common.{codes, sym, ◌∙◌}
use Rattle.std.proofs.lemmas.Result.{IfOk-weaker}
use Rattle.std.specs.Fmt.{decimal}
use Rattle.ordtx.proofs.Placing.{four_parts}
use Rattle.ordtx.proofs.location.position_text.Goals as goal

pub returns : goal.returns
returns c =
    let at = c.args.position.now in
    IfOk-weaker c.format.result _ _
    (λ text wrote. wrote ∙ sym (four_parts (codes " line ") (decimal at.line) (codes " column ") (decimal at.column)))
    c.format.ensures.ok
