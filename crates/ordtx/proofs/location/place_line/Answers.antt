use Rattle.std.proofs.lemmas.Result.{IfOk-weaker}
use Rattle.ordtx.proofs.Placing.{placed_text}
use Rattle.ordtx.proofs.location.place_line.Goals as goal

pub returns : goal.returns
returns c =
    IfOk-weaker c.format.result _ _
    (λ text wrote. placed_text _ _ _ c.args.fault c.args.place.now wrote c.number-number.ensures c.in_ok-place.ensures)
    c.format.ensures.ok
