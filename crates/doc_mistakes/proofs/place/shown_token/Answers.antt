use Rattle.std.proofs.Common.{ap, ◌∙◌}
use Rattle.std.proofs.lemmas.Result.{IfOk-weaker}
use Rattle.json.specs.Print.{escape}
use Rattle.doc_mistakes.proofs.place.shown_token.Goals as goal

pub returns : goal.returns
returns c = IfOk-weaker c.escaped.result _ _ (λ made is. is ∙ ap escape (c.as_str.ensures.value ∙ c.in_ok-token.ensures)) c.escaped.ensures
