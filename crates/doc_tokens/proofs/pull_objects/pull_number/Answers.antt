use Rattle.std.proofs.Common.{◌≡◌, ◌∙◌, arith, rules}
use Rattle.serde_json.specs.View.{view}
use Rattle.doc_tree.specs.Asked.{number_start}
use Rattle.doc_tokens.proofs.PulledLemmas.{IfOk_some, IfOk_then}
use Rattle.doc_tokens.proofs.pull_objects.pull_number.Goals as goal

pub returns : goal.returns
returns c =
    let d = view c.in_ok-value.value in
    let told : number_start d ≡ c.number_start.result = grind (arith, rules) in
    IfOk_then c.ok_or.result (IfOk_some c.number_start.result c.ok_or.result c.ok_or.ensures.ok_part)
    (λ n some. (d, c.in_ok-value.ensures, told ∙ some))
