use Rattle.std.proofs.Common.{arith, ap, ◌∙◌}
use Rattle.std.proofs.lemmas.Result.{IfOk-weaker}
use Rattle.std.specs.Prelude.{codes}
use Rattle.doc_rules.specs.Pointers.{replaced}
use Rattle.doc_rules.proofs.Replaced.{replaced_matches}
use Rattle.doc_rules.proofs.pointer.pointer_token.Goals as goal

pub returns : goal.returns
returns c =
    let tildes = c.in_ok-tildes.ensures.ok in
    let first = replaced_matches tildes.0 126 (codes "~0") c.args.name.now _ (omega arith) tildes.1 in
    IfOk-weaker c.replace-2.result _ _ (λ made slashes.
    replaced_matches slashes.0 47 (codes "~1") c.as_str.result.now _ (omega arith) slashes.1
    ∙ ap (λ text. replaced 47 (codes "~1") text) (c.as_str.ensures.value ∙ first))
    c.replace-2.ensures.ok
