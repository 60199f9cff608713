use Rattle.std.proofs.Common.{subst, sym, ◌∙◌}
use Rattle.doc_tokens.proofs.PulledLemmas.{IfErr_then, IfOk_then}
use Rattle.lang.specs.Found.{IsKnown}
use Rattle.lang.proofs.RefusedLemmas.{no_value}
use Rattle.lang.proofs.SinglyLemmas.{nothing_read}
use Rattle.lang.proofs.document.read_singly.Goals as goal

pub returns-in_default-clause-err : goal.returns-in_default-clause-err
returns-in_default-clause-err c =
    let known = c.requires.known in absurd (nothing_read known.0 (sym (no_value c.args.bytes.now c.in_default.ensures) ∙ known.1))

pub returns-clause-ok : goal.returns-clause-ok
returns-clause-ok c =
    let known = c.requires.known in
    let here = subst (λ t. IsKnown t c.args.notes.now known.0) (sym c.in-Some.ensures.1) known.2 in
    IfOk_then c.each_part.result c.each_part.ensures.ok (λ answer told. (known.0, known.1, told known.0 here))

pub returns-clause-err : goal.returns-clause-err
returns-clause-err c =
    let known = c.requires.known in
    let here = subst (λ t. IsKnown t c.args.notes.now known.0) (sym c.in-Some.ensures.1) known.2 in
    IfErr_then c.each_part.result c.each_part.ensures.err (λ stop memory. memory known.0 here)
