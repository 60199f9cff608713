use Rattle.std.proofs.Common.{Ok, ap, refl, ◌∙◌, arith}
use Rattle.doc_rules.specs.Limits.{limits_of}
use Rattle.lang.proofs.GivenLemmas.{gives_batch, gives_short, gives_too_many, given_version}
use Rattle.lang.proofs.document.judged.Goals as goal

pub returns-then-bytes-of : goal.returns-then-bytes-of
returns-then-bytes-of c =
    let bytes = c.args.bytes.now in
    let given = gives_batch _ c.args.batch c.requires in
    let most = ap (λ l. l.bytes) (c.of.ensures ∙ ap limits_of (given_version bytes (Ok c.args.batch) c.args.batch refl given)) in
    gives_too_many bytes _ (omega (arith, c.if-bytes-of.true, most)) c.outside.ensures

pub returns : goal.returns
returns c =
    let bytes = c.args.bytes.now in
    let given = gives_batch _ c.args.batch c.requires in
    let most = ap (λ l. l.bytes) (c.of.ensures ∙ ap limits_of (given_version bytes (Ok c.args.batch) c.args.batch refl given)) in
    gives_short bytes (Ok c.args.batch) (omega (arith, c.if-bytes-of.false, most)) given
