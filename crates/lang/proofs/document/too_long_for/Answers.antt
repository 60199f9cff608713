use Rattle.std.proofs.Common.{◌∙◌, ap, arith}
use Rattle.doc_rules.proofs.LimitLemmas.{first_bytes}
use Rattle.doc_rules.specs.Limits.{limits_of}
use Rattle.lang.specs.Reading.{value_of, version_by}
use Rattle.lang.proofs.document.too_long_for.Goals as goal

pub returns-then-bytes-of : goal.returns-then-bytes-of
returns-then-bytes-of c =
    let few = ap (λ l. l.bytes) c.of.ensures in
    omega (arith, c.if-bytes-of.true, few, first_bytes (version_by (value_of c.args.bytes.now)))

pub returns-then-bytes-of-2 : goal.returns-then-bytes-of-2
returns-then-bytes-of-2 c =
    let most = ap (λ l. l.bytes) c.of-2.ensures in
    (c.in_ok-version.ensures, omega (arith, c.if-bytes-of-2.true, most))

pub returns-else-bytes-of-2 : goal.returns-else-bytes-of-2
returns-else-bytes-of-2 c =
    let most = ap (λ l. l.bytes) (c.of-2.ensures ∙ ap limits_of c.in_ok-version.ensures) in
    omega (arith, c.if-bytes-of-2.false, most)
