use Rattle.std.proofs.Common.{arith, None, ◌∙◌}
use Rattle.std.proofs.lemmas.Str.Pattern.{strip_prefix_char}
use Rattle.doc_mistakes.proofs.place.escaped.Goals as goal

pub unreachable-requires : goal.unreachable-requires
unreachable-requires c =
    absurd (strip_prefix_char 34 c.as_str.result.now None c.in_default.ensures.cases (omega arith) _
    (c.as_str.ensures.value ∙ c.in_ok-quoted.ensures))
