use Rattle.std.proofs.Common.{◌≡◌, map, drop}
use Rattle.doc_mistakes.specs.Parts.{is_among}
use Rattle.doc_mistakes.proofs.parts.is_among.Given as goal

abbrev pub invariant-loop-name : goal.invariant-loop-name
invariant-loop-name l = is_among l.text (map (λ name. name.now) l.names) ≡ is_among l.text
    (map (λ name. name.now) (drop l.name-index l.names))
