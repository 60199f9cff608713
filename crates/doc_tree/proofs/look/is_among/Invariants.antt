use Rattle.std.proofs.Common.{◌≡◌, map, drop}
use Rattle.doc_tree.specs.Look.{is_among}
use Rattle.doc_tree.proofs.look.is_among.Given as goal

abbrev pub invariant-loop-name : goal.invariant-loop-name
invariant-loop-name l = is_among l.text (map (λ name. name.now) l.names) ≡ is_among l.text
    (map (λ name. name.now) (drop l.name-index l.names))
