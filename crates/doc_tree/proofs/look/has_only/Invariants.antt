use Rattle.std.proofs.Common.{◌≡◌, map, string_bytes}
use Rattle.std.specs.List.{list_all}
use Rattle.serde_json.specs.View.{view}
use Rattle.doc_tree.specs.Look.{has_only, is_among}
use Rattle.doc_tree.proofs.look.has_only.Given as goal

abbrev pub invariant-loop-key : goal.invariant-loop-key
invariant-loop-key l = has_only (map (λ name. name.now) l.names) (view l.value) ≡ list_all
    (λ k. is_among (string_bytes k) (map (λ name. name.now) l.names)) l.key-iterator
