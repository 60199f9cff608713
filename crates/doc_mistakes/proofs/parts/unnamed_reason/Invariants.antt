use Rattle.std.proofs.Common.{◌≡◌}
use Rattle.serde_json.specs.View.{view}
use Rattle.doc_mistakes.specs.Parts.{unnamed_reason}
use Rattle.doc_mistakes.proofs.Keys.{unnamed_key}
use Rattle.doc_mistakes.proofs.parts.unnamed_reason.Given as goal

abbrev pub invariant-loop-key : goal.invariant-loop-key
invariant-loop-key l = unnamed_reason l.version (view l.part) ≡ unnamed_key l.version l.key-iterator
