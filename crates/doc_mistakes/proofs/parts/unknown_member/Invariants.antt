use Rattle.std.proofs.Common.{◌≡◌}
use Rattle.doc_rules.specs.Forms.{member_names}
use Rattle.serde_json.specs.View.{view}
use Rattle.doc_mistakes.specs.Parts.{unknown_member}
use Rattle.doc_mistakes.proofs.Keys.{other_key}
use Rattle.doc_mistakes.proofs.parts.unknown_member.Given as goal

abbrev pub invariant-loop-key : goal.invariant-loop-key
invariant-loop-key l = unknown_member l.form (view l.part) ≡ other_key (member_names l.form) l.key-iterator
