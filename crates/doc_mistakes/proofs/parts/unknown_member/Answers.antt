use Rattle.std.proofs.Common.{sym, ap, ◌∙◌}
use Rattle.std.specs.Prelude.{option_and_then}
use Rattle.doc_rules.specs.Forms.{member_names}
use Rattle.doc_mistakes.specs.Parts.{first_other}
use Rattle.doc_mistakes.proofs.Keys.{first_other-keys}
use Rattle.doc_mistakes.proofs.parts.unknown_member.Goals as goal

pub loop-key-init : goal.loop-key-init
loop-key-init c =
    rw (c.into_iter-key-iterator.ensures.into_iter_gives, c.keys-key-items.ensures.rest)
    (ap (λ o. option_and_then (first_other (member_names c.args.form)) o) (sym c.in_ok-members.ensures)
    ∙ first_other-keys (member_names c.args.form) c.in_ok-members.members.now.entries)
