use Rattle.std.proofs.Common.{sym, ap, ◌∙◌}
use Rattle.std.specs.Prelude.{option_and_then}
use Rattle.doc_mistakes.specs.Parts.{first_unnamed}
use Rattle.doc_mistakes.proofs.Keys.{first_unnamed-keys}
use Rattle.doc_mistakes.proofs.parts.unnamed_reason.Goals as goal

pub loop-key-init : goal.loop-key-init
loop-key-init c =
    rw (c.into_iter-key-iterator.ensures.into_iter_gives, c.keys-key-items.ensures.rest)
    (ap (λ o. option_and_then (first_unnamed c.args.version) o) (sym c.in_ok-members.ensures)
    ∙ first_unnamed-keys c.args.version c.in_ok-members.members.now.entries)
