use Rattle.std.proofs.Common.{sym, ap, ◌∙◌}
use Rattle.atoms.specs.ItemSet.{set_after}
use Rattle.atoms.proofs.ItemSets.{insert_present, remove_absent}
use Rattle.drafts.proofs.set_draft.SetDraft.look.Goals as goal

pub returns-then-contains-clause-same : goal.returns-then-contains-clause-same
returns-then-contains-clause-same c =
    λ _. ap (set_after c.args.self.now.value) c.in-Insert.is ∙ insert_present c.args.self.now.value c.in-Insert.item
    (sym c.contains.ensures ∙ c.if-contains.true)

pub returns-else-contains-2-clause-same : goal.returns-else-contains-2-clause-same
returns-else-contains-2-clause-same c =
    λ _. ap (set_after c.args.self.now.value) c.in-Remove.is ∙ remove_absent c.args.self.now.value c.in-Remove.item
    (sym c.contains-in-Remove.ensures ∙ c.if-contains-2.false)
