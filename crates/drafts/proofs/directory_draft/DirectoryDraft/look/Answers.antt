use Rattle.std.proofs.Common.{sym, ap, ◌∙◌}
use Rattle.std.specs.Prelude.{is_some}
use Rattle.atoms.specs.Directory.{directory_after}
use Rattle.atoms.proofs.ItemMaps.{remove_missing}
use Rattle.drafts.proofs.directory_draft.DirectoryDraft.look.Goals as goal

pub returns-in-None-get-clause-same : goal.returns-in-None-get-clause-same
returns-in-None-get-clause-same c =
    λ _. ap (directory_after c.args.self.now.value) c.in-Unbind.is
    ∙ remove_missing c.args.self.now.value c.in-Unbind.key (ap is_some (sym c.get-in-Unbind.ensures ∙ c.in-None-get.is))
