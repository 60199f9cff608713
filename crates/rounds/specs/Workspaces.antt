-- When a workspace is ready for the next run. No public contract names it.
use Rattle.std.specs.Prelude.{◌≡◌, []}
use Rattle.objects.specs.Entries.{State}
use Rattle.intentions.specs.Levels.{opened}
use Rattle.rounds.specs.declared.workspace.Workspace.{Workspace}

-- its view is as it was opened on this state, and there are no labels
pub record IsReadyOn (state : State) (workspace : Workspace) : Type 0 where
  pub opened : workspace.view ≡ opened state
  pub unlabelled : workspace.labels.items ≡ []
