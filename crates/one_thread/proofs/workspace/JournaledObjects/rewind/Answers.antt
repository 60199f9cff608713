use Rattle.std.proofs.Common.{rules}
use Rattle.one_thread.proofs.workspace.JournaledObjects.rewind.Goals as goal

pub returns : goal.returns
returns c = search rules
