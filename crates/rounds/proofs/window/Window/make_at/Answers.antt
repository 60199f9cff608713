use Rattle.std.proofs.Common.{refl}
use Rattle.rounds.proofs.WindowLemmas.{one_made}
use Rattle.rounds.proofs.window.Window.make_at.Goals as goal

pub returns-in_ok-make-clause-window : goal.returns-in_ok-make-clause-window
returns-in_ok-make-clause-window g c = one_made c.args.job.now.batch.now c.args.from c.args.workspace.now.view.snapshot c.args.self.now _
    c.args.number c.make.new.pending c.requires.window c.requires.number.0 c.requires.number.1 c.in_ok-make.ensures.made refl refl refl
