use Rattle.std.proofs.Common.{refl}
use Rattle.rounds.proofs.WindowLemmas.{other_window, shortened}
use Rattle.rounds.proofs.openings.drop_later.Goals as goal

pub returns-clause-at : goal.returns-clause-at
returns-clause-at c batch here =
    let old = c.args.at.now in
    other_window batch old _ here refl refl refl refl refl
    (shortened batch old.committed old.objects old.window c.shorten.new.self c.saturating_add-end.result here.window c.shorten.ensures)
