use Rattle.std.proofs.Common.{◌≡◌, get_or, refl, rules}
use Rattle.rounds.proofs.Firsts.{past_none}
use Rattle.rounds.proofs.check.check_past.Goals as goal

pub returns-then-upto-eq0-clause-stands : goal.returns-then-upto-eq0-clause-stands
returns-then-upto-eq0-clause-stands c =
    let none : c.args.upto ≡ 0 = search rules in
    (λ told d. past_none (get_or c.args.runs.now c.args.place d) c.args.nets.now c.args.upto none, λ stands. refl)
