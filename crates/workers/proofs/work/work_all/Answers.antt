use Rattle.std.proofs.Common.{rules}
use Rattle.workers.specs.Working.{Gives, HasWorked}
use Rattle.workers.proofs.Given.{each_given}
use Rattle.workers.proofs.work.work_all.Goals as goal

pub returns-clause-worked : goal.returns-clause-worked
returns-clause-worked g c =
    each_given _ (HasWorked (Gives (λ k b. g.F.Fn.post c.args.give.now (k, (b, tt)))) c.args.board.now)
    c.at_each_seat.result c.at_each_seat.ensures.each (λ s k x e. search rules)
