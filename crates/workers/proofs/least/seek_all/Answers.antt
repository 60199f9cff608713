use Rattle.std.proofs.Common.{◌≡◌, true, rules}
use Rattle.claims.specs.Views.{is_over}
use Rattle.workers.specs.Testing.{Passing, Failing, Sought}
use Rattle.workers.proofs.Given.{each_given}
use Rattle.workers.proofs.least.seek_all.Goals as goal

pub returns-clause-back : goal.returns-clause-back
returns-clause-back g c =
    each_given _
    (λ s. Sought (Passing (λ k b. g.F.Fn.post c.args.passes.now (k, tt) b)) (Failing (λ k b. g.F.Fn.post c.args.passes.now (k, tt) b))
    c.args.board.now s × (is_over s.view ≡ true))
    c.at_each_seat.result c.at_each_seat.ensures.each (λ s k x e. search rules)
