use Rattle.std.proofs.Common.{◌+◌, take, arith, rules}
use Rattle.std.proofs.lemmas.Result.{IfOk-weaker}
use Rattle.workers.proofs.Gives.{given_by}
use Rattle.rounds.specs.Windows.{IsDecided, IsFallenAt}
use Rattle.rounds.proofs.Fallen.{all_decided}
use Rattle.rounds.proofs.window.Window.fallen.Goals as goal

pub returns : goal.returns
returns g c =
    let window = c.args.self.now in
    let since = take c.args.upto c.args.nets.now in
    let from = c.args.from in
    let decided = given_by _ _ (λ piece. IsFallenAt window since (from + piece)) c.give_all.result c.give_all.ensures
    (λ k before after done.
    let known : IsDecided window since (from + k) before.items.items after.items.items = search rules in known) in
    IfOk-weaker c.give_all.result _ _ (λ numbers given. all_decided window since from _ numbers.items (omega arith) given) decided
