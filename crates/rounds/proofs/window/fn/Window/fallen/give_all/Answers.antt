use Rattle.std.proofs.Common.{◌+◌, [], ◌∷◌, take, sym, ap, ◌∙◌, subst, append-nil}
use Rattle.claims.specs.Views.{bit}
use Rattle.rounds.specs.Windows.{Told}
use Rattle.rounds.specs.declared.pending_run.PendingRun.{PendingRun}
use Rattle.rounds.proofs.Fallen.{falls_at, not_listed}
use Rattle.rounds.proofs.window.fn.Window.fallen.give_all.Goals as goal
use Rattle.rounds.proofs.window.fn.Window.fallen.give_all.Goals.{then-falls+in_ok-push, else-falls}

pub returns : goal.returns
returns g c =
    let window = c.captures.self.now in
    let since = take c.captures.upto c.captures.nets.now in
    let number = c.captures.from + c.args.piece in
    elim c.if-falls.branch [
      | then-falls+in_ok-push w ↦ (
        number ∷ [],
        ap (λ v. v.items) w.items-is ∙ w.in_ok-push.ensures.items,
        falls_at window since number
            (subst (λ b. (d : PendingRun) → Told window since number (bit b) d) w.if-falls.true c.falls.ensures),
      )
      | else-falls w ↦ (
        [],
        ap (λ v. v.items) w.items-is ∙ sym (append-nil c.args.state.items.items),
        not_listed window since number
            (subst (λ b. (d : PendingRun) → Told window since number (bit b) d) w.if-falls.false c.falls.ensures),
      )
    ]
