use Rattle.std.proofs.Common.{◌≡◌, ℕ, ◌+◌, ◌-◌, ◌∙◌, length, sym, ap, subst, arith}
use Rattle.speculate.specs.Runs.{IsListedRunOf}
use Rattle.rounds.specs.Views.{meaning}
use Rattle.meaning.specs.OneThread.{record_of, outcome_of}
use Rattle.rounds.proofs.Making.{pending_of}
use Rattle.rounds.proofs.Wholes.{net_whole}
use Rattle.rounds.proofs.workspace.Workspace.make.Goals as goal

-- numbers are counted from 1 where a transaction is run
same_number : (n : ℕ) → (n + 1) - 1 ≡ n
same_number n = omega arith

pub put-requires : goal.put-requires
put-requires g c =
    let meant = meaning c.args.job.now.batch.now ((c.args.number + 1) - 1) c.args.self.now.view.snapshot in
    let made = c.in_ok-listed.ensures.run in
    record {
      whole = λ same. made.net ∙ (net_whole (record_of meant) (outcome_of meant)
          (sym (ap length made.net) ∙ (same ∙ ap length made.entries)) ∙ sym made.entries);
    }

pub returns-clause-made : goal.returns-clause-made
returns-clause-made g c =
    let meant : ℕ → _ = λ n. meaning c.args.job.now.batch.now n c.args.self.now.view.snapshot in
    let run = c.run_in.new.run in
    let listed = c.in_ok-listed.listed in
    let made = subst (λ n. IsListedRunOf listed (meant n) run) (same_number c.args.number) c.in_ok-listed.ensures.run in
    pending_of listed (meant c.args.number) run c.put.new.self made c.in_ok-put.ensures.tree c.in_ok-put.ensures.net
    c.in_ok-put.ensures.sums c.in_ok-put.ensures.span
