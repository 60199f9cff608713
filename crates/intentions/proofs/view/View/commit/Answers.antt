use Rattle.std.proofs.Common.{◌≡◌, ◌∷◌, length, reverse, sym, ap, ◌∙◌, subst}
use Rattle.intentions.specs.Starts.{IsNested}
use Rattle.drafts.proofs.HistoryLemmas.{reverse_push}
use Rattle.intentions.proofs.ViewLemmas.{view_parts, nets_of, committed_view}
use Rattle.intentions.proofs.view.View.commit.Goals as goal

pub returns-clause-committed : goal.returns-clause-committed
returns-clause-committed c =
    let starts = reverse c.pop.new.self.items in
    let values = c.self.inside.snapshot.now in
    let entries = c.self.inside.entries.items in
    let net = nets_of c.self.inside in
    let is : reverse c.self.inside.marks.items ≡ c.in-Some._mark ∷ starts = reverse_push _ _ _ c.in-Some.ensures.items in
    let nested : IsNested (c.in-Some._mark ∷ starts) (length net) = subst (λ ss. IsNested ss (length net)) is c.self.invariant.0.nested in
    committed_view values entries net c.in-Some._mark starts c.args.self.now (ap (view_parts values entries net) (sym is) ∙ c.self.view_is)
    nested
