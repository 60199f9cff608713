use Rattle.std.proofs.Common.{◌≡◌, ◌∷◌, length, reverse, sym, ap, ◌∙◌, subst}
use Rattle.drafts.proofs.HistoryLemmas.{reverse_push}
use Rattle.intentions.specs.DraftTables.{drafts_of}
use Rattle.intentions.specs.Starts.{IsNested}
use Rattle.intentions.specs.Layers.{layered, histories}
use Rattle.intentions.proofs.StartsLemmas.{nested_more}
use Rattle.intentions.proofs.LayersLemmas.{committed_level}
use Rattle.intentions.proofs.layers.Layers.commit.Goals as goal

pub invariant_of-self : goal.invariant_of-self
invariant_of-self c =
    let starts = reverse c.pop.new.self.items in
    let n = length c.self.inside.journal.items in
    let is : reverse c.self.inside.starts.items ≡ c.in-Some._start ∷ starts = reverse_push _ _ _ c.in-Some.ensures.items in
    let nested : IsNested (c.in-Some._start ∷ starts) n = subst (λ ss. IsNested ss n) is c.self.invariant in
    nested_more starts c.in-Some._start n nested.1 nested.0

pub returns : goal.returns
returns c =
    let starts = reverse c.pop.new.self.items in
    let hs = histories c.self.inside.snapshot.now (drafts_of c.self.inside.drafts) in
    let journal = c.self.inside.journal.items in
    let is : reverse c.self.inside.starts.items ≡ c.in-Some._start ∷ starts = reverse_push _ _ _ c.in-Some.ensures.items in
    let nested : IsNested (c.in-Some._start ∷ starts) (length journal) = subst (λ ss. IsNested ss (length journal)) is c.self.invariant in
    committed_level hs c.in-Some._start starts journal c.args.self.now (ap (λ ss. layered hs ss journal) (sym is) ∙ c.self.view_is) nested
