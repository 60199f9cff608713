use Rattle.std.proofs.Common.{◌≡◌, ◌≤◌, get_or, unwrap_or, sym, ap, ◌∙◌, subst}
use Rattle.std.specs.Map.{values_of}
use Rattle.committed.specs.contracts.heading.HeadingPartialEq.TheImpl as heading_eq
use Rattle.committed.specs.Index.{IsInChain, number_of}
use Rattle.committed.proofs.HeadingsLemmas.{value_at_number}
use Rattle.committed.proofs.index.Index.last_below.Goals as goal

pub loop-at-init : goal.loop-at-init
loop-at-init c =
    let index = c.args.self.now in
    let links = index.links.items in
    let own = number_of index c.args.heading in
    let last : c.unwrap_or-at.result ≡ get_or (values_of index.last.entries) own 0 =
    c.unwrap_or-at.ensures ∙ ap (λ o. unwrap_or o 0) (c.copied.ensures ∙ c.get.ensures.value)
    ∙ value_at_number (heading_eq.ghosts.eq c.args.heading) index.last.entries in
    record {
      end = subst (IsInChain links own) (sym last) (c.requires.lasts.each own).end;
      after = λ m from within same. absurd ((c.requires.lasts.each own).after m (subst (λ n. n ≤ m) last from) within same);
    }
