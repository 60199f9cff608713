use Rattle.std.proofs.Common.{◌≡◌, ◌<◌, ◌-◌, arith, get_or, length, unwrap_or, sym, ap, ◌∙◌, subst}
use Rattle.std.proofs.lemmas.List.{get_or_default}
use Rattle.std.specs.Map.{values_of}
use Rattle.objects.specs.Entries.{CommuteForward}
use Rattle.committed.specs.contracts.heading.HeadingPartialEq.TheImpl as heading_eq
use Rattle.committed.specs.declared.index.Link.{Link}
use Rattle.committed.specs.Index.{number_of, link_at, IsSpan}
use Rattle.committed.proofs.HeadingsLemmas.{value_at_number}
use Rattle.committed.proofs.StandsLemmas.{one_commutes}
use Rattle.committed.proofs.index.Index.covers.Goals as goal

pub returns-then-at-ne0 : goal.returns-then-at-ne0
returns-then-at-ne0 c strict other commutes =
    let es = c.args.entries.now in
    let index = c.args.self.now in
    let links = index.links.items in
    let own = number_of index c.of.result in
    let at = c.unwrap_or-at.result in
    let last : at ≡ get_or (values_of index.last.entries) own 0 =
    c.unwrap_or-at.ensures ∙ ap (λ o. unwrap_or o 0) (c.copied.ensures ∙ c.get.ensures.value)
    ∙ value_at_number (heading_eq.ghosts.eq c.of.result) index.last.entries in
    let some : at - 1 < length links = omega (arith, last, c.if-at-ne0.true, (c.requires.lasts.each own).end.0) in
    let found : Link = link_at links (at - 1) in
    let span : IsSpan es links (at - 1) found = c.requires.spans (at - 1) some in
    let within : found.strictest < length es = omega (arith, span.strictest, span.place) in
    let read : get_or es found.strictest other ≡ c.index-entries-get.result =
    get_or_default es found.strictest other c.index-entries-get.result within
    ∙ ap (λ (y : Link). get_or es y.strictest c.index-entries-get.result) (sym c.get-then-at-ne0.ensures)
    ∙ sym c.index-entries-get.is in
    c.is_as_strict.ensures.strict strict other
    (subst (CommuteForward other) read (one_commutes other es found.strictest within commutes))
