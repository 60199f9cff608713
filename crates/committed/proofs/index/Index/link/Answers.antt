use Rattle.std.proofs.Common.{◌≡◌, ◌+◌, arith, get_or, length, unwrap_or, sym, ap, ◌∙◌, subst}
use Rattle.std.specs.Map.{values_of}
use Rattle.indexmap.specs.IndexMap.{insert_entry}
use Rattle.committed.specs.contracts.heading.HeadingPartialEq.TheImpl as heading_eq
use Rattle.committed.specs.declared.index.Index.{Index}
use Rattle.committed.specs.Index.{AreLinks, AreSpans, IsLastOf, IsLinked, number_of}
use Rattle.committed.proofs.HeadingsLemmas.{value_at_number}
use Rattle.committed.proofs.IndexLemmas.{links_next, spanned_next, lasts_put, linked_more, linked_own}
use Rattle.committed.proofs.index.Index.link.Goals as goal

pub next-link-requires-clause-end : goal.next-link-requires-clause-end
next-link-requires-clause-end c =
    let index = c.args.self.now in
    let links = index.links.items in
    let own = number_of index c.args.heading in
    let last : c.unwrap_or.result ≡ get_or (values_of index.last.entries) own 0 =
    c.unwrap_or.ensures ∙ ap (λ o. unwrap_or o 0) c.in-Ok.ensures.old
    ∙ value_at_number (heading_eq.ghosts.eq c.args.heading) index.last.entries in
    subst (λ n. IsLastOf links n c.unwrap_or.result) (sym c.in-Ok.ensures.index)
    (subst (IsLastOf links own) (sym last) (c.requires.lasts.each own))

pub returns-clause-links : goal.returns-clause-links
returns-clause-links c = subst AreLinks (sym c.push_reserved.ensures.items)
    (links_next c.args.self.now.links.items c.next-link.result c.requires.links c.next-link.ensures.link)

pub returns-clause-lasts : goal.returns-clause-lasts
returns-clause-lasts c =
    let index = c.args.self.now in
    let entries : c.insert_full.new.self.entries
    ≡ insert_entry heading_eq.ghosts.eq index.last.entries c.args.heading (length index.links.items + 1) =
    c.in-Ok.ensures.entries ∙ ap (insert_entry heading_eq.ghosts.eq index.last.entries c.args.heading)
    (omega (arith, c.len.ensures, index.links.ok.0)) in
    lasts_put index c.args.heading c.next-link.result c.push_reserved.new.self.items c.insert_full.new.self.entries
    (c.next-link.ensures.heading ∙ c.in-Ok.ensures.index) c.push_reserved.ensures.items entries c.requires.lasts

pub returns-clause-spans : goal.returns-clause-spans
returns-clause-spans c = subst (AreSpans c.args.entries.now) (sym c.push_reserved.ensures.items)
    (spanned_next c.args.entries.now c.args.self.now.links.items c.next-link.result c.requires.spans c.next-link.ensures.span)

pub returns-clause-own : goal.returns-clause-own
returns-clause-own c =
    let index = c.args.self.now in
    let new : Index = record { last = c.insert_full.new.self; links = c.push_reserved.new.self; listed = index.listed } in
    subst (λ place. IsLinked new place c.args.heading) c.next-link.ensures.place
    (linked_own index new c.args.heading (c.len.result + 1) c.next-link.result (c.next-link.ensures.heading ∙ c.in-Ok.ensures.index)
    c.push_reserved.ensures.items c.in-Ok.ensures.entries (omega (arith, c.in-Ok.ensures.index, c.in-Ok.ensures.within)))

pub returns-clause-kept : goal.returns-clause-kept
returns-clause-kept c =
    let index = c.args.self.now in
    let new : Index = record { last = c.insert_full.new.self; links = c.push_reserved.new.self; listed = index.listed } in
    linked_more index new c.args.heading (c.len.result + 1) c.next-link.result c.push_reserved.ensures.items c.in-Ok.ensures.entries
