use Rattle.std.proofs.Common.{◌≡◌, get_or, sym, ap, ◌∙◌, subst}
use Rattle.std.proofs.lemmas.List.{get_or_default}
use Rattle.committed.specs.Headings.{heading_of, of_object}
use Rattle.committed.specs.Index.{IsLinked}
use Rattle.committed.proofs.HeadingsLemmas.{of_no_item}
use Rattle.committed.proofs.index.Index.put.Goals as goal

pub returns-then-is_of_item-clause-kept : goal.returns-then-is_of_item-clause-kept
returns-then-is_of_item-clause-kept c place heading is =
    c.link-then-is_of_item.ensures.kept place heading (c.link.ensures.kept place heading is)

pub returns-then-is_of_item-clause-own : goal.returns-then-is_of_item-clause-own
returns-then-is_of_item-clause-own c d =
    let es = c.args.entries.now in
    let new = c.link-then-is_of_item.new.self in
    let read : c.index-entries-place.result ≡ get_or es c.args.place d = c.index-entries-place.is
    ∙ get_or_default es c.args.place c.index-entries-place.result d c.requires.within in
    let own : c.of-heading.result ≡ heading_of (get_or es c.args.place d) = c.of-heading.ensures ∙ ap heading_of read in (
      c.link-then-is_of_item.ensures.kept c.args.place _
          (subst (IsLinked c.link.new.self c.args.place) (c.of_object.ensures ∙ ap of_object own) c.link.ensures.own),
      subst (IsLinked new c.args.place) own c.link-then-is_of_item.ensures.own,
    )

pub returns-else-is_of_item-clause-own : goal.returns-else-is_of_item-clause-own
returns-else-is_of_item-clause-own c d =
    let es = c.args.entries.now in
    let new = c.link.new.self in
    let read : c.index-entries-place.result ≡ get_or es c.args.place d = c.index-entries-place.is
    ∙ get_or_default es c.args.place c.index-entries-place.result d c.requires.within in
    let own : c.of-heading.result ≡ heading_of (get_or es c.args.place d) = c.of-heading.ensures ∙ ap heading_of read in
    let alone : of_object c.of-heading.result ≡ c.of-heading.result =
    of_no_item c.of-heading.result (sym c.is_of_item.ensures ∙ c.if-is_of_item.false) in (
      subst (IsLinked new c.args.place) (c.of_object.ensures ∙ ap of_object own) c.link.ensures.own,
      subst (IsLinked new c.args.place) (c.of_object.ensures ∙ alone ∙ own) c.link.ensures.own,
    )
