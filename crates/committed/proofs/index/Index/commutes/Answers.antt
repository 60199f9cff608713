use Rattle.std.proofs.Common.{◌≡◌, ◌<◌, ◌≤◌, ◌-◌, arith, get_or, length, sym, ap, ◌∙◌, subst}
use Rattle.std.proofs.lemmas.Bool.{false≢true}
use Rattle.std.proofs.lemmas.List.{get_or_default}
use Rattle.committed.specs.declared.index.Link.{Link}
use Rattle.committed.specs.Index.{number_of, link_at, heading_at, place_at, IsInChain, IsLink, IsLinked, IsSpan}
use Rattle.objects.specs.Entries.{CommuteForward}
use Rattle.committed.proofs.IndexLemmas.{passes, strictest_linked}
use Rattle.committed.proofs.index.Index.commutes.Goals as goal

pub returns-then-not-commute-clause-all : goal.returns-then-not-commute-clause-all
returns-then-not-commute-clause-all c h =
    let e = c.args.entry.now in
    let es = c.args.entries.now in
    let links = c.args.self.now.links.items in
    let at = c.loop-at.at in
    let some : 0 < at = omega (arith, c.loop-at-test.true) in
    let found : Link = link_at links (at - 1) in
    let span : IsSpan es links (at - 1) found =
    c.requires.spans (at - 1) (omega (arith, some, c.loop-at.invariant.end.0)) in
    let within : found.strictest < length es = omega (arith, span.strictest, span.place) in
    let read : get_or es found.strictest e ≡ c.index-entries-found.result =
    get_or_default es found.strictest e c.index-entries-found.result within
    ∙ ap (λ (y : Link). get_or es y.strictest c.index-entries-found.result) (sym c.get-found.ensures) ∙ sym c.index-entries-found.is in
    let early : found.strictest < c.args.upto = omega (arith, span.strictest, c.loop-at.invariant.below some) in
    let linked : IsLinked c.args.self.now found.strictest c.args.heading =
    strictest_linked es c.args.self.now c.args.heading (at - 1) c.requires.lasts
    (omega (arith, some, c.loop-at.invariant.end.0)) (c.loop-at.invariant.end.1 some) span in
    absurd (false≢true (sym c.if-not-commute.true ∙ c.commute.ensures.1 (subst (CommuteForward e) read (h found.strictest early linked))))

pub loop-at-preserved : goal.loop-at-preserved
loop-at-preserved c =
    let e = c.args.entry.now in
    let es = c.args.entries.now in
    let index = c.args.self.now in
    let links = index.links.items in
    let at = c.loop-at.at in
    let some : 0 < at = omega (arith, c.loop-at-test.true) in
    let found : Link = link_at links (at - 1) in
    let inside : at - 1 < length links = omega (arith, some, c.loop-at.invariant.end.0) in
    let span : IsSpan es links (at - 1) found = c.requires.spans (at - 1) inside in
    let link : IsLink links (at - 1) found = c.requires.links (at - 1) inside in
    let same : heading_at links (at - 1) ≡ number_of index c.args.heading = c.loop-at.invariant.end.1 some in
    let within : found.strictest < length es = omega (arith, span.strictest, span.place) in
    let read : get_or es found.strictest e ≡ c.index-entries-found.result =
    get_or_default es found.strictest e c.index-entries-found.result within
    ∙ ap (λ (y : Link). get_or es y.strictest c.index-entries-found.result) (sym c.get-found.ensures) ∙ sym c.index-entries-found.is in
    let commutes : CommuteForward e (get_or es found.strictest e) = subst (CommuteForward e) (sym read)
    (c.commute.ensures.0 c.if-not-commute.false) in
    let is : c.get-found.result.now.span ≡ found.span = ap (λ (y : Link). y.span) c.get-found.ensures in
    record {
      end = subst (IsInChain links (number_of index c.args.heading)) (sym is)
          (omega (arith, inside, link.span.0), λ there. link.span.1 there ∙ same);
      below = λ there. (let early : place_at links (found.span - 1) ≤ place_at links (at - 1) =
          link.rising (found.span - 1) (omega (arith, there, is, link.span.0)) in
          subst (λ n. place_at links (n - 1) < c.args.upto) (sym is) (omega (arith, early, c.loop-at.invariant.below some)));
      passed = λ m from l one before. passes es links at
          (number_of index c.args.heading) c.args.upto e some c.loop-at.invariant.end.0 same span commutes
          c.loop-at.invariant.passed m (subst (λ n. n ≤ m) is from) l one before;
    }
