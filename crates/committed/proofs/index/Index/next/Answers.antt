use Rattle.std.proofs.Common.{◌≡◌, ◌<◌, ◌≤◌, ◌-◌, ℕ, arith, get_or, length, refl, sym, ap, ◌∙◌, subst, inl, inr}
use Rattle.std.proofs.lemmas.List.{get_or_default}
use Rattle.objects.specs.declared.entry.Entry.{Entry}
use Rattle.committed.specs.declared.index.Link.{Link}
use Rattle.committed.specs.Index.{link_at, IsSpan}
use Rattle.conflicts.specs.Strictness.{IsAsStrict}
use Rattle.committed.proofs.IndexLemmas.{span_joined}
use Rattle.committed.proofs.index.Index.next.Goals as goal

pub returns-then-is_as_strict-clause-span : goal.returns-then-is_as_strict-clause-span
returns-then-is_as_strict-clause-span c =
    let es = c.args.entries.now in
    let links = c.args.self.now.links.items in
    let last : ℕ = c.args.last in
    let some : 0 < last = omega (arith, c.if-last-eq0.false) in
    let found : Link = link_at links (last - 1) in
    let was : IsSpan es links (last - 1) found =
    c.requires.spans (last - 1) (omega (arith, some, c.requires.end.end.0)) in
    let read : c.get-found.result.now ≡ found = c.get-found.ensures in
    let place_read : (d : Entry) → get_or es c.args.place d ≡ c.index-entries-place.result =
    λ d. get_or_default es c.args.place d c.index-entries-place.result c.requires.within ∙ sym c.index-entries-place.is in
    let strictest_in : found.strictest < length es = omega (arith, was.strictest, was.place) in
    let found_read : (d : Entry) → get_or es found.strictest d ≡ c.index-entries-found.result =
    λ d. get_or_default es found.strictest d c.index-entries-found.result strictest_in
    ∙ ap (λ (y : Link). get_or es y.strictest c.index-entries-found.result) (sym read) ∙ sym c.index-entries-found.is in
    let strict : (d : Entry) → IsAsStrict (get_or es c.args.place d) (get_or es found.strictest d) =
    λ d. subst (λ p. IsAsStrict p (get_or es found.strictest d)) (sym (place_read d))
    (subst (IsAsStrict c.index-entries-place.result) (sym (found_read d)) (c.is_as_strict.ensures.strict c.if-is_as_strict.true)) in
    span_joined es links last _ some c.requires.end.end.0 (c.requires.end.end.1 some) c.requires.end.after was
    (ap (λ (y : Link). y.span) read) c.requires.within (omega arith) (inl refl) (λ d e commutes. commutes) strict

pub returns-then-is_as_strict-2-clause-span : goal.returns-then-is_as_strict-2-clause-span
returns-then-is_as_strict-2-clause-span c =
    let es = c.args.entries.now in
    let links = c.args.self.now.links.items in
    let last : ℕ = c.args.last in
    let some : 0 < last = omega (arith, c.if-last-eq0.false) in
    let found : Link = link_at links (last - 1) in
    let was : IsSpan es links (last - 1) found =
    c.requires.spans (last - 1) (omega (arith, some, c.requires.end.end.0)) in
    let read : c.get-found.result.now ≡ found = c.get-found.ensures in
    let place_read : (d : Entry) → get_or es c.args.place d ≡ c.index-entries-place.result =
    λ d. get_or_default es c.args.place d c.index-entries-place.result c.requires.within ∙ sym c.index-entries-place.is in
    let strictest_in : found.strictest < length es = omega (arith, was.strictest, was.place) in
    let found_read : (d : Entry) → get_or es found.strictest d ≡ c.index-entries-found.result =
    λ d. get_or_default es found.strictest d c.index-entries-found.result strictest_in
    ∙ ap (λ (y : Link). get_or es y.strictest c.index-entries-found.result) (sym read) ∙ sym c.index-entries-found.is in
    let strict : (d : Entry) → IsAsStrict (get_or es found.strictest d) (get_or es c.args.place d) =
    λ d. subst (λ p. IsAsStrict p (get_or es c.args.place d)) (sym (found_read d))
    (subst (IsAsStrict c.index-entries-found.result) (sym (place_read d))
    (c.is_as_strict-else-is_as_strict.ensures.strict c.if-is_as_strict-2.true)) in
    let same : found.strictest ≡ c.get-found.result.now.strictest = ap (λ (y : Link). y.strictest) (sym read) in
    let earlier : found.place ≤ c.args.place = c.requires.last (last - 1) (omega (arith, some, c.requires.end.end.0)) in
    span_joined es links last _ some c.requires.end.end.0 (c.requires.end.end.1 some) c.requires.end.after was
    (ap (λ (y : Link). y.span) read) c.requires.within (omega (arith, was.strictest, earlier, same)) (inr (sym same))
    (λ d. subst (λ n. IsAsStrict (get_or es n d) (get_or es c.args.place d)) same (strict d))
    (λ d. subst (λ n. IsAsStrict (get_or es n d) (get_or es found.strictest d)) same (λ e commutes. commutes))
