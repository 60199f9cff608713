use Rattle.std.proofs.Common.{◌≡◌, ◌≤◌, ◌<◌, ◌+◌, ◌-◌, ◌⊎◌, inl, inr, ℕ, [], ◌∷◌, drop, false, true, length, sym, ap, ◌∙◌, arith}
use Rattle.std.proofs.lemmas.Bool.{cases_lt, false≢true}
use Rattle.std.proofs.lemmas.List.{take_rest}
use Rattle.doc_cuts.specs.Cuts.{IsCut, opens_array}
use Rattle.doc_cuts.proofs.CutLemmas.{passed, shown}
use Rattle.doc_cuts.proofs.cut.next_cut.Goals as goal

pub returns-then-opens_array : goal.returns-then-opens_array
returns-then-opens_array c =
    let t = c.args.text.now in
    let at = c.loop-found.at in
    let k = at + c.in-Some.found in
    let here = shown t at c.in-Some.found (93 ∷ 44 ∷ []) c.loop-found.invariant.1 c.in-Some.ensures.1 in
    let opens : opens_array (drop (k + 2) t) ≡ true =
    ap opens_array (sym (take_rest t (k + 2))) ∙ sym c.opens_array.ensures ∙ c.if-opens_array.true in (
      record {
        low = omega (arith, c.loop-found.invariant.0);
        high = omega (arith, here.fits);
        before = passed t c.args.from at c.in-Some.found c.loop-found.invariant.1 c.loop-found.invariant.2 c.in-Some.ensures.0.before;
      },
      (here, opens),
    )

pub loop-found-preserved : goal.loop-found-preserved
loop-found-preserved c =
    let t = c.args.text.now in
    let at = c.loop-found.at in
    let bracket = at + c.in-Some.found in
    let here = shown t at c.in-Some.found (93 ∷ 44 ∷ []) c.loop-found.invariant.1 c.in-Some.ensures.1 in
    let closed : opens_array (drop (bracket + 2) t) ≡ false =
    ap opens_array (sym (take_rest t (bracket + 2))) ∙ sym c.opens_array.ensures ∙ c.if-opens_array.false in
    let before = passed t c.args.from at c.in-Some.found c.loop-found.invariant.1 c.loop-found.invariant.2 c.in-Some.ensures.0.before in (
      omega (arith, c.loop-found.invariant.0),
      omega (arith, here.fits),
      λ k low high cut. by_side k bracket (cases_lt k bracket) (λ less. before k low less cut) closed cut high,
    )
  where
    by_side : (k bracket : ℕ) → (k < bracket) ⊎ (bracket ≤ k) → (k < bracket → ⊥) → opens_array (drop (bracket + 2) c.args.text.now) ≡ false
        → IsCut c.args.text.now k → k < bracket + 1 → ⊥
    by_side k bracket (inl less) before closed cut high = before less
    by_side k bracket (inr more) before closed cut high =
        let same : k ≡ bracket = omega arith in
        false≢true (sym closed ∙ ap (λ m. opens_array (drop (m + 2) c.args.text.now)) (sym same) ∙ cut.1)

pub returns : goal.returns
returns c =
    let t = c.args.text.now in
    let at = c.loop-found.at in
    λ k low high cut. passed t c.args.from at (length t - at + 1) c.loop-found.invariant.1 c.loop-found.invariant.2
    (λ j zero less occurs. c.in_default.ensures j zero (omega (arith, occurs.fits)) occurs) k low (omega arith) cut
