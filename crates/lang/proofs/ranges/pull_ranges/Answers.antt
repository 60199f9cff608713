use Rattle.std.proofs.Common.{◌≡◌, ◌≤◌, ◌<◌, ◌+◌, [], ◌∷◌, length, map, take, sym, subst, ap, ◌∙◌, arith, rules}
use Rattle.std.proofs.lemmas.List.{length-map, take_all}
use Rattle.std.specs.Prelude.{slice_index, slice_range}
use Rattle.json.specs.Lex.{tokens}
use Rattle.json.specs.Token.{end_array, end_object}
use Rattle.batch.specs.Views.{block_view}
use Rattle.doc_tokens.specs.Ranges.{IsBegun, left_by, reached}
use Rattle.doc_tokens.proofs.RangeLemmas.{begun_whole}
use Rattle.doc_tree.specs.Scope.{numbers_of}
use Rattle.lang.proofs.RangeLaws.{begun_further}
use Rattle.lang.proofs.ranges.pull_ranges.Goals as goal

pub loop-end-preserved : goal.loop-end-preserved
loop-end-preserved c =
    let l = c.loop-end in
    let t = c.args.text.now in
    let declared = c.in_ok-parts.parts.declared in
    let start = c.args.state.now.counts in
    let numbers = numbers_of c.args.state.now.numbering in
    let q = reached l.state (map block_view l.transactions.items) in
    let new = c.next_range.new in
    let r = reached new.state (map block_view new.transactions.items) in
    let range = c.in_ok-range-2.range.now in
    let end = c.range_end-end-in-loop-end in
    let same = l.invariant.1 in
    let long = ap length same in
    let within : l.end < length t = omega (arith, c.loop-end-test.true, long) in
    let sliced : range ≡ slice_range t (l.end + 1) end.result = grind (arith, rules) in
    let begun = subst (λ e. IsBegun (tokens (take l.end t)) (left_by e) declared start numbers q) c.in-Transaction.is l.invariant.0 in
    let next = c.in_ok-last.ensures in (
      begun_further declared start numbers t range l.end end.result
          (left_by c.in_ok-last.last) next.begins.0 q r within end.ensures.within.0
          (l.invariant.3 within) sliced begun next.begins.1 next.read,
      same,
      omega (arith, end.ensures.within.1, long),
      λ less. ap (λ bs. slice_index bs end.result) (sym same) ∙ end.ensures.comma (omega (arith, less, long)),
      next.scope,
      next.few,
    )

pub returns : goal.returns
returns c =
    let l = c.loop-end in
    let t = c.args.text.now in
    let declared = c.in_ok-parts.parts.declared in
    let start = c.args.state.now.counts in
    let numbers = numbers_of c.args.state.now.numbering in
    let q = reached l.state (map block_view l.transactions.items) in
    let end : length t ≤ l.end = omega (arith, c.loop-end-test.false, ap length l.invariant.1) in
    let closed = subst (λ e. IsBegun (tokens (take l.end t)) (left_by e) declared start numbers q) c.in-Document.is l.invariant.0 in
    let all = subst (λ text. IsBegun (tokens text) (end_array ∷ end_object ∷ []) declared start numbers q) (take_all l.end t end) closed in
    begun_whole declared start numbers (tokens t) q all (omega (arith, l.invariant.5, length-map l.transactions.items block_view))
