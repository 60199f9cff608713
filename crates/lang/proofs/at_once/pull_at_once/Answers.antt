use Rattle.std.proofs.Common.{◌≡◌, ◌<◌, ◌+◌, ◌-◌, [], ◌∷◌, ◌++◌, length, take, drop, get_or, sym, subst, ap, ◌∙◌, arith, rules}
use Rattle.std.proofs.lemmas.List.{drop_more, length-map, take-append-drop}
use Rattle.std.specs.Prelude.{false, true, slice_index, slice_range, IfSome}
use Rattle.json.specs.Lex.{tokens}
use Rattle.json.specs.Token.{begin_array}
use Rattle.batch.specs.Views.{block_view}
use Rattle.doc_cuts.specs.Whole.{is_open}
use Rattle.doc_cuts.proofs.Places.{tokens_opened}
use Rattle.doc_tokens.specs.Ranges.{IsHead, reached}
use Rattle.doc_tokens.proofs.RangeLemmas.{head_longer, head_whole}
use Rattle.doc_merge.specs.Parts.{reached_by}
use Rattle.doc_tree.specs.Answer.{AreMet}
use Rattle.doc_tree.specs.Places.{placed}
use Rattle.doc_tree.specs.Scope.{numbers_of, setting_of}
use Rattle.doc_tree.specs.Spelled.{parts_in}
use Rattle.lang.specs.AtOnce.{Follow}
use Rattle.lang.proofs.AtOnceLaws.{all_alone, all_through}
use Rattle.lang.proofs.at_once.pull_at_once.Goals as goal

pub returns : goal.returns
returns g c =
    let t = c.args.text.now in
    let k = c.in_ok-bracket.bracket in
    let declared = c.in_ok-declared.declared in
    let setting = setting_of declared in
    let start = c.new-state.result.counts in
    let numbers = numbers_of c.new-state.result.numbering in
    let opened = c.read_head.new.state in
    let mid = opened.counts in
    let between = numbers_of opened.numbering in
    let q = reached_by c.in_ok-merged.merged in
    let front = take k t in
    let inside = drop (k + 1) t in
    let same : c.as_bytes-bytes.result.now ≡ t = search rules in
    let bytes = c.as_bytes-bytes.result.now in
    let known = subst (λ o. IfSome o (λ at. (at < length bytes) × (slice_index bytes at ≡ 91))) c.in_ok-bracket.ensures.ok_part
    c.head_end.ensures in
    let found : (k < length t) × (get_or t k 0 ≡ 91) = subst (λ bs. (k < length bs) × (slice_index bs k ≡ 91)) same known in
    let sliced : c.in_ok-head.head.now ≡ slice_range t 0 k = grind (arith, rules) in
    let all : k - 0 ≡ k = omega arith in
    let text : c.in_ok-head.head.now ≡ front = sliced ∙ ap (λ n. take n t) all in
    let head = subst (λ x. IsHead (tokens x) [] declared start numbers mid between) text c.in_ok-declared.ensures.head in
    let begun = subst (λ x. is_open false (tokens x) ≡ true) text c.in_ok-declared.ensures.begun in
    let split : t ≡ front ++ (91 ∷ inside) =
    sym (take-append-drop k t) ∙ ap (λ l. front ++ l) (drop_more t k 0 found.0 ∙ ap (λ x. x ∷ inside) found.1) in
    let both : tokens t ≡ tokens front ++ (begin_array ∷ tokens inside) = ap tokens split ∙ tokens_opened front inside begun in
    let listed : c.deref-2.result.now ≡ c.in_ok-reads.reads.items = search rules in
    let follow = subst (Follow t (k + 1)) listed
    (subst (λ bs. Follow bs (k + 1) c.deref-2.result.now) same (c.follow.ensures c.if-not-follow.false)) in
    let alone = all_alone setting t c.in_ok-reads.reads.items c.in_ok-found.found.items c.in_ok-reads.ensures c.in_ok-found.ensures in
    let done = c.in_ok-merged.ensures in
    let through = all_through setting t c.in_ok-reads.reads.items (k + 1) (reached opened []) q follow alone done.read in
    let longer = head_longer declared start numbers (tokens front) [] (begin_array ∷ tokens inside) mid between head in
    let whole = head_whole declared start numbers (tokens t) (tokens inside) mid between q
    (subst (λ ts. IsHead ts (begin_array ∷ tokens inside) declared start numbers mid between) (sym both) longer)
    through.1 (omega (arith, done.few, length-map c.in_ok-merged.merged.transactions.items block_view)) in (
      whole.0,
      whole.1,
      subst (λ s. AreMet s (placed whole.0) q.counts) c.new-state.ensures.counts whole.2,
      whole.3,
      whole.4 ∙ ap (λ n. parts_in n whole.0) c.new-state.ensures.numbers,
    )
