use Rattle.std.proofs.Common.{◌≡◌, ◌+◌, [], ◌∷◌, ◌++◌, length, map, sym, subst, ap, ◌∙◌, arith, rules}
use Rattle.std.proofs.lemmas.List.{length-map, map-append}
use Rattle.json.specs.Token.{begin_array}
use Rattle.batch.specs.Views.{block_view}
use Rattle.doc_tree.specs.Answer.{AreMet}
use Rattle.doc_tree.specs.Places.{block_placed, transaction_placed}
use Rattle.doc_tree.specs.Scope.{numbers_of, setting_of}
use Rattle.doc_tree.specs.Spelled.{block_of}
use Rattle.meaning.specs.declared.limits.TheConstants.{MAX_DEPTH}
use Rattle.doc_tokens.specs.Ranges.{AreRead, at_transaction, reached}
use Rattle.doc_tokens.proofs.PulledLemmas.{reads_shorter}
use Rattle.doc_tokens.proofs.RangeLemmas.{one_read}
use Rattle.doc_tokens.proofs.ranges.push_transaction.Goals as goal

pub returns-clause-read : goal.returns-clause-read
returns-clause-read c =
    let setting = setting_of c.args.declared.now in
    let done = c.in_ok-block.ensures in
    let d = done.value in
    let x = c.in_ok-block.block in
    let before = c.args.transactions.now.items in
    let old = map block_view before in
    let p = reached c.args.state.now old in
    let new = c.pull_transaction.new.reader in
    let state = c.pull_transaction.new.state in
    let place : c.len-2.result + 1 ≡ length old + 1 = omega (arith, length-map before block_view, c.len-2.ensures) in
    let begun = at_transaction (c.len-2.result + 1) c.args.state.now in
    let met = subst (λ n. AreMet c.args.state.now.counts (transaction_placed n setting d) state.counts) place
    (subst (λ s. AreMet begun.counts (block_placed setting MAX_DEPTH s d) state.counts) c.requires done.met) in
    let spelled = subst (λ s. (block_view x, numbers_of state.numbering) ≡ block_of setting MAX_DEPTH s p.numbers d) c.requires
    done.spelled in
    let pushed : c.push.new.self.items ≡ before ++ x ∷ [] = grind (arith, rules) in
    let shown : map block_view c.push.new.self.items ≡ old ++ block_view x ∷ [] =
    ap (map block_view) pushed ∙ map-append block_view before (x ∷ []) in
    subst (λ bs. AreRead setting (begin_array ∷ c.args.reader.now) new p (reached state bs)) (sym shown)
    (one_read setting c.args.reader.now new p state.counts (numbers_of state.numbering) (block_view x) d done.reads met spelled)

pub returns-clause-labels : goal.returns-clause-labels
returns-clause-labels c = c.in_ok-block.ensures.scope ∙ c.requires

pub returns-clause-less : goal.returns-clause-less
returns-clause-less c =
    let done = c.in_ok-block.ensures in
    omega (arith, reads_shorter 120 _ done.value _ done.reads)
