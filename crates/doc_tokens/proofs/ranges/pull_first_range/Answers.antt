use Rattle.std.proofs.Common.{◌≡◌, [], ◌∷◌, List, Some, false, true, map, sym, subst, ap, ◌∙◌, arith, rules}
use Rattle.json.specs.Json.{after_end_array}
use Rattle.json.specs.Token.{begin_array, end_array, end_object}
use Rattle.json.proofs.Grammar.{closed_array}
use Rattle.batch.specs.Views.{block_view}
use Rattle.meaning.specs.Trees as tree
use Rattle.doc_tree.specs.Scope.{numbers_of, setting_of}
use Rattle.doc_cuts.specs.Whole.{is_left}
use Rattle.doc_tokens.specs.Ranges.{AreRead, IsBegun, IsHead, left_by, reached}
use Rattle.doc_tokens.proofs.RangeLemmas.{array_whole, end_whole, none_read}
use Rattle.doc_tokens.proofs.ranges.pull_first_range.Goals as goal

pub returns-then-take_end_array-clause-begun : goal.returns-then-take_end_array-clause-begun
unfolding is_left
returns-then-take_end_array-clause-begun c =
    let old = c.args.reader.now in
    let inside = c.pull_begin_array.new.reader in
    let end = end_array ∷ end_object ∷ [] in
    let declared = c.in_ok-declared.declared in
    let start = c.args.state.now.counts in
    let numbers = numbers_of c.args.state.now.numbering in
    let mid = c.pull_declared.new.state.counts in
    let between = numbers_of c.pull_declared.new.state.numbering in
    let opened : c.pull_declared.new.reader ≡ begin_array ∷ inside = grind (arith, rules) in
    let head = subst (λ ts. IsHead old ts declared start numbers mid between) opened c.in_ok-declared.ensures.head in
    let taken : after_end_array inside ≡ Some c.take_end_array.new.self = grind arith in
    let closed : inside ≡ end = closed_array inside c.take_end_array.new.self taken ∙ ap (λ ts. end_array ∷ ts) c.in_ok-end.ensures.0 in
    let blocks = map block_view c.new-transactions.result.items in
    let none : blocks ≡ [] = ap (map block_view) c.new-transactions.ensures.items in
    let p = reached c.pull_declared.new.state [] in
    let read = subst (λ ts. AreRead (setting_of declared) ts end p p) (sym closed) (none_read (setting_of declared) end p) in
    subst (λ e. IsBegun old (left_by e) declared start numbers (reached c.pull_declared.new.state blocks)) (sym c.in_ok-end.ensures.1)
    (subst (λ (bs : List tree.Block). IsBegun old end declared start numbers (reached c.pull_declared.new.state bs)) (sym none)
    (record {
      mid = mid;
      between = between;
      inside = inside;
      head = head;
      transactions = read;
      whole = λ h. c.in_ok-declared.ensures.left true (ap (is_left true false) opened ∙ end_whole inside closed);
    }))

pub returns-clause-begun : goal.returns-clause-begun
unfolding is_left
returns-clause-begun c =
    let old = c.args.reader.now in
    let inside = c.pull_begin_array.new.reader in
    let declared = c.in_ok-declared.declared in
    let start = c.args.state.now.counts in
    let numbers = numbers_of c.args.state.now.numbering in
    let mid = c.pull_declared.new.state.counts in
    let between = numbers_of c.pull_declared.new.state.numbering in
    let opened : c.pull_declared.new.reader ≡ begin_array ∷ inside = grind (arith, rules) in
    let head = subst (λ ts. IsHead old ts declared start numbers mid between) opened c.in_ok-declared.ensures.head in
    let going : c.take_end_array.new.self ≡ inside = grind arith in
    let none : map block_view c.new-transactions-2.result.items ≡ [] = ap (map block_view) c.new-transactions-2.ensures.items in
    let new = c.pull_range.new in
    let left = left_by c.in_ok-end-2.end in
    let q = reached new.state (map block_view new.transactions.items) in
    let here = subst (λ ts. AreRead (setting_of declared) ts left
    (reached c.pull_declared.new.state (map block_view c.new-transactions-2.result.items)) q) going c.in_ok-end-2.ensures.read in
    let read = subst (λ (bs : List tree.Block). AreRead (setting_of declared) inside left (reached c.pull_declared.new.state bs) q) none
    here in
    let begins = c.in_ok-end-2.ensures.begins in
    record {
      mid = mid;
      between = between;
      inside = inside;
      head = head;
      transactions = read;
      whole = λ h. c.in_ok-declared.ensures.left true (ap (is_left true false) opened
          ∙ array_whole inside begins.0 (sym going ∙ begins.1) (read.whole h));
    }
