use Rattle.std.specs.FinMap as finite_map
use Rattle.std.proofs.Common.{◌+◌, drop, sym, ap, ◌∙◌, arith}
use Rattle.std.proofs.lemmas.List.{drop_all}
use Rattle.serde_json.specs.View.{items_view, view}
use Rattle.atoms.specs.declared.item.Item.{Item}
use Rattle.atoms.specs.Item.{item_cmp}
use Rattle.batch.specs.Names.{texts_of}
use Rattle.doc_tree.specs.Asked.{key_of, pair_asked}
use Rattle.doc_tree.specs.Places.{item_at, itself, nothing, pairs_placed, seek}
use Rattle.doc_tree.specs.Scope.{Numbers, numbers_of, with_text}
use Rattle.doc_tree.specs.Spelled.{bind_all, pairs_of, spelled_map}
use Rattle.doc_tree.proofs.ListLemmas.{items_from}
use Rattle.doc_tree.proofs.PlaceLemmas.{entry_unmet, own_met, part_met}
use Rattle.doc_tree.proofs.starts.read_pairs.Goals as goal

pub returns-in-Err-clause-unmet : goal.returns-in-Err-clause-unmet
returns-in-Err-clause-unmet c other =
    let l = c.loop-index in
    let here = texts_of l.earlier.keys in
    let version = c.args.version in
    let xs = c.deref-pair-items.result.now in
    let x = c.pair-item.result in
    let rest = items_view (drop (l.index + 1) xs) in
    ap (λ vs. seek c.args.counts.now (pairs_placed version (texts_of c.args.earlier.now.keys) 0 (items_view vs)))
    (sym c.deref-pair-items.ensures.value) ∙ l.invariant.asked
    ∙ ap (λ ds. seek l.counts (pairs_placed version here l.index ds)) (items_from xs l.index x (omega arith) c.pair-item.is)
    ∙ entry_unmet l.counts l.index (pair_asked version here (view x))
    (pairs_placed version (with_text (key_of (view x)) here) (l.index + 1) rest) c.in-Err.failure c.from.result c.in_item.result
    c.from.ensures c.in_item.ensures c.in-Err.ensures.first other

pub loop-index-preserved : goal.loop-index-preserved
loop-index-preserved c =
    let l = c.loop-index in
    let here = texts_of l.earlier.keys in
    let version = c.args.version in
    let xs = c.deref-pair-items.result.now in
    let x = c.pair-item.result in
    let rest = items_view (drop (l.index + 1) xs) in
    let split = items_from xs l.index x (omega arith) c.pair-item.is in
    let done = c.in-Ok.ensures in
    let next = c.read_pair.new.counts in
    let asked = pair_asked version here (view x) in
    record {
      asked = l.invariant.asked ∙ ap (λ ds. seek l.counts (pairs_placed version here l.index ds)) split
          ∙ part_met l.counts next (item_at l.index) (itself asked nothing)
          (pairs_placed version (with_text (key_of (view x)) here) (l.index + 1) rest) (own_met l.counts next asked done.met)
          ∙ ap (λ earlier. seek next (pairs_placed version earlier (l.index + 1) rest)) (sym done.earlier);
      spelled = l.invariant.spelled ∙ ap (λ ds. spelled_map (bind_all l.directory) (pairs_of (numbers_of l.numbering) ds)) split
          ∙ ap (λ (p : (Item × Item) × Numbers). (
            bind_all (finite_map.insert l.directory p.0.0 p.0.1) (pairs_of p.1 rest).0,
            (pairs_of p.1 rest).1,
          )) (sym done.pair)
          ∙ ap (λ (m : finite_map.FinMap item_cmp Item). spelled_map (bind_all m) (pairs_of (numbers_of c.read_pair.new.numbering) rest))
          (sym c.in_ok-put-in-Ok.ensures.ok);
    }

pub returns-clause-value : goal.returns-clause-value
returns-clause-value c =
    let l = c.loop-index in
    let xs = c.deref-pair-items.result.now in
    sym (ap (λ vs. spelled_map (bind_all finite_map.empty) (pairs_of (numbers_of c.args.numbering.now) (items_view vs)))
    (sym c.deref-pair-items.ensures.value) ∙ l.invariant.spelled
    ∙ ap (λ vs. spelled_map (bind_all l.directory) (pairs_of (numbers_of l.numbering) (items_view vs)))
    (drop_all l.index xs c.loop-index-test.false))
