use Rattle.std.specs.FinSet as finite_set
use Rattle.std.proofs.Common.{◌+◌, drop, sym, ap, ap₂, ◌∙◌, arith}
use Rattle.std.proofs.lemmas.List.{drop_all}
use Rattle.serde_json.specs.View.{items_view, view}
use Rattle.atoms.specs.declared.item.Item.{Item}
use Rattle.atoms.specs.Item.{item_cmp}
use Rattle.batch.specs.Names.{texts_of}
use Rattle.doc_tree.specs.Asked.{element_asked, text_of}
use Rattle.doc_tree.specs.Places.{elements_placed, item_at, itself, nothing, seek}
use Rattle.doc_tree.specs.Scope.{Numbers, numbers_of, with_text}
use Rattle.doc_tree.specs.Spelled.{entries_of, put_all, spelled_map}
use Rattle.doc_tree.proofs.ListLemmas.{items_from}
use Rattle.doc_tree.proofs.PlaceLemmas.{entry_unmet, own_met, part_met}
use Rattle.doc_tree.proofs.starts.read_elements.Goals as goal

pub returns-in-Err-clause-unmet : goal.returns-in-Err-clause-unmet
returns-in-Err-clause-unmet c other =
    let l = c.loop-index in
    let here = texts_of l.earlier.keys in
    let version = c.args.version in
    let xs = c.deref-element-items.result.now in
    let x = c.element-item.result in
    let rest = items_view (drop (l.index + 1) xs) in
    ap (λ vs. seek c.args.counts.now (elements_placed version (texts_of c.args.earlier.now.keys) 0 (items_view vs)))
    (sym c.deref-element-items.ensures.value) ∙ l.invariant.asked
    ∙ ap (λ ds. seek l.counts (elements_placed version here l.index ds)) (items_from xs l.index x (omega arith) c.element-item.is)
    ∙ entry_unmet l.counts l.index (element_asked version here (view x))
    (elements_placed version (with_text (text_of (view x)) here) (l.index + 1) rest) c.in-Err.failure c.from.result c.in_item.result
    c.from.ensures c.in_item.ensures c.in-Err.ensures.first other

pub loop-index-preserved : goal.loop-index-preserved
loop-index-preserved c =
    let l = c.loop-index in
    let here = texts_of l.earlier.keys in
    let version = c.args.version in
    let xs = c.deref-element-items.result.now in
    let x = c.element-item.result in
    let rest = items_view (drop (l.index + 1) xs) in
    let split = items_from xs l.index x (omega arith) c.element-item.is in
    let done = c.in-Ok.ensures in
    let next = c.read_element.new.counts in
    let asked = element_asked version here (view x) in
    record {
      asked = l.invariant.asked ∙ ap (λ ds. seek l.counts (elements_placed version here l.index ds)) split
          ∙ part_met l.counts next (item_at l.index) (itself asked nothing)
          (elements_placed version (with_text (text_of (view x)) here) (l.index + 1) rest) (own_met l.counts next asked done.met)
          ∙ ap (λ earlier. seek next (elements_placed version earlier (l.index + 1) rest)) (sym done.earlier);
      spelled = l.invariant.spelled ∙ ap (λ ds. spelled_map (put_all l.set) (entries_of (numbers_of l.numbering) ds)) split
          ∙ ap₂ (λ (i : Item) (n : Numbers). (put_all (finite_set.insert l.set i) (entries_of n rest).0, (entries_of n rest).1))
          (sym done.item) (sym done.numbers)
          ∙ ap (λ (s : finite_set.FinSet item_cmp). spelled_map (put_all s) (entries_of (numbers_of c.read_element.new.numbering) rest))
          (sym c.in_ok-insert-in-Ok.ensures.ok);
    }

pub returns-clause-value : goal.returns-clause-value
returns-clause-value c =
    let l = c.loop-index in
    let xs = c.deref-element-items.result.now in
    sym (ap (λ vs. spelled_map (put_all finite_set.empty) (entries_of (numbers_of c.args.numbering.now) (items_view vs)))
    (sym c.deref-element-items.ensures.value) ∙ l.invariant.spelled
    ∙ ap (λ vs. spelled_map (put_all l.set) (entries_of (numbers_of l.numbering) (items_view vs)))
    (drop_all l.index xs c.loop-index-test.false))
