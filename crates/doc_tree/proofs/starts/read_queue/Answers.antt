use Rattle.std.proofs.Common.{◌+◌, List, ◌∷◌, drop, refl, sym, ap, ap₂, ◌∙◌, arith}
use Rattle.serde_json.specs.View.{items_view, view}
use Rattle.atoms.specs.declared.item.Item.{Item}
use Rattle.doc_tree.specs.Asked.{entry_asked}
use Rattle.doc_tree.specs.Places.{entries_placed, item_at, itself, nothing, seek}
use Rattle.doc_tree.specs.Scope.{Numbers, numbers_of}
use Rattle.doc_tree.specs.Spelled.{entries_of}
use Rattle.doc_tree.proofs.ListLemmas.{all_read, in_front, in_front_push, items_from}
use Rattle.doc_tree.proofs.PlaceLemmas.{entry_unmet, own_met, part_met}
use Rattle.doc_tree.proofs.starts.read_queue.Goals as goal

pub returns-in-Err-clause-unmet : goal.returns-in-Err-clause-unmet
returns-in-Err-clause-unmet c other =
    let l = c.loop-index in
    let version = c.args.version in
    let xs = c.deref-entry-items.result.now in
    let x = c.entry-item.result in
    let rest = items_view (drop (l.index + 1) xs) in
    ap (λ vs. seek c.args.counts.now (entries_placed version 0 (items_view vs))) (sym c.deref-entry-items.ensures.value) ∙ l.invariant.asked
    ∙ ap (λ ds. seek l.counts (entries_placed version l.index ds)) (items_from xs l.index x (omega arith) c.entry-item.is)
    ∙ entry_unmet l.counts l.index (entry_asked version (view x)) (entries_placed version (l.index + 1) rest)
    c.in-Err.failure c.from.result c.in_item.result c.from.ensures c.in_item.ensures c.in-Err.ensures.first other

pub loop-index-preserved : goal.loop-index-preserved
loop-index-preserved c =
    let l = c.loop-index in
    let version = c.args.version in
    let xs = c.deref-entry-items.result.now in
    let x = c.entry-item.result in
    let rest = items_view (drop (l.index + 1) xs) in
    let split = items_from xs l.index x (omega arith) c.entry-item.is in
    let done = c.in-Ok.ensures in
    let next = c.read_entry.new.counts in
    let later : List Item × Numbers = entries_of (numbers_of c.read_entry.new.numbering) rest in
    record {
      asked = l.invariant.asked ∙ ap (λ ds. seek l.counts (entries_placed version l.index ds)) split
          ∙ part_met l.counts next (item_at l.index) (itself (entry_asked version (view x)) nothing)
          (entries_placed version (l.index + 1) rest) (own_met l.counts next (entry_asked version (view x)) done.met);
      spelled = l.invariant.spelled ∙ ap (λ ds. in_front l.queue (entries_of (numbers_of l.numbering) ds)) split
          ∙ ap₂ (λ (i : Item) (n : Numbers). in_front l.queue (i ∷ (entries_of n rest).0, (entries_of n rest).1)) (sym done.item)
          (sym done.numbers)
          ∙ sym (in_front_push l.queue c.in-Ok.item later) ∙ ap (λ ys. in_front ys later) (sym c.in_ok-push_back-in-Ok.ensures.ok);
    }

pub returns-clause-value : goal.returns-clause-value
returns-clause-value c =
    let l = c.loop-index in
    let xs = c.deref-entry-items.result.now in
    all_read (entries_of (numbers_of l.numbering)) l.queue (numbers_of l.numbering)
    (entries_of (numbers_of c.args.numbering.now) (items_view xs)) xs l.index c.loop-index-test.false refl l.invariant.spelled
    ∙ ap (λ vs. entries_of (numbers_of c.args.numbering.now) (items_view vs)) c.deref-entry-items.ensures.value
