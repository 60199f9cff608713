use Rattle.std.proofs.Common.{◌≡◌, [], ◌∷◌, ◌++◌, Some, length, sym, ap, ◌∙◌, arith, rules}
use Rattle.json.specs.Json.{after_end_array}
use Rattle.doc_tree.specs.Scope.{numbers_of}
use Rattle.doc_tokens.proofs.EntryLemmas.{no_queue, queue_more, queue_whole}
use Rattle.doc_tokens.proofs.pull_objects.pull_queue.Goals as goal

pub loop-alloc-init : goal.loop-alloc-init
loop-alloc-init c = no_queue c.args.version c.args.reader.now c.args.counts.now (numbers_of c.args.numbering.now) c.new-queue.result
    c.new-queue.ensures

pub loop-alloc-smaller : goal.loop-alloc-smaller
loop-alloc-smaller c =
    let same : c.take_end_array.new.self ≡ c.loop-alloc.reader = grind arith in
    let begun = sym same ∙ c.in_ok-item.ensures.1 in
    omega (arith, ap length begun)

pub loop-alloc-preserved : goal.loop-alloc-preserved
loop-alloc-preserved c =
    let l = c.loop-alloc in
    let done = c.in_ok-item.ensures in
    let new = c.pull_entry.new in
    let same : c.take_end_array.new.self ≡ l.reader = grind arith in
    let pushed : c.push_back.new.self ≡ l.queue ++ c.in_ok-item.item ∷ [] = grind (arith, rules) in
    queue_more c.args.version c.args.reader.now c.args.counts.now (numbers_of c.args.numbering.now) l.reader new.reader l.counts new.counts
    (numbers_of l.numbering) (numbers_of new.numbering) l.queue c.push_back.new.self done.0 c.in_ok-item.item l.invariant
    (sym same ∙ done.1) done.2 done.3 done.4 done.5 pushed

pub returns : goal.returns
returns c =
    let l = c.loop-alloc in
    let closed : after_end_array l.reader ≡ Some c.take_end_array.new.self = grind arith in
    queue_whole c.args.version c.args.reader.now c.args.counts.now (numbers_of c.args.numbering.now) l.reader c.take_end_array.new.self
    l.counts (numbers_of l.numbering) l.queue l.invariant closed
