use Rattle.std.specs.FinSet as finite_set
use Rattle.std.proofs.Common.{◌≡◌, false, Some, length, sym, ap, ◌∙◌, arith, rules}
use Rattle.json.specs.Json.{after_end_array}
use Rattle.doc_tree.specs.Scope.{numbers_of}
use Rattle.doc_tokens.proofs.EntryLemmas.{no_set, set_more, set_whole}
use Rattle.doc_tokens.proofs.pull_objects.pull_set.Goals as goal

pub loop-alloc-init : goal.loop-alloc-init
loop-alloc-init c = no_set c.args.version c.args.reader.now c.args.counts.now (numbers_of c.args.numbering.now) c.new-set.result
    c.new-set.ensures

pub loop-alloc-smaller : goal.loop-alloc-smaller
loop-alloc-smaller c =
    let same : c.take_end_array.new.self ≡ c.loop-alloc.reader = grind arith in
    let begun = sym same ∙ c.in_ok-item.ensures.1 in
    omega (arith, ap length begun)

pub loop-alloc-preserved : goal.loop-alloc-preserved
loop-alloc-preserved c =
    let l = c.loop-alloc in
    let x = c.in_ok-item.item in
    let done = c.in_ok-item.ensures in
    let new = c.pull_entry.new in
    let same : c.take_end_array.new.self ≡ l.reader = grind arith in
    let free : finite_set.contains l.set x ≡ false = grind (arith, rules) in
    let put : c.insert.new.self ≡ finite_set.insert l.set x = grind (arith, rules) in
    set_more c.args.version c.args.reader.now c.args.counts.now (numbers_of c.args.numbering.now) l.reader new.reader l.counts new.counts
    (numbers_of l.numbering) (numbers_of new.numbering) l.set c.insert.new.self done.0 x l.invariant (sym same ∙ done.1) done.2 done.3
    done.4 done.5 free put

pub returns : goal.returns
returns c =
    let l = c.loop-alloc in
    let closed : after_end_array l.reader ≡ Some c.take_end_array.new.self = grind arith in
    set_whole c.args.version c.args.reader.now c.args.counts.now (numbers_of c.args.numbering.now) l.reader c.take_end_array.new.self
    l.counts (numbers_of l.numbering) l.set l.invariant closed
