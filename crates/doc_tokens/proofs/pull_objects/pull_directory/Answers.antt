use Rattle.std.specs.FinMap as finite_map
use Rattle.std.proofs.Common.{◌≡◌, false, Some, length, sym, ap, ◌∙◌, arith, rules}
use Rattle.std.specs.Prelude.{is_some}
use Rattle.json.specs.Json.{after_end_array}
use Rattle.doc_tree.specs.Scope.{numbers_of}
use Rattle.doc_tokens.proofs.EntryLemmas.{no_directory, directory_more, directory_whole}
use Rattle.doc_tokens.proofs.pull_objects.pull_directory.Goals as goal

pub loop-alloc-init : goal.loop-alloc-init
loop-alloc-init c = no_directory c.args.version c.args.reader.now c.args.counts.now (numbers_of c.args.numbering.now)
    c.new-directory.result c.new-directory.ensures

pub loop-alloc-smaller : goal.loop-alloc-smaller
loop-alloc-smaller c =
    let same : c.take_end_array.new.self ≡ c.loop-alloc.reader = grind arith in
    let begun = sym same ∙ c.in_ok-key.ensures.2 in
    omega (arith, ap length begun)

pub loop-alloc-preserved : goal.loop-alloc-preserved
loop-alloc-preserved c =
    let l = c.loop-alloc in
    let x = c.in_ok-key.key in
    let y = c.in_ok-key.item in
    let done = c.in_ok-key.ensures in
    let new = c.pull_pair.new in
    let same : c.take_end_array.new.self ≡ l.reader = grind arith in
    let free : is_some (finite_map.get l.directory x) ≡ false = grind (arith, rules) in
    let put : c.put.new.self ≡ finite_map.insert l.directory x y = grind (arith, rules) in
    directory_more c.args.version c.args.reader.now c.args.counts.now (numbers_of c.args.numbering.now) l.reader new.reader l.counts
    new.counts (numbers_of l.numbering) (numbers_of new.numbering) l.directory c.put.new.self done.0 done.1 x y l.invariant
    (sym same ∙ done.2) done.3 done.4 done.5 done.6 done.7 done.8 free put

pub returns : goal.returns
returns c =
    let l = c.loop-alloc in
    let closed : after_end_array l.reader ≡ Some c.take_end_array.new.self = grind arith in
    directory_whole c.args.version c.args.reader.now c.args.counts.now (numbers_of c.args.numbering.now) l.reader
    c.take_end_array.new.self l.counts (numbers_of l.numbering) l.directory l.invariant closed
