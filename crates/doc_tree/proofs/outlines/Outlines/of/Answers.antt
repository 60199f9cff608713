use Rattle.std.proofs.Common.{◌∙◌, ap, arith, length, refl, sym}
use Rattle.std.specs.List.{All}
use Rattle.std.proofs.lemmas.List.Elements.{All-replicate, All-same, same_from_all_zip}
use Rattle.std.proofs.lemmas.Option.{slice_get_read}
use Rattle.objects.specs.Entries.{kinds}
use Rattle.batch.specs.Names.{texts_of}
use Rattle.doc_tree.specs.Digests.{IsRight, digest_of}
use Rattle.doc_tree.proofs.DigestLemmas.{outline_right}
use Rattle.doc_tree.proofs.outlines.Outlines.of.Goals as goal

pub loop-place-init : goal.loop-place-init
loop-place-init c =
    let names = texts_of c.args.names.now.keys in
    let ks = kinds c.args.objects.now in
    let all = c.in_ok-slots.ensures.items_if_clones_equal (λ y h. same_from_all_zip _ _ y h.whole (λ a b is. is)) in
    All-same (All (IsRight names ks)) _ _ all
    (All-replicate (All (IsRight names ks)) _ _ (All-replicate (IsRight names ks) 4 _ (λ place e. absurd (omega arith))))

pub loop-place-preserved : goal.loop-place-preserved
loop-place-preserved c =
    let keys = c.args.names.now.keys in
    let objects = c.args.objects.now in
    let place = c.loop-place.place in
    let k = c.index-names-place.result in
    let same = c.as_slice-names.ensures.keys in
    let key = slice_get_read keys (length keys) place k refl (omega arith) (rw (← same) c.index-names-place.is) in
    c.note.ensures (texts_of keys) (kinds objects)
    (outline_right keys objects place k c.in-Some.value.now _ key (sym c.in-Some.ensures)
    (c.of-digest.ensures ∙ ap digest_of c.as_str.ensures.value) c.kind.ensures refl) c.loop-place.invariant
