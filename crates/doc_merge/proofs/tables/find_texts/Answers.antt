use Rattle.std.proofs.Common.{◌≡◌, [], drop, length, map, ap, subst, sym, append-nil, arith}
use Rattle.std.proofs.lemmas.List.{length-drop}
use Rattle.batch.specs.Names.{texts_of}
use Rattle.doc_merge.specs.Tables.{AreTextPlaces}
use Rattle.doc_merge.proofs.Merging.{none_left}
use Rattle.doc_merge.proofs.tables.find_texts.Goals as goal

pub returns : goal.returns
returns c =
    let l = c.loop-text in
    let keys = c.args.texts.now.keys in
    let tables = map (λ table. texts_of table.keys) c.args.tables.now in
    let none : drop l.text-index keys ≡ [] = none_left (drop l.text-index keys)
    (omega (
      arith,
      length-drop l.text-index keys,
      c.loop-text-test.false,
      l.auto.text-index-end,
      ap (λ ks. length ks)
          c.as_slice-text-items.ensures.keys,
    )) in
    subst (AreTextPlaces tables (texts_of keys)) (append-nil l.places.items)
    (l.invariant [] (subst (λ ks. AreTextPlaces tables (texts_of ks) []) (sym none) tt))
