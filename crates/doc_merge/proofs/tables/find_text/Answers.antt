use Rattle.std.proofs.Common.{◌≡◌, ◌<◌, Some, false, [], get_or, length, map, ap, ◌∙◌, rules, arith}
use Rattle.std.proofs.lemmas.List.{get_or-map, length-map}
use Rattle.batch.specs.Names.{texts_of}
use Rattle.doc_tree.specs.Scope.{is_listed, place_of}
use Rattle.doc_tree.proofs.TableLemmas.{is_listed-keys, place_of-keys}
use Rattle.doc_merge.proofs.Together.{without_more}
use Rattle.doc_merge.proofs.tables.find_text.Goals as goal

pub returns-in-Some : goal.returns-in-Some
returns-in-Some c =
    let tables = c.args.tables.now in
    let text = c.args.text.now in
    let k = c.loop-table.table in
    let set = c.index-tables-table.result in
    let below : k < length tables = search rules in
    let at : get_or tables k set ≡ set = search rules in
    let found : place_of text (texts_of set.keys) ≡ Some c.in-Some.place = search (rules, place_of-keys) in (
      omega (arith, length-map tables (λ table. texts_of table.keys), below),
      ap (place_of text) (get_or-map (λ table. texts_of table.keys) tables k set [] below ∙ ap (λ table. texts_of table.keys) at) ∙ found,
    )

pub loop-table-preserved : goal.loop-table-preserved
loop-table-preserved c =
    let tables = c.args.tables.now in
    let text = c.args.text.now in
    let k = c.loop-table.table in
    let set = c.index-tables-table.result in
    let below : k < length tables = search rules in
    let at : get_or tables k set ≡ set = search rules in
    let unseen : is_listed text (texts_of set.keys) ≡ false = search (rules, is_listed-keys) in
    without_more text (map (λ table. texts_of table.keys) tables) k c.loop-table.invariant
    (ap (is_listed text) (get_or-map (λ table. texts_of table.keys) tables k set [] below ∙ ap (λ table. texts_of table.keys) at) ∙ unseen)
    (omega (arith, length-map tables (λ table. texts_of table.keys), below))
