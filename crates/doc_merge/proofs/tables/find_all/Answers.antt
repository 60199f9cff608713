use Rattle.std.proofs.Common.{◌≡◌, ◌<◌, Ok, [], get_or, length, map, take, sym, subst, ◌∙◌, rules, arith}
use Rattle.std.proofs.lemmas.List.{length-map, take-map}
use Rattle.batch.specs.Names.{texts_of}
use Rattle.doc_merge.specs.Tables.{AreTextPlaces}
use Rattle.doc_merge.proofs.PartLemmas.{as_many, in_place, ok_at}
use Rattle.doc_merge.proofs.Together.{found_each}
use Rattle.doc_merge.proofs.tables.find_all.Goals as goal

pub returns : goal.returns
returns g c =
    let l = c.loop-table in
    let tables = c.args.tables.now in
    let texts = map (λ table. texts_of table.keys) tables in
    let new = c.for_each_mut.new.s in
    let places = c.in_ok-places.places.items in
    let many : length l.found.items ≡ length tables = omega (arith, l.invariant, c.loop-table-test.false, l.auto.table-index-end) in
    let size : length new ≡ length l.found.items = search rules in
    let all : map Ok places ≡ new = c.in_ok-places.ensures ∙ in_place l.found.len l.found.items new (search rules) in
    let each = as_many places new all in
    let lists = length-map places (λ one. one.items) in
    let sets = length-map tables (λ table. texts_of table.keys) in
    found_each texts [] (map (λ one. one.items) places) (omega (arith, many, size, each, lists, sets)) (λ i below.
    let within : i < length places = omega (arith, below, many, size, each, sets) in
    let front = take-map (λ table. texts_of table.keys) i tables in
    subst (λ ts. AreTextPlaces ts (get_or texts i []) (get_or (map (λ one. one.items) places) i [])) (sym front)
    (ok_at (λ one. one.items) (AreTextPlaces (map (λ table. texts_of table.keys) (take i tables)) (get_or texts i [])) places new i [] all
    within (λ d.
    let change = (c.for_each_mut.ensures i d (omega (arith, below, many, sets))).1 in
    (_, change.left, change.call))))
