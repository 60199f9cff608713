use Rattle.std.proofs.Common.{◌≡◌, [], ◌∷◌, ◌++◌, length, map, ap, sym, subst, ◌∙◌, rules, arith}
use Rattle.std.proofs.lemmas.List.{length-map, map-append}
use Rattle.batch.specs.Names.{texts_of}
use Rattle.doc_merge.specs.Renumbered.{merged, numbers_in}
use Rattle.doc_merge.proofs.PartLemmas.{next_is}
use Rattle.doc_merge.proofs.Together.{Together, found_size, together_more}
use Rattle.doc_merge.proofs.tables.merge_tables.Goals as goal

pub loop-table-preserved : goal.loop-table-preserved
loop-table-preserved g c =
    let l = c.loop-table in
    let left = c.next.new.self.rest.items in
    let rest : l.table-iterator.rest.items ≡ c.in-Some.table ∷ left = search rules in
    let o = c.next-in-loop-table in
    let others = map (λ one. one.items) o.new.self.rest.items in
    let all = map (λ table. texts_of table.keys) c.args.tables.items in
    let texts = texts_of l.texts.items in
    let numbers = map (λ one. one.items) l.numbers.items in
    let table = texts_of c.in-Some.table.keys in
    let here = c.unwrap_or-here.result in
    let own = c.in_ok-own.own.items in
    let size = found_size l.invariant.done _ _ l.invariant.found in
    let sets = length-map l.table-iterator.rest.items (λ table. texts_of table.keys) in
    let lists = length-map l.places.rest.items (λ one. one.items) in
    let places = next_is o.result c.new.result l.places.rest.items o.new.self.rest.items
    (o.ensures.variant.1 (omega (arith, size, sets, lists, ap length rest, l.places.rest.ok.0))) o.ensures.items in
    let found = places ∙ ap (λ p. p ∷ o.new.self.rest.items) (sym c.unwrap_or-here.ensures) in
    let begun = subst (λ ts. Together all texts numbers (map (λ table. texts_of table.keys) ts) (map (λ one. one.items)
    l.places.rest.items))
    rest l.invariant in
    let ready = subst (λ ps. Together all texts numbers (table ∷ map (λ table. texts_of table.keys) left) (map (λ one. one.items) ps))
    found begun in
    let more = together_more all texts numbers table (map (λ table. texts_of table.keys) left) here.items others own ready
    (c.in_ok-own.ensures.numbers ∙ ap (λ t. numbers_in t table) c.in_ok-own.ensures.texts) in
    let pushed : c.push.new.self.items ≡ l.numbers.items ++ c.in_ok-own.own ∷ [] = search rules in
    let lists_now = ap (map (λ one. one.items)) pushed ∙ map-append (λ one. one.items) l.numbers.items (c.in_ok-own.own ∷ []) in
    subst (λ t. Together all t (map (λ one. one.items) c.push.new.self.items) (map (λ table. texts_of table.keys) left) others)
    (sym c.in_ok-own.ensures.texts)
    (subst (λ ns. Together all (merged texts table) ns (map (λ table. texts_of table.keys) left) others) (sym lists_now) more)
