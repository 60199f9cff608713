use Rattle.std.proofs.Common.{[], ◌∷◌, ◌++◌, map, ap, refl, sym, ◌∙◌, string_bytes}
use Rattle.std.specs.FinMap as finite_map
use Rattle.std.specs.Prelude.{codes}
use Rattle.meaning.specs.Words.{joined_by}
use Rattle.batch.specs.Names.{names_of}
use Rattle.atoms.specs.Item.{item_cmp}
use Rattle.atoms.specs.declared.item.Item.{Item}
use Rattle.atoms.proofs.Items.{items_total, items_antisymmetric}
use Rattle.atoms.proofs.SortedLemmas.{entries-sorted}
use Rattle.carry.specs.Carried.{pair_text}
use Rattle.report.proofs.Joined.{joined_behind-nothing, next_text}
use Rattle.carry.proofs.Written.{pair_parts}
use Rattle.carry.proofs.document.write_pairs.Goals as goal

pub loop-key-init : goal.loop-key-init
loop-key-init c =
    let same = c.into_iter-key-iterator.ensures.into_iter_gives ∙ c.iter-key-items.ensures.rest
    ∙ sym (entries-sorted item_cmp items_total items_antisymmetric _ c.iter-key-items.ensures.ordered)
    ∙ ap finite_map.entries c.entries.ensures in (
      ([], (refl, refl)),
      ap (λ text. string_bytes c.args.out.now ++ text)
          (joined_behind-nothing (codes ", ") (map (pair_text (names_of c.args.names.now)) (c.into_iter-key-iterator.result))
          ∙ ap (λ xs. joined_by (codes ", ") (map (pair_text (names_of c.args.names.now)) xs)) same),
    )

pub loop-key-preserved : goal.loop-key-preserved
unfolding lib.Utf8.encode
loop-key-preserved c =
    let names = names_of c.args.names.now in
    let text = pair_text names in
    let pair : Item × Item = (c.in-Some.key.now, c.in-Some.item.now) in
    let wrote = rw (c.item_name-key_name.ensures, c.item_name-name.ensures, pair_parts names pair) at c.in_ok-write.ensures.bytes in
    let more = next_text (codes ", ") (string_bytes c.loop-key.out) _ c.loop-key.between.now (text pair)
    (map text c.loop-key.key-iterator) (map text c.next.new.self) _ (ap (map text) c.in-Some.ensures.steps) wrote c.loop-key.invariant.1 in
    ((44 ∷ 32 ∷ [], (refl, refl)), more)
