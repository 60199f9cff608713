use Rattle.std.proofs.Common.{[], ◌∷◌, ◌++◌, map, ap, refl, ◌∙◌, string_bytes}
use Rattle.std.specs.Prelude.{codes}
use Rattle.std.specs.VecDeque.Iter.{deque_iter_rest}
use Rattle.meaning.specs.Words.{joined_by}
use Rattle.batch.specs.Names.{names_of}
use Rattle.carry.specs.Carried.{item_text}
use Rattle.report.proofs.Joined.{joined_behind-nothing, next_text}
use Rattle.carry.proofs.document.write_queue.Goals as goal

pub loop-item-init : goal.loop-item-init
loop-item-init c =
    let same = ap deque_iter_rest c.into_iter-item-iterator.ensures.into_iter_gives ∙ c.iter-item-items.ensures.rest ∙ c.items.ensures in (
      ([], (refl, refl)),
      ap (λ text. string_bytes c.args.out.now ++ text)
          (joined_behind-nothing (codes ", ")
          (map (item_text (names_of c.args.names.now)) (deque_iter_rest c.into_iter-item-iterator.result))
          ∙ ap (λ xs. joined_by (codes ", ") (map (item_text (names_of c.args.names.now)) xs)) same),
    )

pub loop-item-preserved : goal.loop-item-preserved
unfolding lib.Utf8.encode
loop-item-preserved c =
    let text = item_text (names_of c.args.names.now) in
    let wrote = rw c.item_name-name.ensures at c.in_ok-write.ensures.bytes in
    let more = next_text (codes ", ") (string_bytes c.loop-item.out) _ c.loop-item.between.now (text c.in-Some.item.now)
    (map text (deque_iter_rest c.loop-item.item-iterator)) (map text (deque_iter_rest c.next.new.self)) _
    (ap (map text) c.in-Some.ensures.steps) wrote c.loop-item.invariant.1 in
    ((44 ∷ 32 ∷ [], (refl, refl)), more)
