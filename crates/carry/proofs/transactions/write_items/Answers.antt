use Rattle.std.proofs.Common.{◌≡◌, ◌<◌, ◌+◌, [], ◌∷◌, ◌++◌, ap, arith, drop, length, refl, subst, ◌∙◌, string_bytes}
use Rattle.std.specs.Prelude.{codes}
use Rattle.json.specs.Print.{print}
use Rattle.json.specs.Tree.{ItemsHaveNumbers, json_tokens}
use Rattle.json.specs.Value.{items_view, value_view}
use Rattle.batch.proofs.CountLemmas.{left}
use Rattle.report.proofs.Joined.{joined_behind-nothing, next_text}
use Rattle.carry.specs.Transactions.{item_texts}
use Rattle.carry.proofs.transactions.write_items.Goals as goal

pub loop-item-init : goal.loop-item-init
loop-item-init c = (
  ([], (refl, refl)),
  c.requires,
  ap (λ text. string_bytes c.args.out.now ++ text)
      (joined_behind-nothing (codes ",\n") (item_texts (items_view c.args.items.now.items))),
)

pub to_vec-requires : goal.to_vec-requires
to_vec-requires c =
    let items = c.args.items.now.items in
    let i = c.loop-item.item-index in
    let is = rw c.deref-item-items.ensures.value at c.item-item.is in
    let within : i < length items = omega (arith, c.loop-item-test.true) in
    (subst (λ vs. ItemsHaveNumbers (items_view vs)) (left items i c.item-item.result within is) c.loop-item.invariant.1).0

pub loop-item-preserved : goal.loop-item-preserved
unfolding lib.Utf8.encode
loop-item-preserved c =
    let items = c.args.items.now.items in
    let i = c.loop-item.item-index in
    let is = rw c.deref-item-items.ensures.value at c.item-item.is in
    let within : i < length items = omega (arith, c.loop-item-test.true) in
    let split = left items i c.item-item.result within is in
    let text : string_bytes c.in-Ok.text ≡ print (json_tokens (value_view c.item-item.result)) =
    ap (λ v. v.items) c.in-Ok.ensures.ok ∙ c.in_ok-to_vec.ensures.text in
    let wrote = rw text at c.in_ok-write.ensures.bytes in (
      (44 ∷ 10 ∷ [], (refl, refl)),
      (subst (λ vs. ItemsHaveNumbers (items_view vs)) split c.loop-item.invariant.1).1,
      next_text (codes ",\n") (string_bytes c.loop-item.out) _ c.loop-item.between.now (print (json_tokens (value_view c.item-item.result)))
          _ (item_texts (items_view (drop (i + 1) items))) _ (ap (λ vs. item_texts (items_view vs)) split) wrote c.loop-item.invariant.2,
    )
