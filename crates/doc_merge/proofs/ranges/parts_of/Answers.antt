use Rattle.std.proofs.Common.{◌≡◌, [], ◌∷◌, ◌++◌, drop, length, map, refl, ap, subst, sym, ◌∙◌, append_assoc, append-nil, rules, arith}
use Rattle.doc_merge.specs.Parts.{AreParts}
use Rattle.doc_merge.specs.Renumbered.{new_number}
use Rattle.doc_merge.specs.declared.parts.Part.{Part}
use Rattle.doc_merge.proofs.Merging.{none_left}
use Rattle.doc_merge.proofs.PartLemmas.{next_is, parts_next, parts_none}
use Rattle.doc_merge.proofs.ranges.parts_of.Goals as goal

pub loop-blocks-preserved : goal.loop-blocks-preserved
loop-blocks-preserved c =
    let l = c.loop-blocks in
    let i = c.next-in-loop-blocks-2 in
    let r = c.next-in-loop-blocks-3 in
    let others = c.next-in-loop-blocks.new.self.rest.items in
    let rest : l.blocks-iterator.rest.items ≡ c.in-Some.blocks ∷ others = search rules in
    let size = ap length rest in
    let items = next_is i.result c.new.result l.items.rest.items i.new.self.rest.items
    (i.ensures.variant.1 (omega (arith, size, l.invariant.1, l.items.rest.ok.0))) i.ensures.items in
    let reasons = next_is r.result c.new-in-loop-blocks.result l.reasons.rest.items r.new.self.rest.items
    (r.ensures.variant.1 (omega (arith, size, l.invariant.2, l.reasons.rest.ok.0))) r.ensures.items in
    let part : Part = record {
      numbers = record { items = c.but_places.result; reasons = c.but_places-in-loop-blocks.result };
      blocks = c.in-Some.blocks;
    } in
    let parts : c.push.new.self.items ≡ l.parts.items ++ part ∷ [] = search rules in (
      λ more next.
          subst (AreParts (map (λ one. one.items) c.args.transactions.items) (drop 1 (map (λ one. one.items) c.args.items.items))
          (drop 1 (map (λ one. one.items) c.args.reasons.items)))
          (sym (append_assoc l.parts.items (part ∷ []) more) ∙ ap (λ ps. ps ++ more) (sym parts))
          (l.invariant.0 (part ∷ more) (parts_next _ _ _ c.in-Some.blocks.items (map (λ one. one.items) others) _ _ _ _ part more
          (ap (map (λ one. one.items)) rest) (ap (map (λ one. one.items)) items) (ap (map (λ one. one.items)) reasons) refl
          (λ n. c.but_places.ensures n ∙ ap (λ v. new_number v.items n) c.unwrap_or-own_items.ensures)
          (λ n. c.but_places-in-loop-blocks.ensures n ∙ ap (λ v. new_number v.items n) c.unwrap_or-own_reasons.ensures) next)),
      omega (arith, size, ap length items, l.invariant.1),
      omega (arith, size, ap length reasons, l.invariant.2),
    )

pub returns : goal.returns
returns c =
    let l = c.loop-blocks in
    let none = none_left l.blocks-iterator.rest.items (omega (arith, l.blocks-iterator.rest.ok.0, c.in-None.ensures.steps.0)) in
    subst (AreParts (map (λ one. one.items) c.args.transactions.items) (drop 1 (map (λ one. one.items) c.args.items.items))
    (drop 1 (map (λ one. one.items) c.args.reasons.items))) (append-nil l.parts.items)
    (l.invariant.0 [] (parts_none _ _ _ (ap (map (λ one. one.items)) none)))
