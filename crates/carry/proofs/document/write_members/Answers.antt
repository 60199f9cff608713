use Rattle.std.proofs.Common.{[], ◌∷◌, ◌++◌, map, ap, refl, sym, ◌∙◌, string_bytes}
use Rattle.std.specs.Prelude.{codes}
use Rattle.meaning.specs.Words.{joined_by, members}
use Rattle.batch.specs.Names.{names_of}
use Rattle.report.proofs.SortedLemmas.{members-sorted}
use Rattle.carry.specs.Carried.{item_text}
use Rattle.report.proofs.Joined.{joined_behind-nothing, next_text}
use Rattle.carry.proofs.document.write_members.Goals as goal

pub loop-member-init : goal.loop-member-init
loop-member-init c =
    let same = c.into_iter-member-iterator.ensures.into_iter_gives ∙ c.iter-member-items.ensures.rest
    ∙ sym (members-sorted _ c.iter-member-items.ensures.ordered) ∙ ap members c.items.ensures in (
      ([], (refl, refl)),
      ap (λ text. string_bytes c.args.out.now ++ text)
          (joined_behind-nothing (codes ", ") (map (item_text (names_of c.args.names.now)) (c.into_iter-member-iterator.result))
          ∙ ap (λ xs. joined_by (codes ", ") (map (item_text (names_of c.args.names.now)) xs)) same),
    )

pub loop-member-preserved : goal.loop-member-preserved
unfolding lib.Utf8.encode
loop-member-preserved c =
    let text = item_text (names_of c.args.names.now) in
    let wrote = rw c.item_name-name.ensures at c.in_ok-write.ensures.bytes in
    let more = next_text (codes ", ") (string_bytes c.loop-member.out) _ c.loop-member.between.now (text c.in-Some.member.now)
    (map text c.loop-member.member-iterator) (map text c.next.new.self) _
    (ap (map text) c.in-Some.ensures.steps) wrote c.loop-member.invariant.1 in
    ((44 ∷ 32 ∷ [], (refl, refl)), more)
