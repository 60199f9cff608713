use Rattle.std.proofs.Common.{[], ◌∷◌, ◌++◌, ap, refl, sym, ◌∙◌, append_assoc, arith, string_bytes}
use Rattle.std.specs.Prelude.{codes}
use Rattle.std.specs.Option.{option_copied}
use Rattle.std.proofs.lemmas.Option.{slice_get-get_or}
use Rattle.objects.specs.declared.kind.Value.TheVariants as value
use Rattle.batch.specs.Names.{names_of}
use Rattle.carry.specs.Carried.{object_text, object_texts}
use Rattle.report.proofs.Joined.{joined_behind-nothing, next_text}
use Rattle.carry.proofs.Walking.{next_object}
use Rattle.carry.proofs.document.write_objects.Goals as goal

pub loop-object-init : goal.loop-object-init
loop-object-init c = (
  ([], (refl, refl)),
  ap (λ text. string_bytes c.args.out.now ++ text)
      (joined_behind-nothing (codes ",\n") (object_texts (names_of c.args.names.now) 0 c.args.objects.now)),
)

pub returns-in_default : goal.returns-in_default
returns-in_default c =
    let bad = ap option_copied (sym c.in_default.is) ∙ c.value.ensures
    ∙ slice_get-get_or c.args.objects.now c.loop-object.object (value.Account 0)
    (omega (arith, c.loop-object-test.true, c.len-object-end.ensures)) in
    cc

pub loop-object-preserved : goal.loop-object-preserved
unfolding lib.Utf8.encode
loop-object-preserved c =
    let names = names_of c.args.names.now in
    let there = sym c.value.ensures ∙ ap option_copied c.in-Some.is in
    let text = object_text names c.loop-object.object c.in-Some.value.now in
    let out = string_bytes c.loop-object.out in
    let wrote = c.in_ok-write_object.ensures ∙ ap (λ start. start ++ text) c.in_ok-write.ensures.bytes
    ∙ append_assoc out c.loop-object.between.now text in
    let more = next_text (codes ",\n") out _ c.loop-object.between.now text _ _
    _ (next_object c.args.objects.now c.loop-object.object c.in-Some.value.now there names) wrote c.loop-object.invariant.1 in
    ((44 ∷ 10 ∷ [], (refl, refl)), more)
