use Rattle.std.proofs.Common.{◌<◌, ◌+◌, [], ◌∷◌, ◌++◌, ap, append_assoc, arith, drop, length, refl, ◌∙◌, map, string_bytes}
use Rattle.std.specs.Prelude.{codes}
use Rattle.batch.proofs.CountLemmas.{left}
use Rattle.report.proofs.Joined.{joined_behind-nothing, next_text}
use Rattle.carry.specs.Joined.{object_text_of, start_view}
use Rattle.carry.proofs.starts.write_starts.Goals as goal

pub loop-start-init : goal.loop-start-init
loop-start-init c = (
  ([], (refl, refl)),
  ap (λ text. string_bytes c.args.out.now ++ text)
      (joined_behind-nothing (codes ",\n") (map object_text_of (map start_view c.args.starts.now))),
)

pub loop-start-preserved : goal.loop-start-preserved
unfolding lib.Utf8.encode
loop-start-preserved c =
    let starts = c.args.starts.now in
    let i = c.loop-start.start-index in
    let start = c.start-item.result in
    let text = object_text_of (start_view start) in
    let out = string_bytes c.loop-start.out in
    let within : i < length starts = omega (arith, c.loop-start-test.true) in
    let split = left starts i start within c.start-item.is in
    let wrote = c.in_ok-write_object.ensures ∙ ap (λ before. before ++ text) c.in_ok-write.ensures.bytes
    ∙ append_assoc out c.loop-start.between.now text in
    let more = next_text (codes ",\n") out _ c.loop-start.between.now text _ (map object_text_of (map start_view (drop (i + 1) starts))) _
    (ap (λ rest. map object_text_of (map start_view rest)) split) wrote c.loop-start.invariant.1 in
    ((44 ∷ 10 ∷ [], (refl, refl)), more)
