use Rattle.std.proofs.Common.{◌≡◌, length, rules, string_bytes}
use Rattle.std.proofs.lemmas.List.{map_more}
use Rattle.batch.proofs.PackedLemmas.{one_more}
use Rattle.batch.proofs.packed.Packed.of.Goals as goal

pub loop-part-preserved : goal.loop-part-preserved
loop-part-preserved c =
    let ends_here : c.len.result ≡ length (string_bytes c.push_str.new.self) = search rules in
    rw (
      c.in_ok-push.ensures.items,
      ends_here,
      c.in_ok-push_str.ensures.bytes,
      map_more string_bytes c.args.texts.now c.loop-part.part-index c.part-item.result c.loop-part-test.true,
      ← c.part-item.is,
      ← c.deref.ensures,
    )
    (one_more _ _ _ _ _ c.deref.utf8 c.loop-part.invariant)
