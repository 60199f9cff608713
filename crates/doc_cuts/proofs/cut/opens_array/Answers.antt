use Rattle.std.proofs.Common.{◌+◌, ◌==◌, cond, get_or, sym, ap, ◌∙◌, arith}
use Rattle.std.proofs.lemmas.List.{drop_all}
use Rattle.doc_cuts.proofs.CutLemmas.{opens_none, opens_step}
use Rattle.doc_cuts.specs.Cuts.{opens_array}
use Rattle.std.specs.Prelude.{drop}
use Rattle.doc_cuts.proofs.cut.opens_array.Goals as goal

pub returns-then-not-is_ascii_whitespace : goal.returns-then-not-is_ascii_whitespace
returns-then-not-is_ascii_whitespace c =
    let t = c.args.text.now in
    let i = c.loop-byte.byte-index in
    sym (c.loop-byte.invariant ∙ opens_step t i c.loop-byte-test.true
    ∙ ap (λ b. cond b (opens_array (drop (i + 1) t)) (get_or t i 0 == 91))
    (sym c.is_ascii_whitespace.ensures.value ∙ c.if-not-is_ascii_whitespace.true))

pub loop-byte-preserved : goal.loop-byte-preserved
loop-byte-preserved c =
    let t = c.args.text.now in
    let i = c.loop-byte.byte-index in
    c.loop-byte.invariant ∙ opens_step t i c.loop-byte-test.true
    ∙ ap (λ b. cond b (opens_array (drop (i + 1) t)) (get_or t i 0 == 91))
    (sym c.is_ascii_whitespace.ensures.value ∙ c.if-not-is_ascii_whitespace.false)

pub returns : goal.returns
returns c =
    sym (c.loop-byte.invariant ∙ ap opens_array (drop_all c.loop-byte.byte-index c.args.text.now (omega arith)) ∙ opens_none)
