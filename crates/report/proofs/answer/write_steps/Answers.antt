use Rattle.std.proofs.Common.{◌≡◌, ℕ, ◌+◌, ◌-◌, ◌%◌, ◌<◌, ◌≤◌, List, [], ◌++◌, append_assoc, length, take, refl, ap, sym, ◌∙◌}
use Rattle.std.proofs.Common.{arith, inl, inr, string_bytes}
use Rattle.std.proofs.lemmas.Bool.{cases_lt}
use Rattle.std.specs.Prelude.{codes}
use Rattle.std.specs.Fmt.{decimal}
use Rattle.batch.specs.Names.{names_of}
use Rattle.report.specs.Parts.{steps_from}
use Rattle.report.specs.Paths.{tens}
use Rattle.report.proofs.Digits.{tens_digit}
use Rattle.report.proofs.PathLemmas.{cut_back, cut_both, cut_place}
use Rattle.report.proofs.TextLemmas.{after_text, steps_from-more, steps_from-shown}
use Rattle.report.proofs.answer.write_steps.Goals as goal

pub loop-index-init : goal.loop-index-init
loop-index-init c =
    let dot = c.in_ok-push.ensures.bytes
    ∙ ap (λ dot. string_bytes c.args.path.now ++ dot) (c.in_ok-push.ensures.ascii (omega arith)) in
    (refl, c.in_ok-push_tens.ensures ∙ ap (λ front. front ++ tens c.args.steps.start) dot)

pub count_up-requires-clause-cut : goal.count_up-requires-clause-cut
count_up-requires-clause-cut c =
    let dot = c.in_ok-push.ensures.bytes
    ∙ ap (λ dot. string_bytes c.args.path.now ++ dot) (c.in_ok-push.ensures.ascii (omega arith)) in
    cut_place c.push.new.self c.loop-index.path (tens c.loop-index.index) c.len-start.result c.len-start.ensures
    (c.loop-index.invariant.1 ∙ ap (λ front. front ++ tens c.loop-index.index) (sym dot))

pub count_up-requires-clause-before : goal.count_up-requires-clause-before
count_up-requires-clause-before c =
    let i = c.loop-index.index in
    let dot = c.in_ok-push.ensures.bytes
    ∙ ap (λ dot. string_bytes c.args.path.now ++ dot) (c.in_ok-push.ensures.ascii (omega arith)) in
    let same : i ≡ i + 1 - 1 = omega arith in
    cut_both c.push.new.self c.loop-index.path (tens i) c.len-start.result c.len-start.ensures
    (c.loop-index.invariant.1 ∙ ap (λ front. front ++ tens i) (sym dot))
    ∙ ap (λ n. take c.len-start.result (string_bytes c.loop-index.path) ++ tens n) same

pub loop-index-preserved : goal.loop-index-preserved
loop-index-preserved c =
    let steps = c.args.block.now.steps in
    let taken = c.args.done.now.taken in
    let i = c.loop-index.index in
    let below : i < c.min-shown.result = omega (arith, c.loop-index-test.true, c.min-index-end.ensures) in
    let lt : i < length steps.items = omega (arith, below, c.min-shown.ensures, c.len.ensures, steps.ok.0) in
    let lt' : i < length taken.items = omega (arith, below, c.min-shown.ensures, c.len-2.ensures, taken.ok.0) in
    let front = string_bytes c.args.path.now ++ codes "." in
    let dot : string_bytes c.push.new.self ≡ front = c.in_ok-push.ensures.bytes
    ∙ ap (λ dot. string_bytes c.args.path.now ++ dot) (c.in_ok-push.ensures.ascii (omega arith)) in
    let left : take c.len-start.result (string_bytes c.loop-index.path) ≡ front =
    cut_back c.push.new.self c.loop-index.path (tens i) c.len-start.result c.len-start.ensures
    (c.loop-index.invariant.1 ∙ ap (λ front. front ++ tens i) (sym dot)) ∙ dot in
    let counted : string_bytes c.count_up.new.path ≡ front ++ tens (i + 1) =
    c.in_ok-count_up.ensures ∙ ap (λ text. text ++ tens (i + 1)) left in
    let own : string_bytes c.count_up.new.path ++ decimal ((i + 1) % 10) ≡ front ++ decimal (i + 1) =
    ap (λ text. text ++ decimal ((i + 1) % 10)) counted ∙ append_assoc front (tens (i + 1)) (decimal ((i + 1) % 10))
    ∙ ap (λ digits. front ++ digits) (tens_digit (i + 1) (omega (arith, lt, steps.ok))) in
    let splits = steps_from-more _ (string_bytes c.args.path.now) i steps.items taken.items c.args.done.now.outcome _ _ lt c.index.ensures
    lt' c.index-in-loop-index.ensures in (
      after_text _ _ _ _ _ _ c.loop-index.invariant.0 (rw own at c.in_ok-write_step.ensures.lines) splits,
      c.in_ok-write_step.ensures.path ∙ counted,
    )

pub truncate-requires : goal.truncate-requires
truncate-requires c =
    let path = string_bytes c.args.path.now in
    let digits = tens c.loop-index.index in
    λ _. cut_place c.args.path.now c.loop-index.path (codes "." ++ digits) c.len-length.result c.len-length.ensures
    (c.loop-index.invariant.1 ∙ append_assoc path (codes ".") digits)

pub returns-clause-path : goal.returns-clause-path
returns-clause-path c =
    let path = string_bytes c.args.path.now in
    let digits = tens c.loop-index.index in
    c.truncate.ensures.bytes
    ∙ cut_back c.args.path.now c.loop-index.path (codes "." ++ digits) c.len-length.result c.len-length.ensures
    (c.loop-index.invariant.1 ∙ append_assoc path (codes ".") digits)

-- either the last of these steps is written, or none is left that was taken
pub returns-clause-lines : goal.returns-clause-lines
returns-clause-lines c =
    let steps = c.args.block.now.steps in
    let taken = c.args.done.now.taken in
    let i = c.loop-index.index in
    let to = c.args.steps.end in
    let lines : ℕ → List ℕ = λ n. steps_from (names_of c.args.names.now) (string_bytes c.args.path.now) n steps.items taken.items
    c.args.done.now.outcome in
    let none : (n : ℕ) → c.min-shown.result ≤ n → lines n ≡ [] = λ n le. steps_from-shown _ _ n steps.items taken.items _
    (omega (arith, le, c.min-shown.ensures, c.len.ensures, c.len-2.ensures, steps.ok.0, taken.ok.0)) in
    let same : lines to ≡ lines i = elim (cases_lt to c.min-shown.result) [
      | inl lt ↦
          let within : c.args.steps.start ≤ c.min-index-end.result = omega (arith, lt, c.min-index-end.ensures, c.requires) in
          ap lines (omega (arith, lt, c.min-index-end.ensures, c.loop-index-test.false, c.loop-index.auto.index-end within))
      | inr ge ↦ none to ge ∙ sym (none i (omega (arith, ge, c.min-index-end.ensures, c.loop-index-test.false)))
    ] in
    ap (λ rest. string_bytes c.loop-index.out ++ rest) same ∙ c.loop-index.invariant.0
