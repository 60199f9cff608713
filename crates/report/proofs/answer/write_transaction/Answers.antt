use Rattle.std.proofs.Common.{◌≡◌, ℕ, ◌+◌, ◌-◌, ◌%◌, ◌<◌, ◌++◌, List, append_assoc, arith, ap, sym, ◌∙◌, string_bytes}
use Rattle.std.proofs.lemmas.List.{append_cancel_right}
use Rattle.std.specs.Prelude.{codes}
use Rattle.std.specs.Fmt.{decimal}
use Rattle.meaning.specs.Texts.{line, outcome_text}
use Rattle.batch.specs.Names.{names_of}
use Rattle.report.specs.Parts.{steps_from, transaction_from}
use Rattle.report.proofs.AnswerLemmas.{transaction_from-own, transaction_from-steps}
use Rattle.report.proofs.Digits.{tens_digit}
use Rattle.report.proofs.PathLemmas.{cut_back, cut_place}
use Rattle.report.proofs.answer.write_transaction.Goals as goal
use Rattle.report.proofs.answer.write_transaction.Goals.{then-from-eq0+then-to-gt0+in_ok-write_heading, else-from-eq0}
use Rattle.report.proofs.answer.write_transaction.Goals.{else-from-eq0-via-then-from-eq0+else-to-gt0, else-from-eq0-via-else-from-eq0}

pub truncate-requires : goal.truncate-requires
truncate-requires c =
    λ _. cut_place c.args.path.now c.write_steps.new.path _ c.len-length.result c.len-length.ensures
    (c.in_ok-write_steps.ensures.path ∙ c.in_ok-write_natural.ensures)

pub returns-clause-path : goal.returns-clause-path
returns-clause-path c =
    c.truncate.ensures.bytes
    ∙ cut_back c.args.path.now c.write_steps.new.path _ c.len-length.result c.len-length.ensures
    (c.in_ok-write_steps.ensures.path ∙ c.in_ok-write_natural.ensures)

pub returns-clause-lines : goal.returns-clause-lines
returns-clause-lines c =
    let names = names_of c.args.batch.now.names in
    let blocks = c.args.batch.now.transactions in
    let records = c.args.records.now in
    let e = c.args.from.entry in
    let from = c.args.from.line in
    let to = c.args.to in
    let x = c.index.result.now in
    let y = c.index-records-from.result in
    let out = string_bytes c.args.out.now in
    let new = string_bytes c.write_steps.new.out in
    let lines : ℕ → List ℕ = transaction_from names blocks.items records e in
    let left : ℕ → List ℕ = λ n. steps_from names (decimal (e + 1)) n x.steps.items y.taken.items y.outcome in
    let left-is : (n : ℕ) → 0 < n → lines n ≡ left (n - 1) = transaction_from-steps names e blocks.items records x y c.requires.blocks
    c.index.ensures c.requires.records c.index-records-from.is in
    let number : string_bytes c.write_natural.new.out ≡ decimal (e + 1) =
    c.in_ok-write_natural.ensures ∙ ap (λ text. text ++ decimal ((e + 1) % 10)) c.requires.path
    ∙ tens_digit (e + 1) (omega (arith, c.requires.blocks, blocks.ok)) in
    let wrote : new ++ left (to - 1) ≡ string_bytes c.if-from-eq0.out ++ left (from - 1) =
    rw (number, c.saturating_sub.ensures, c.saturating_sub-2.ensures) at c.in_ok-write_steps.ensures.lines in
    elim c.if-from-eq0.branch [
      | then-from-eq0+then-to-gt0+in_ok-write_heading w ↦
          let first : from ≡ 0 = w.if-from-eq0.true in
          let some : 0 < to = w.if-to-gt0.true in
          let own = line (codes "T " ++ decimal (e + 1) ++ outcome_text names y.outcome) in
          let headed : string_bytes c.if-from-eq0.out ≡ out ++ own =
          ap string_bytes w.out-is ∙ (rw (w.deref.ensures, number) at w.in_ok-write_heading.ensures) in
          ap (λ rest. new ++ rest) (left-is to some) ∙ wrote ∙ ap (λ text. text ++ left (from - 1)) headed
          ∙ append_assoc out own (left (from - 1)) ∙ ap (λ n. out ++ (own ++ left (n - 1))) first
          ∙ ap (λ rest. out ++ rest) (sym (transaction_from-own names e blocks.items records x y c.requires.blocks c.index.ensures
          c.requires.records c.index-records-from.is))
          ∙ ap (λ n. out ++ lines n) (sym first)
      | else-from-eq0 w ↦
          let kept : new ++ left (to - 1) ≡ out ++ left (from - 1) =
          wrote ∙ ap (λ text. string_bytes text ++ left (from - 1)) w.out-is in
          elim w.else-from-eq0.branch [
            | else-from-eq0-via-then-from-eq0+else-to-gt0 w' ↦
                let none : to ≡ from = omega (arith, w'.if-from-eq0.true, w'.if-to-gt0.false) in
                ap (λ n. new ++ lines n) none
                ∙ ap (λ text. text ++ lines from)
                (append_cancel_right new out (left (from - 1)) (ap (λ n. new ++ left (n - 1)) (sym none) ∙ kept))
            | else-from-eq0-via-else-from-eq0 w' ↦
                ap (λ rest. new ++ rest) (left-is to (omega (arith, w'.if-from-eq0.false, c.requires.rise))) ∙ kept
                ∙ ap (λ rest. out ++ rest) (sym (left-is from (omega (arith, w'.if-from-eq0.false))))
          ]
    ]
