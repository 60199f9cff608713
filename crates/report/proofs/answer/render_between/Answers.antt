use Rattle.std.proofs.Common.{◌≡◌, ◌+◌, ◌<◌, ◌≤◌, ◌++◌, append-nil, arith, ap, sym, ◌∙◌, string_bytes}
use Rattle.std.specs.Prelude.{vec_len}
use Rattle.batch.specs.Names.{names_of}
use Rattle.report.specs.declared.cuts.Cut.{Cut}
use Rattle.report.specs.Parts.{lines_from, objects_from, transaction_from, transactions, transactions_from}
use Rattle.report.specs.Paths.{tens}
use Rattle.report.proofs.AnswerLemmas.{exchanged, lines_from-in, lines_from-next, lines_from-objects, transaction_from-end}
use Rattle.report.proofs.TextLemmas.{after_text}
use Rattle.report.proofs.answer.render_between.Goals as goal
use Rattle.report.proofs.answer.render_between.Goals.{then-to-count_shown+in_ok-write_transaction-2}
use Rattle.report.proofs.answer.render_between.Goals.{else-to-count_shown+in_ok-write_objects}

pub count_up-requires-clause-before : goal.count_up-requires-clause-before
count_up-requires-clause-before c =
    c.in_ok-write_transaction.ensures.path ∙ c.loop-entry.invariant.2 ∙ ap tens (omega arith)

pub loop-entry-preserved : goal.loop-entry-preserved
loop-entry-preserved c =
    let names = names_of c.args.batch.now.names in
    let blocks = c.args.batch.now.transactions.items in
    let records = c.args.records.now in
    let cut : Cut = record { entry = c.loop-entry.entry; line = c.loop-entry.line } in
    let shown : cut.entry < transactions blocks records = omega (arith, c.loop-entry-test.true, c.requires.within.entry) in
    let y = c.index-records-entry.result in
    let counted : c.len.result ≡ vec_len y.taken = c.len.ensures ∙ ap (λ r. vec_len r.taken) (sym c.index-records-entry.is) in
    let none = transaction_from-end names cut.entry blocks records y (omega (arith, shown)) c.index-records-entry.is c.max-all.result
    (omega (arith, c.max-all.ensures, counted, y.taken.ok.0)) in
    let wrote : string_bytes c.write_transaction.new.out
    ≡ string_bytes c.loop-entry.out ++ transaction_from names blocks records cut.entry cut.line =
    sym (append-nil _) ∙ ap (λ rest. string_bytes c.write_transaction.new.out ++ rest) (sym none)
    ∙ c.in_ok-write_transaction.ensures.lines in (
      after_text _ _ _ _ _ _ c.loop-entry.invariant.0 wrote (lines_from-next names blocks records c.args.objects.now cut shown),
      λ same. omega arith,
      c.in_ok-count_up.ensures ∙ ap tens (omega arith),
    )

pub returns : goal.returns
returns c =
    let names = names_of c.args.batch.now.names in
    let blocks = c.args.batch.now.transactions.items in
    let records = c.args.records.now in
    let objects = c.args.objects.now in
    let lines = lines_from names blocks records objects in
    let to = c.args.to in
    let begun : Cut = record { entry = to.entry; line = c.loop-entry.line } in
    let at : c.loop-entry.entry ≡ to.entry = omega (arith, c.loop-entry-test.false, c.loop-entry.auto.entry-end c.requires.rise.entry) in
    let left : string_bytes c.loop-entry.out ++ lines begun ≡ lines c.args.from =
    ap (λ e. string_bytes c.loop-entry.out ++ lines (record { entry = e; line = c.loop-entry.line })) (sym at) ∙ c.loop-entry.invariant.0 in
    elim c.if-to-count_shown.branch [
      | then-to-count_shown+in_ok-write_transaction-2 w ↦
          let shown : to.entry < transactions blocks records = omega (arith, w.if-to-count_shown.true, c.count_shown.ensures) in
          ap (λ text. string_bytes text ++ lines to) w.out-is
          ∙ ap (λ rest. string_bytes w.write_transaction-then-to-count_shown.new.out ++ rest)
          (lines_from-in names blocks records objects to shown)
          ∙ exchanged (string_bytes c.loop-entry.out) (string_bytes w.write_transaction-then-to-count_shown.new.out)
          (transaction_from names blocks records to.entry c.loop-entry.line) (transaction_from names blocks records to.entry to.line)
          (transactions_from names blocks records (to.entry + 1) ++ objects_from names objects 0) (lines c.args.from)
          w.in_ok-write_transaction-2.ensures.lines
          (ap (λ rest. string_bytes c.loop-entry.out ++ rest) (sym (lines_from-in names blocks records objects begun shown)) ∙ left)
      | else-to-count_shown+in_ok-write_objects w ↦
          let behind : transactions blocks records ≤ to.entry = omega (arith, w.if-to-count_shown.false, c.count_shown.ensures) in
          ap (λ text. string_bytes text ++ lines to) w.out-is
          ∙ ap (λ rest. string_bytes w.write_objects.new.out ++ rest) (lines_from-objects names blocks records objects to behind)
          ∙ w.in_ok-write_objects.ensures
          ∙ ap (λ rest. string_bytes c.loop-entry.out ++ rest) (sym (lines_from-objects names blocks records objects begun behind))
          ∙ left
    ]
