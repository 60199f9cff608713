use Rattle.std.proofs.Common.{◌≡◌, ◌∙◌, List, ℕ, sym, subst, ap₂}
use Rattle.objects.specs.Entries.{State}
use Rattle.meaning.specs.Shown.{Shown}
use Rattle.meaning.specs.Texts.{text, audit_text}
use Rattle.batch.specs.Names.{names_of}
use Rattle.lang.specs.Reading.{document_of}
use Rattle.rounds.specs.Views.{blocks_of}
use Rattle.ordtx.specs.Answers.{IsShownOf}
use Rattle.ordtx.specs.Texts.{are_shown}
use Rattle.ordtx.specs.declared.texts.RunCounts.{RunCounts}
use Rattle.ordtx.proofs.texts.report_of_batch.Goals as goal

-- what is shown of one kind of report is shown of the same kind
shown_of : (counts one : RunCounts) (bytes written : List ℕ) → counts ≡ one → IsShownOf (are_shown one) bytes written
    → IsShownOf (are_shown counts) bytes written
shown_of counts one bytes written is shown = subst (λ kind. IsShownOf (are_shown kind) bytes written) (sym is) shown

pub returns-in_ok-parts-in-Shown : goal.returns-in_ok-parts-in-Shown
returns-in_ok-parts-in-Shown g c bytes reads =
    let given = c.args.batch.now in
    let rounds = c.in_ok-outcome-in-Shown.outcome.rounds in
    let counts = c.in_ok-outcome-in-Shown.outcome.runs.items in
    let of_parts : List Shown → State → List ℕ = λ shown objects. audit_text (names_of given.names) (blocks_of given) shown objects rounds
    counts in
    shown_of c.args.counts _ bytes _ c.in-Shown.is (record {
      document = document_of given;
      reads = reads;
      rounds = rounds;
      counted = c.in_ok-outcome-in-Shown.ensures.answer.rounds;
      few = c.in_ok-outcome-in-Shown.ensures.answer.few;
      counts = counts;
      all = c.in_ok-outcome-in-Shown.ensures.runs.all;
      each = c.in_ok-outcome-in-Shown.ensures.runs.each;
      is = c.in_ok-parts-in-Shown.ensures
          ∙ ap₂ of_parts c.in_ok-outcome-in-Shown.ensures.answer.records c.in_ok-outcome-in-Shown.ensures.answer.objects;
    })

pub returns-in_ok-parts-in-Omitted : goal.returns-in_ok-parts-in-Omitted
returns-in_ok-parts-in-Omitted g c bytes reads =
    let given = c.args.batch.now in
    let rounds = c.in_ok-outcome-in-Omitted.outcome.rounds in
    let of_parts : List Shown → State → List ℕ = λ shown objects. text (names_of given.names) (blocks_of given) shown objects rounds in
    shown_of c.args.counts _ bytes _ c.in-Omitted.is (record {
      document = document_of given;
      reads = reads;
      rounds = rounds;
      counted = c.in_ok-outcome-in-Omitted.ensures.rounds;
      few = c.in_ok-outcome-in-Omitted.ensures.few;
      is = c.in_ok-parts-in-Omitted.ensures
          ∙ ap₂ of_parts c.in_ok-outcome-in-Omitted.ensures.records c.in_ok-outcome-in-Omitted.ensures.objects;
    })
