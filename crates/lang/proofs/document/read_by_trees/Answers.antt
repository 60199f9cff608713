use Rattle.std.proofs.Common.{◌≡◌, Some, map, refl, subst, sym, ap, ◌∙◌}
use Rattle.batch.specs.Limits.{IsBatch}
use Rattle.batch.specs.Views.{block_view}
use Rattle.doc_tree.specs.Demand.{no_counts}
use Rattle.doc_tree.specs.Places.{fault_in, first_fault, placed}
use Rattle.doc_tree.specs.Scope.{numbers_of, setting_of}
use Rattle.doc_tree.specs.Spelled.{Document}
use Rattle.doc_tokens.proofs.DocumentLemmas.{failed_first, met_first, same_document}
use Rattle.lang.specs.Reading.{document_of}
use Rattle.lang.proofs.CodeLemmas.{first_fault_code}
use Rattle.lang.proofs.FaultlessBatch.{faultless_is_batch}
use Rattle.lang.proofs.GivenLemmas.{gives_batch, gives_fault}
use Rattle.lang.proofs.RefusedLemmas.{refused_for}
use Rattle.lang.proofs.SinglyLemmas.{matched_err, matched_ok}
use Rattle.lang.proofs.SpelledLemmas.{spelled_as}
use Rattle.lang.proofs.document.read_by_trees.Goals as goal

pub batch_of-requires : goal.batch_of-requires
batch_of-requires c =
    let answer = c.in-Ok-Ok.ensures.ok in
    let d = answer.0 in
    let parts = c.in-Ok-Ok.parts in
    let done = matched_ok c.in-Ok-Ok.field-0 parts _ _ c.in-Ok-Ok.field-0-is answer.2 in
    let last = numbers_of c.read_singly.new.state.numbering in
    let read = same_document d parts.declared.objects (map block_view parts.transactions.items) last
    (setting_of parts.declared) _ c.new-state.ensures.numbers done.1 done.2 in
    subst (λ (shown : Document). IsBatch shown.version shown.start shown.texts shown.transactions) (sym read)
    (faultless_is_batch d (met_first no_counts _ (placed d) refl done.0))

pub returns-in_ok-batch-in-Ok-Ok : goal.returns-in_ok-batch-in-Ok-Ok
returns-in_ok-batch-in-Ok-Ok c =
    let answer = c.in-Ok-Ok.ensures.ok in
    let d = answer.0 in
    let parts = c.in-Ok-Ok.parts in
    let done = matched_ok c.in-Ok-Ok.field-0 parts _ _ c.in-Ok-Ok.field-0-is answer.2 in
    let last = numbers_of c.read_singly.new.state.numbering in
    let read = same_document d parts.declared.objects (map block_view parts.transactions.items) last
    (setting_of parts.declared) _ c.new-state.ensures.numbers done.1 done.2 in
    let batch = c.in_ok-batch-in-Ok-Ok.batch in
    gives_batch _ batch (spelled_as c.args.bytes.now d (document_of batch) answer.1 (met_first no_counts _ (placed d) refl done.0)
    (c.in_ok-batch-in-Ok-Ok.ensures ∙ read))

pub returns-in-Ok-Err : goal.returns-in-Ok-Err
returns-in-Ok-Err c =
    let answer = c.in-Ok-Err.ensures.ok in
    let d = answer.0 in
    let e = c.in-Ok-Err.misread in
    let failed = matched_err c.in-Ok-Err.field-0 e _ _ c.in-Ok-Err.field-0-is answer.2 in
    let fault = c.fault.result in
    let first : first_fault (placed d) ≡ Some fault =
    failed_first no_counts (placed d) fault refl (ap fault_in failed.0 ∙ ap (λ x. Some x) (sym c.fault.ensures)) in
    gives_fault _ fault (λ other. refused_for c.args.bytes.now d fault answer.1 first) (first_fault_code d fault first)
