use Rattle.std.proofs.Common.{◌≡◌, refl, subst, sym, ◌∙◌, arith, rules}
use Rattle.batch.specs.Limits.{IsBatch}
use Rattle.doc_tree.specs.Demand.{no_counts}
use Rattle.doc_tree.specs.Places.{placed}
use Rattle.doc_tree.specs.Scope.{no_numbers, setting_of}
use Rattle.doc_tree.specs.Spelled.{Document}
use Rattle.doc_merge.specs.Parts.{reached_by}
use Rattle.doc_tokens.proofs.DocumentLemmas.{met_first, same_document}
use Rattle.lang.specs.AtOnce.{document_merged}
use Rattle.lang.specs.Reading.{document_of}
use Rattle.lang.proofs.FaultlessBatch.{faultless_is_batch}
use Rattle.lang.proofs.RefusedLemmas.{value_known}
use Rattle.lang.proofs.document.pull_side_by_side.Goals as goal

pub merged_batch-requires : goal.merged_batch-requires
merged_batch-requires g c =
    let done = c.in_ok-read.ensures in
    let d = done.0 in
    let declared = c.in_ok-read.read.0 in
    let last = reached_by c.in_ok-read.read.1 in
    let read = same_document d declared.objects last.blocks last.numbers (setting_of declared) no_numbers refl done.3 done.4 in
    subst (λ (shown : Document). IsBatch shown.version shown.start shown.texts shown.transactions) (sym read)
    (faultless_is_batch d (met_first no_counts _ (placed d) refl done.2))

pub returns : goal.returns
returns g c =
    let done = c.in_ok-read.ensures in
    let d = done.0 in
    let declared = c.in_ok-read.read.0 in
    let merged = c.in_ok-read.read.1 in
    let last = reached_by merged in
    let shown : document_of c.in_ok-batch.batch ≡ document_merged declared merged = grind (arith, rules) in
    let read = same_document d declared.objects last.blocks last.numbers (setting_of declared) no_numbers refl done.3 done.4 in (
      d,
      value_known c.args.bytes.now c.in-Some.text.now 127 d (omega arith) c.in-Some.ensures.0 c.in-Some.ensures.1 done.1,
      met_first no_counts _ (placed d) refl done.2,
      shown ∙ read,
    )
