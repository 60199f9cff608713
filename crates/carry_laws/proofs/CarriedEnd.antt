-- The objects with which a document that was read ends can be carried over.
use Rattle.std.proofs.Common.{◌≡◌, ◌≤◌, ℕ, suc, Bool, true, false, cond, List, [], ◌++◌, length, Option, Some, None, Ok, Err, refl, sym}
use Rattle.std.proofs.Common.{ap, subst, ◌∙◌, arith}
use Rattle.std.specs.Prelude.{codes, nat_lt}
use Rattle.std.proofs.lemmas.List.{length-map}
use Rattle.serde_json.specs.Data.{Data, Items, item, no_items}
use Rattle.serde_json.specs.Events.{items_len}
use Rattle.objects.specs.Entries.{State}
use Rattle.objects.specs.Objects.{kind_of_value}
use Rattle.meaning.specs.Batch.{final_state}
use Rattle.meaning.specs.Trees.{Block}
use Rattle.meaning.proofs.Keeping.{batch_keeps}
use Rattle.batch.specs.Names.{AreNames, names_of}
use Rattle.faults.specs.Faults.{wrong_outside}
use Rattle.lang.specs.Reading.{Document, most_bytes, reading, spelled_by, value_of}
use Rattle.doc_rules.specs.Limits.{limits_of}
use Rattle.doc_tree.specs.Asked.{document_shape_asked, kind_in, objects_in, part, setting_in, transactions_in, version_in}
use Rattle.doc_tree.specs.Demand.{no_counts}
use Rattle.doc_tree.specs.Scope.{Numbers, no_numbers}
use Rattle.doc_tree.specs.Spelled.{document_in, parts_in, start_of, starts_of}
use Rattle.doc_tree.proofs.Demands.{asked, faultless, objects_asked, transactions_asked}
use Rattle.doc_tree.proofs.MetLemmas.{first_met, passed}
use Rattle.faults.specs.declared.fault.Wrong.TheVariants.{TooMany}
use Rattle.doc_tree.proofs.DistinctTexts.{items_differ, objects_differ}
use Rattle.lang.proofs.FaultlessBatch.{faultless_is_batch, few}
use Rattle.carry.specs.Carried.{carried_version, first_unfit}
use Rattle.carry_laws.specs.Carrying.{CanBeCarried}
use Rattle.carry_laws.specs.Laws.{CarriedEndLaw, end_of}
use Rattle.carry_laws.proofs.CarriedLaws.{carried_is_read}
use Rattle.carry_laws.proofs.LaterNames.{names_later}
use Rattle.carry_laws.proofs.LimitsSince.{limits_since}
use Rattle.carry_laws.proofs.NamedEnd.{end_named}
use Rattle.carry_laws.proofs.NamedTexts.{named_objects_fit}
use Rattle.carry_laws.proofs.Versions.{IsVersion, carried_known, version_known}
use Rattle.doc_tree.specs.Places.{first_fault, placed}
use Rattle.lang.proofs.SpelledLemmas.{spelled_faultless}

-- a document that was read is that of the value, which has no fault
pub record IsOf (read : Option Data) (document : Document) : Type 0 where
  pub value : Data
  pub reads : read ≡ Some value
  pub faultless : first_fault (placed value) ≡ None
  pub is : document_in value ≡ document

of_value : (document : Document) (d : Data) → spelled_by (Some d) ≡ Ok document → IsOf (Some d) document
of_value document d e =
    let spelled = spelled_faultless d document e in
    record { value = d; reads = refl; faultless = spelled.0; is = spelled.1 }

of_bytes : (document : Document) (large : Bool) (o : Option Data) → cond large (Err (wrong_outside TooMany)) (spelled_by o) ≡ Ok document
    → IsOf o document
of_bytes document true o e = cc
of_bytes document false None e = cc
of_bytes document false (Some d) e = of_value document d e

pub of_reading : (bytes : List ℕ) (document : Document) → reading bytes ≡ Ok document → IsOf (value_of bytes) document
unfolding reading
of_reading bytes document e = of_bytes document (nat_lt (most_bytes (value_of bytes)) (length bytes)) (value_of bytes) e

-- as many objects at the end as at the start
pub same_length : (start : State) (batch : List Block) → length (final_state start batch) ≡ length start
same_length start batch =
    let same = (batch_keeps start batch (length batch) (omega arith)).same_kinds in
    sym (length-map (final_state start batch) kind_of_value) ∙ ap length same ∙ length-map start kind_of_value

-- its version is one of those that there are
pub read_version : (bytes : List ℕ) (document : Document) → reading bytes ≡ Ok document → IsVersion document.version
unfolding document_in
read_version bytes document reads =
    let source = of_reading bytes document reads in
    subst (λ (read : Document). IsVersion read.version) source.is (version_known source.value)

-- as many objects as its list has
many_starts : (version : ℕ) (numbers : Numbers) (ds : Items) → length (starts_of version numbers ds).0 ≡ items_len ds
many_starts version numbers no_items = refl
many_starts version numbers (item d ds) =
    ap suc (many_starts version (start_of (kind_in version d) numbers (part (codes "start") d)).1 ds)

-- as many objects start it as may start a document of its version
few_objects : (d : Data) → first_fault (placed d) ≡ None → length (document_in d).start ≤ (limits_of (version_in d)).objects
unfolding asked document_in parts_in
few_objects d none =
    let all = faultless d none in
    let A = document_shape_asked d in
    let B = objects_asked (version_in d) [] (objects_in d) in
    let C = transactions_asked 1 (setting_in d) (transactions_in d) in
    let met = (passed (asked d) no_counts all.0 all.1).met in
    let here = (few d (first_met A B (first_met (A ++ B) C met))).0 in
    omega (arith, here, many_starts (version_in d) no_numbers (objects_in d))

-- names in the document of a value are names of each version that isn't an earlier one
pub names_since : (d : Data) (version : ℕ) → version_in d ≤ version → (texts : List (List ℕ)) → AreNames (document_in d).version texts
    → AreNames version texts
unfolding document_in
names_since d version later texts names = names_later (version_in d) version later texts names

module _ (version : ℕ) where
  can_be_carried : (d : Data) → version_in d ≤ version → first_fault (placed d) ≡ None
      → first_unfit version 0 0 (final_state (document_in d).start (document_in d).transactions) ≡ None
      → CanBeCarried version (names_of (document_in d).texts) (final_state (document_in d).start (document_in d).transactions)
  can_be_carried d later none fit =
      let document = document_in d in
      let batch = faultless_is_batch d none in
      let values = final_state document.start document.transactions in
      let size = same_length document.start document.transactions in
      let few = few_objects d none in
      let most = (limits_since (version_in d) version later).objects in
      let names = names_since d version later in
      named_objects_fit version document.texts values
      (names document.texts.objects batch.object_names, objects_differ d none)
      (names document.texts.items batch.item_names, items_differ d)
      (batch.named ∙ sym size)
      (end_named document.texts document.start document.transactions (length document.transactions) batch.named_starts
      batch.named_transactions)
      (omega (arith, size, few, most)) fit

  -- the objects at the end of a document that was read
  end_can : (bytes : List ℕ) (document : Document) → reading bytes ≡ Ok document → document.version ≤ version
      → first_unfit version 0 0 (end_of document) ≡ None → CanBeCarried version (names_of document.texts) (end_of document)
  unfolding document_in
  end_can bytes document reads =
      let source = of_reading bytes document reads in
      subst (λ (read : Document). read.version ≤ version → first_unfit version 0 0 (end_of read) ≡ None
      → CanBeCarried version (names_of read.texts) (end_of read)) source.is
      (λ later fit. can_be_carried source.value later source.faultless fit)

pub end_is_read : CarriedEndLaw
end_is_read bytes document reads fit =
    let version = carried_version document.version in
    carried_is_read version (names_of document.texts) (end_of document)
    (carried_known document.version (read_version bytes document reads).1)
    (end_can version bytes document reads (omega arith) fit)
