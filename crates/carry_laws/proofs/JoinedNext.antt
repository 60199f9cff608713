-- What is printed of two documents is read as the next with the objects at the end of the first.
use Rattle.std.proofs.Common.{◌≡◌, ◌<◌, ◌≤◌, ℕ, List, [], length, map, Some, None, Ok, refl, sym, ap, subst, ◌∙◌, arith}
use Rattle.std.proofs.Common.{get_or}
use Rattle.std.specs.Prelude.{⊤}
use Rattle.std.specs.List.{AllByRecursion}
use Rattle.serde_json.specs.Data.{Data}
use Rattle.meaning.specs.Batch.{final_state}
use Rattle.batch.specs.Names.{names_of}
use Rattle.doc_tree.specs.Asked.{objects_in, setting_in, transactions_in, version_in}
use Rattle.doc_tree.specs.Places.{first_fault, placed}
use Rattle.doc_tree.specs.Scope.{Numbers, Table, no_numbers, number_of, with_text}
use Rattle.doc_tree.specs.Spelled.{Document, blocks_of, document_in, parts_in, starts_of}
use Rattle.doc_tree.proofs.DistinctTexts.{objects_differ}
use Rattle.lang.specs.Reading.{reading, value_of}
use Rattle.lang.proofs.FaultlessBatch.{faultless_is_batch}
use Rattle.carry.specs.Carried.{first_unfit}
use Rattle.carry.specs.Joined.{Named, added, first_clash, name_of, starts_into, value_of as start_value, version_into}
use Rattle.carry.specs.Transactions.{joined_text}
use Rattle.carry_laws.specs.Carrying.{IsCarriedVersion, object_names}
use Rattle.carry_laws.specs.Joined.{spelled_starts, starts_data}
use Rattle.carry_laws.specs.Laws.{IsNextWith, JoinedReadLaw, MayBeJoined, text_into}
use Rattle.doc_merge.specs.Renumbered.{number_in}
use Rattle.carry_laws.proofs.Among.{Apart}
use Rattle.carry_laws.proofs.CarriedEnd.{of_reading}
use Rattle.doc_merge.proofs.Growing.{Begins, begins_none, blocks_longer}
use Rattle.doc_rules.specs.Limits.{limits_of}
use Rattle.carry_laws.proofs.JoinedDocument.{Read, declared, few_starts, joined_of, joined_reads, next_of, parts_met, starts_with}
use Rattle.carry_laws.proofs.JoinedLaws.{end_is_named, into_known, starts_are_named}
use Rattle.carry_laws.proofs.JoinedReads.{joined_value}
use Rattle.carry_laws.proofs.JoinedSetting.{joined_differ, joined_names}
use Rattle.carry_laws.proofs.JoinedSpelled.{starts_few, starts_later, starts_names}
use Rattle.carry_laws.proofs.JoinedStarts.{IsApartStart, joined_apart, joined_can_start}
use Rattle.carry_laws.proofs.NamedTexts.{distinct_apart, names_from}
use Rattle.carry_laws.proofs.NextTree.{next_transactions}
use Rattle.doc_merge.proofs.NumberedTexts.{number_back}
use Rattle.doc_merge.proofs.Renumbering.{Sends, blocks_again, number_sent}
use Rattle.carry_laws.proofs.StartTexts.{starts_longer, starts_reasons}
use Rattle.lang.proofs.SpelledLemmas.{reads_as}

-- any two tables, or the same one twice
abbrev Any : Table → Table → Type 0
Any old new = ⊤

abbrev Same : Table → Table → Type 0
Same old new = old ≡ new

-- items by their texts, and reasons as they are
items_sent : (old new : Table) → length old ≤ 4294967295 → Sends Any old new (number_in new old)
items_sent old new few = record {
  one_more = λ text a b beside. tt;
  sent = λ text a b beside here there. number_sent text a b old new few here there;
}

reasons_sent : (old new : Table) → Sends Same old new (λ reason. reason)
reasons_sent old new = record {
  one_more = λ text a b same. ap (with_text text) same;
  sent = λ text a b same here there. ap (number_of text) (sym same);
}

module _ (version : ℕ) (carried : IsCarriedVersion version) (first : Named) (d : Data) (later : version_in d ≤ version)
    (none : first_fault (placed d) ≡ None) (size : length (document_in d).texts.objects ≡ length (document_in d).start)
    (fit : first_unfit version 0 0 (map start_value (starts_with first d)) ≡ None)
    (apart : AllByRecursion IsApartStart (starts_with first d))
    (clash : first_clash 0 (document_in d).start (starts_with first d) ≡ None)
    (read : Read version carried first d later size clash) where
  -- the version that is read of it
  abbrev there : ℕ
  there = version_in (joined_of version first d)

  carried_there : IsCarriedVersion there
  carried_there = subst IsCarriedVersion (declared version carried first d) carried

  fit_there : first_unfit there 0 0 (map start_value (starts_with first d)) ≡ None
  fit_there = subst (λ v. first_unfit v 0 0 (map start_value (starts_with first d)) ≡ None) (declared version carried first d) fit

  -- what the next document numbers, and what the document with the starts numbers
  next_items : Numbers
  next_items = (blocks_of (setting_in d) (starts_of (version_in d) no_numbers (objects_in d)).1 (transactions_in d)).1

  joined_items : Numbers
  joined_items = (blocks_of (setting_in (joined_of version first d)) (spelled_starts there (starts_with first d)).1 (transactions_in d)).1

  -- the next document numbers few items
  next_few : length next_items.items ≤ 4294967295
  unfolding next_items document_in parts_in
  next_few =
      let starts = (starts_longer (version_in d) [] no_numbers (objects_in d)).few in
      let blocks = (blocks_longer (setting_in d) (starts_of (version_in d) no_numbers (objects_in d)).1 (transactions_in d)).few in
      let batch = faultless_is_batch d none in
      let operations = batch.few_operations in
      let nodes = batch.few_nodes in
      let entries = few_starts d (parts_met d none) in
      omega (arith, starts, blocks, operations, nodes, entries)

  -- and so does the document with the starts
  joined_few : length joined_items.items < 4294967295
  unfolding joined_items document_in parts_in
  joined_few =
      let starts = starts_few there carried_there (starts_with first d) fit_there apart in
      let before = (spelled_starts there (starts_with first d)).1 in
      let blocks = (blocks_longer (setting_in (joined_of version first d)) before (transactions_in d)).few in
      let batch = faultless_is_batch (joined_of version first d) read.faultless in
      let operations = batch.few_operations in
      let nodes = batch.few_nodes in
      omega (arith, starts, blocks, operations, nodes)

  -- the one is the other with these starts
  is_next : IsNextWith version (starts_with first d) (document_in d) (number_in joined_items.items next_items.items)
      (document_in (joined_of version first d))
  unfolding next_items joined_items document_in parts_in
  is_next =
      let starts = starts_with first d in
      let ds = transactions_in d in
      let a = (starts_of (version_in d) no_numbers (objects_in d)).1 in
      let b = (spelled_starts there starts).1 in
      let old = next_items in
      let new = joined_items in
      let same = read.same b in
      let begins : Begins (blocks_of (setting_in d) b ds).1 new = subst (λ (p : _ × Numbers). Begins p.1 new) same (begins_none new) in
      let none_before = starts_reasons (version_in d) no_numbers (objects_in d) in
      let none_there = starts_reasons there no_numbers (starts_data starts) in
      let again = blocks_again (number_in new.items old.items) (λ reason. reason) Any Same old new (items_sent old.items new.items next_few)
      (reasons_sent old.reasons new.reasons) (setting_in d) a b ds (tt, none_before ∙ sym none_there) (begins_none old) begins in
      let few = joined_few in
      let grown = (blocks_longer (setting_in (joined_of version first d)) b ds).begins in
      record {
        is_of = sym (declared version carried first d);
        named = starts_names starts;
        places = (
          map name_of (added first (document_in d).texts.objects 0 first.values),
          starts_names starts ∙ joined_names first (next_of d) size,
        );
        objects = starts_later there carried_there starts fit_there apart (document_in (joined_of version first d)).texts grown.items
            (omega (arith, few));
        transactions = ap (λ p. p.0) same ∙ again.0;
        have_texts = (faultless_is_batch (joined_of version first d) read.faultless).named_transactions;
        item_texts = λ i below. number_back (get_or old.items i []) new.items few below;
        reason_texts = ap (λ p. p.1.reasons) same ∙ sym again.1.1;
      }

-- the objects at the end of the first document
abbrev ends_of : Document → Named
ends_of document = record { texts = document.texts; values = final_state document.start document.transactions }

-- their names differ
first_apart : (bytes : List ℕ) (document : Document) → reading bytes ≡ Ok document
    → Apart (object_names (names_of document.texts) 0 (final_state document.start document.transactions))
first_apart bytes document reads =
    let source = of_reading bytes document reads in
    let all = end_is_named document.version bytes document reads (omega arith) in
    let size = all.size in
    let differ = subst (λ (x : Document). Apart x.texts.objects) source.is
    (distinct_apart (document_in source.value).texts.objects (objects_differ source.value source.faultless)) in
    subst Apart (sym (names_from document.texts 0 (final_state document.start document.transactions) (omega (arith, size)))) differ

-- the same of the value of the next document
joined_next : (version : ℕ) → IsCarriedVersion version → (first next : List ℕ) (document : Document) (d : Data)
    → reading first ≡ Ok document → document.version ≤ version → value_of next ≡ Some d → version_in d ≤ version
    → first_fault (placed d) ≡ None
    → MayBeJoined version next (document_in d).start (starts_with (ends_of document) d)
    → (joined : Document) × (items : ℕ → ℕ) × (reading (joined_text version (starts_with (ends_of document) d) next) ≡ Ok joined)
    × IsNextWith version (starts_with (ends_of document) d) (document_in d) items joined
joined_next version carried first next document d reads before value later none may =
    let ends = ends_of document in
    let starts = starts_with ends d in
    let j = joined_of version ends d in
    let one = end_is_named version first document reads before in
    let other = starts_are_named version d later none in
    let ok = joined_can_start version ends (next_of d) one other may.fit in
    let apart = joined_apart version ends (next_of d) one other in
    let differ = joined_differ ends (next_of d) other.size
    (distinct_apart (document_in d).texts.objects (objects_differ d none)) (first_apart first document reads) in
    let read = joined_reads version carried ends d later other.size may.one_kind (parts_met d none) may.few may.fit ok apart differ in
    let text = joined_text version starts next in
    let short = subst (λ v. length text ≤ (limits_of v).bytes) (declared version carried ends d) may.short in (
      document_in j,
      number_in (joined_items version carried ends d later none other.size may.fit apart may.one_kind read).items
          (next_items version carried ends d later none other.size may.fit apart may.one_kind read).items,
      reads_as text j (document_in j) short
          (joined_value version carried.1 starts next (transactions_in d) ok (next_transactions next d value) may.utf8) read.faultless refl,
      is_next version carried ends d later none other.size may.fit apart may.one_kind read,
    )

pub joined_is_next : JoinedReadLaw
unfolding document_in
joined_is_next first next document next_document reads next_reads may =
    let source = of_reading next next_document next_reads in
    let known = into_known first next document next_document reads next_reads in
    subst (λ (x : Document). IsCarriedVersion (version_into document x) → document.version ≤ version_into document x
    → x.version ≤ version_into document x → MayBeJoined (version_into document x) next x.start (starts_into document x)
    → (joined : Document) × (items : ℕ → ℕ) × (reading (text_into document x next) ≡ Ok joined)
    × IsNextWith (version_into document x) (starts_into document x) x items joined) source.is
    (λ carried before later. joined_next (version_into document (document_in source.value)) carried first next document source.value
    reads before source.reads later source.faultless) known.0 known.1 known.2 may
