-- What is asked and spelled of a document.
use Rattle.std.specs.Prelude.{codes, nat_le}
use Rattle.std.proofs.Common.{◌≡◌, ℕ, ◌+◌, refl, ap, ◌∙◌, [], Result, Ok, Err}
use Rattle.serde_json.specs.Data.{Data, Items, no_items, item}
use Rattle.serde_json.specs.Events.{items_len}
use Rattle.meaning.specs.declared.limits.TheConstants.{MAX_DEPTH}
use Rattle.doc_rules.specs.Forms.{member_names}
use Rattle.doc_rules.specs.declared.form.Form.TheVariants as form
use Rattle.doc_tree.specs.declared.counts.Counts.{Counts}
use Rattle.doc_tree.specs.Asked.{declared_by, document_shape_asked, version_of}
use Rattle.doc_tree.specs.Demand.{no_counts}
use Rattle.doc_rules.specs.Limits.{limits_of}
use Rattle.doc_tree.specs.Look.{has_only, list_member}
use Rattle.doc_tree.specs.Places.{Found, block_placed, member_named, objects_placed, placed, seek, transaction_placed, transactions_placed}
use Rattle.doc_tree.specs.Scope.{Numbers, Setting, no_numbers}
use Rattle.doc_tree.specs.Spelled.{Document, block_of, blocks_of, document_in as spelled_document, parts_in, starts_of}
use Rattle.doc_tree.proofs.ListLemmas.{kinds_of_starts}
use Rattle.doc_language.specs.Document.{block_in, object_in, read_document, transaction_in, whole_in}
use Rattle.doc_language.specs.Laws.{LanguageLaw, spelled_or_found}
use Rattle.doc_language.specs.Reading.{Seen, counted, each, nothing_seen, then_read}
use Rattle.doc_language.proofs.Joined.{after_is, answer, asks_is, each_is, inside_is, left_by, needs_is, seen_of}
use Rattle.doc_language.proofs.StartLemmas.{objects_read}
use Rattle.doc_language.proofs.StepLemmas.{block_reads}

-- a transaction, and the number of the next
transaction_reads : (setting : Setting) (number : ℕ) (d : Data) (seen : Seen) → transaction_in setting number d seen
    ≡ answer (seek seen.counts (transaction_placed number setting d)) ((block_of setting MAX_DEPTH [] seen.numbers d).0, number + 1)
    (block_of setting MAX_DEPTH [] seen.numbers d).1
unfolding counted
transaction_reads setting number d seen =
    let c = record seen.counts { transaction = number } in
    after_is (block_in setting MAX_DEPTH [] d) _ (seek c (block_placed setting MAX_DEPTH [] d))
    (block_reads setting MAX_DEPTH [] d (seen_of c seen.numbers)) (λ found failed. rw failed) (λ c met. rw met)

-- the transactions from an index on
transactions_read : (setting : Setting) (i : ℕ) (ds : Items) (seen : Seen) → each (transaction_in setting) i (i + 1) ds seen
    ≡ answer (seek seen.counts (transactions_placed setting i ds))
    ((blocks_of setting seen.numbers ds).0, left_by (λ number d. number + 1) (i + 1) ds) (blocks_of setting seen.numbers ds).1
transactions_read setting i no_items seen = refl
transactions_read setting i (item d ds) seen =
    each_is (transaction_in setting) i (i + 1) d ds seen (seek seen.counts (transaction_placed (i + 1) setting d))
    (λ c. seek c (transactions_placed setting (i + 1) ds)) _ _ _ _ (transaction_reads setting (i + 1) d seen)
    (λ c. transactions_read setting (i + 1) ds (seen_of c (block_of setting MAX_DEPTH [] seen.numbers d).1))

-- a document, with what was counted and numbered
document_reads : (d : Data) → whole_in d nothing_seen
    ≡ answer (seek no_counts (placed d)) (spelled_document d) (parts_in no_numbers d).2
unfolding whole_in placed document_shape_asked spelled_document parts_in
document_reads d =
    asks_is (has_only (member_names form.Document) d) _ (λ no. rw no) (λ is. rw is (
    needs_is (version_of d) _ (λ no. rw no) (λ version known. simp known (
    needs_is (list_member (codes "objects") d) _ (λ no. rw no) (λ objects there. simp there (
    needs_is (list_member (codes "transactions") d) _ (λ no. rw no) (λ transactions there. simp there (
    asks_is (nat_le (items_len objects) (limits_of version).objects) _ (λ no. rw no) (λ is. rw is (
    asks_is (nat_le (items_len transactions) (limits_of version).transactions) _ (λ no. rw no) (λ is. rw is (
    inside_is (member_named (codes "objects")) (each (object_in version) 0 [] objects) _
    (seek no_counts (objects_placed version [] 0 objects)) (objects_read version [] 0 objects nothing_seen)
    (λ found failed. rw failed) (λ c met. rw (met, kinds_of_starts version no_numbers objects) (
    let setting = declared_by version objects in
    let numbers = (starts_of version no_numbers objects).1 in
    inside_is (member_named (codes "transactions")) (each (transaction_in setting) 0 1 transactions) _
    (seek c (transactions_placed setting 0 transactions)) (transactions_read setting 0 transactions (seen_of c numbers))
    (λ found failed. rw failed) (λ c met. rw met)))))))))))))))

-- the same without them
told : (r : Result Counts Found) (document : Document) (n : Numbers)
    → then_read (answer r document n) (λ read. Ok read.0) ≡ spelled_or_found r document
told (Ok c) document n = refl
told (Err found) document n = refl

-- the definition of the language and those of its reader say the same
pub documents_read : LanguageLaw
unfolding read_document
documents_read d =
    ap (λ r. then_read r (λ read. Ok read.0)) (document_reads d)
    ∙ told (seek no_counts (placed d)) (spelled_document d) (parts_in no_numbers d).2
