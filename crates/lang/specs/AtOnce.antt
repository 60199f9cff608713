-- Ranges of a document that threads read, and the document that they are together.
use Rattle.std.specs.Prelude.{⊤, ◌≡◌, ◌<◌, ◌⊎◌, ℕ, ◌+◌, List, [], ◌∷◌, length, map, slice_index}
use Rattle.batch.specs.Names.{texts_of}
use Rattle.batch.specs.Views.{block_view}
use Rattle.doc_tree.specs.Scope.{Setting}
use Rattle.doc_tree.specs.Spelled as spelled
use Rattle.doc_tree.specs.declared.declared.Declared.{Declared}
use Rattle.doc_tokens.specs.declared.ranges.RangeEnd.TheVariants.{Transaction, Document}
use Rattle.doc_merge.specs.RangeReads.{IsReadAlone}
use Rattle.doc_merge.specs.declared.ranges.MergedRanges.{MergedRanges}
use Rattle.doc_merge.specs.declared.ranges.RangeRead.{RangeRead}

-- each range of the text was read alone
abbrev pub AreReadAlone : Setting → List ℕ → List RangeRead → Type 0
AreReadAlone setting text [] = ⊤
AreReadAlone setting text (read ∷ reads) = IsReadAlone setting text read × AreReadAlone setting text reads

-- the range ends with the document and the text
abbrev pub EndsText : List ℕ → RangeRead → Type 0
EndsText text read = (read.last ≡ Document) × (read.end ≡ length text)

-- the range ends after a transaction, at a comma
abbrev pub EndsAtComma : List ℕ → RangeRead → Type 0
EndsAtComma text read = (read.last ≡ Transaction) × (read.end < length text) × (slice_index text read.end ≡ 44)

-- The first range begins here, and each other one right after the comma that ends the one before it. The last one ends the text.
abbrev pub Follow : List ℕ → ℕ → List RangeRead → Type 0
Follow text begin [] = ⊥
Follow text begin (read ∷ reads) =
    (read.begin ≡ begin) × ((EndsText text read × (reads ≡ [])) ⊎ (EndsAtComma text read × Follow text (read.end + 1) reads))

-- what a document is seen as that declares this, and whose ranges were put together
abbrev pub document_merged : Declared → MergedRanges → spelled.Document
document_merged declared merged = record {
  version = declared.version;
  start = declared.objects;
  texts = record {
    objects = texts_of declared.names.keys;
    items = texts_of merged.items.items;
    reasons = texts_of merged.reasons.items;
  };
  transactions = map block_view merged.transactions.items;
}
