-- What was read of a range of a document alone: its transactions are numbered from 1, and nothing was counted or numbered before.
use Rattle.std.specs.Prelude.{◌≡◌, ◌≤◌, ℕ, List, [], ◌∷◌, length, map, slice_range}
use Rattle.json.specs.Lex.{tokens}
use Rattle.json.specs.Token.{Token, begin_array}
use Rattle.batch.specs.Views.{block_view}
use Rattle.doc_tree.specs.Scope.{Setting, numbers_of}
use Rattle.doc_tokens.specs.Ranges.{AreRead, Reached, left_by}
use Rattle.doc_merge.specs.AfterRange.{nothing_read}
use Rattle.doc_merge.specs.declared.ranges.RangeRead.{RangeRead}

-- how far a range was read alone
abbrev pub reached_alone : RangeRead → Reached
reached_alone read = record {
  counts = read.counts;
  numbers = numbers_of read.numbering;
  blocks = map block_view read.transactions.items;
}

-- the range of the text
abbrev pub text_of : List ℕ → RangeRead → List ℕ
text_of text read = slice_range text read.begin read.end

-- It is a range of the text that begins with a transaction, and this was read of it.
pub record IsReadAlone (setting : Setting) (text : List ℕ) (read : RangeRead) : Type 0 where
  pub ordered : read.begin ≤ read.end
  pub within : read.end ≤ length text
  pub rest : List Token
  pub begins : tokens (text_of text read) ≡ begin_array ∷ rest
  pub read_so : AreRead setting (tokens (text_of text read)) (left_by read.last) nothing_read (reached_alone read)

-- What was read of a range alone is read from p to q.
abbrev pub IsMerged : Setting → RangeRead → Reached → Reached → Type 0
IsMerged setting read p q = (old : List Token) → AreRead setting old (left_by read.last) nothing_read (reached_alone read)
    → AreRead setting old (left_by read.last) p q

-- Ranges that were read alone are read one after the other, from p to q.
abbrev pub AreMerged : Setting → List RangeRead → Reached → Reached → Type 0
AreMerged setting [] p q = p ≡ q
AreMerged setting (read ∷ reads) p q = (next : Reached) × IsMerged setting read p next × AreMerged setting reads next q
