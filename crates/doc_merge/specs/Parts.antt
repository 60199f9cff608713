-- Ranges of a document whose items and reasons get new numbers.
use Rattle.std.specs.Prelude.{⊤, ◌≡◌, ◌≤◌, ◌+◌, ℕ, List, [], ◌∷◌, ◌++◌, length, map}
use Rattle.batch.specs.Names.{texts_of}
use Rattle.batch.specs.Views.{block_view}
use Rattle.batch.specs.declared.tree.Block.{Block as Transaction}
use Rattle.meaning.specs.Trees.{Block}
use Rattle.doc_rules.specs.Limits.{limits_of}
use Rattle.doc_tokens.specs.Ranges.{Reached}
use Rattle.doc_tree.specs.Scope.{Table}
use Rattle.doc_tree.specs.declared.counts.Counts.{Counts}
use Rattle.doc_merge.specs.AfterRange.{counts_after}
use Rattle.doc_merge.specs.declared.tables.TheConstants.{MOST_TEXTS}
use Rattle.doc_merge.specs.Renumbered.{new_number, renumbered}
use Rattle.doc_merge.specs.declared.parts.Part.{Part}
use Rattle.doc_merge.specs.declared.ranges.MergedRanges.{MergedRanges}
use Rattle.doc_merge.specs.declared.ranges.RangeRead.{RangeRead}

-- the blocks of a range under their new numbers
abbrev pub renumbered_part : Part → List Block
renumbered_part part = map (renumbered (new_number part.numbers.items.items) (new_number part.numbers.reasons.items))
    (map block_view part.blocks.items)

-- those of ranges, one after the other
abbrev pub renumbered_parts : List Part → List Block
renumbered_parts [] = []
renumbered_parts (part ∷ parts) = renumbered_part part ++ renumbered_parts parts

-- the blocks of ranges as they are
abbrev pub blocks_in : List Part → List Block
blocks_in [] = []
blocks_in (part ∷ parts) = map block_view part.blocks.items ++ blocks_in parts

-- the texts of a range's items and of its reasons
abbrev pub items_of : RangeRead → Table
items_of read = texts_of read.numbering.items.keys

abbrev pub reasons_of : RangeRead → Table
reasons_of read = texts_of read.numbering.reasons.keys

-- Ranges are counted one after the other, after so many transactions and these counts, within the limits of a version and of numbers.
abbrev pub AreCounted : ℕ → ℕ → Counts → List RangeRead → Counts → Type 0
AreCounted version n base [] counts = base ≡ counts
AreCounted version n base (read ∷ reads) counts =
    (n + length read.transactions.items ≤ (limits_of version).transactions)
    × (base.operations + read.counts.operations ≤ (limits_of version).operations)
    × (base.nodes + read.counts.nodes ≤ (limits_of version).nodes)
    × (length (items_of read) ≤ MOST_TEXTS)
    × (length (reasons_of read) ≤ MOST_TEXTS)
    × AreCounted version (n + length read.transactions.items) (counts_after n base read.counts) reads counts

-- these are the new numbers
abbrev pub AreNew : List ℕ → List ℕ → Type 0
AreNew numbers all = (n : ℕ) → new_number numbers n ≡ new_number all n

-- the parts that transactions of ranges are, with these numbers of their items and of their reasons
abbrev pub AreParts : List (List Transaction) → List (List ℕ) → List (List ℕ) → List Part → Type 0
AreParts [] items reasons [] = ⊤
AreParts (blocks ∷ ranges) (is ∷ items) (rs ∷ reasons) (part ∷ parts) =
    (part.blocks.items ≡ blocks) × AreNew part.numbers.items.items is × AreNew part.numbers.reasons.items rs
    × AreParts ranges items reasons parts
AreParts ranges items reasons parts = ⊥

-- how far ranges were read that were put together
abbrev pub reached_by : MergedRanges → Reached
reached_by all = record {
  counts = all.counts;
  numbers = record { items = texts_of all.items.items; reasons = texts_of all.reasons.items };
  blocks = map block_view all.transactions.items;
}
