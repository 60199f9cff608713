-- Ranges that were read alone, put together one after the other.
use Rattle.std.proofs.Common.{◌≡◌, ◌≤◌, ◌+◌, ℕ, drop, List, [], ◌∷◌, ◌++◌, length, map, sym, ap, subst, ◌∙◌, append_assoc, append-nil}
use Rattle.std.proofs.Common.{length-append, arith}
use Rattle.std.proofs.lemmas.List.{length-map}
use Rattle.batch.specs.Views.{block_view}
use Rattle.meaning.specs.Trees.{Block}
use Rattle.doc_rules.specs.Limits.{limits_of}
use Rattle.doc_tree.specs.Scope.{Numbers, Setting, Table}
use Rattle.doc_tree.specs.declared.counts.Counts.{Counts}
use Rattle.doc_tokens.specs.Ranges.{AreRead, Reached, left_by}
use Rattle.doc_merge.specs.AfterRange.{after_range, counts_after}
use Rattle.doc_merge.specs.Parts.{AreCounted, AreParts, items_of, reasons_of, renumbered_part, renumbered_parts}
use Rattle.doc_merge.specs.RangeReads.{AreMerged, reached_alone}
use Rattle.doc_merge.specs.Renumbered.{merged, new_number, numbers_in, renumbered}
use Rattle.doc_merge.specs.Tables.{AreNumbered, all_merged}
use Rattle.doc_merge.specs.declared.parts.Part.{Part}
use Rattle.doc_merge.specs.declared.ranges.RangeRead.{RangeRead}
use Rattle.doc_merge.proofs.AfterRange.{range_after}

-- how far ranges were read
abbrev pub reach : Counts → Numbers → List Block → Reached
reach counts numbers blocks = record { counts = counts; numbers = numbers; blocks = blocks }

-- the texts that are numbered once those of ranges were put after others
abbrev pub together : Numbers → List RangeRead → Numbers
together numbers reads = record {
  items = all_merged numbers.items (map items_of reads);
  reasons = all_merged numbers.reasons (map reasons_of reads);
}

module _ (setting : Setting) where
  -- what one range reaches is its part
  part_reached : (read : RangeRead) (n : ℕ) (base : Counts) (numbers : Numbers) (blocks : List Block) (is rs : List ℕ) (part : Part)
      → length blocks ≡ n → is ≡ numbers_in (merged numbers.items (items_of read)) (items_of read)
      → rs ≡ numbers_in (merged numbers.reasons (reasons_of read)) (reasons_of read)
      → part.blocks.items ≡ read.transactions.items
      → ((k : ℕ) → new_number part.numbers.items.items k ≡ new_number is k)
      → ((k : ℕ) → new_number part.numbers.reasons.items k ≡ new_number rs k)
      → after_range (reach base numbers blocks) (reached_alone read)
      ≡ reach (counts_after n base read.counts) (together numbers (read ∷ [])) (blocks ++ renumbered_part part)
  part_reached read n base numbers blocks is rs part size items reasons same new_items new_reasons i =
      let item = λ (k : ℕ). sym (new_items k ∙ ap (λ l. new_number l k) items) in
      let reason = λ (k : ℕ). sym (new_reasons k ∙ ap (λ l. new_number l k) reasons) in
      record {
        counts = counts_after (size i) base read.counts;
        numbers = together numbers (read ∷ []);
        blocks = blocks ++ map (renumbered (λ k. item k i) (λ k. reason k i)) (map block_view (sym same i));
      }

  -- ranges whose counts, numbers and parts are these
  pub ranges_together : (reads : List RangeRead) (n : ℕ) (base counts : Counts) (numbers : Numbers) (blocks : List Block)
      (is rs : List (List ℕ)) (parts : List Part) → length blocks ≡ n → AreCounted setting.version n base reads counts
      → AreNumbered numbers.items (map items_of reads) is → AreNumbered numbers.reasons (map reasons_of reads) rs
      → AreParts (map (λ read. read.transactions.items) reads) is rs parts
      → AreMerged setting reads (reach base numbers blocks) (reach counts (together numbers reads) (blocks ++ renumbered_parts parts))
  ranges_together [] n base counts numbers blocks is rs [] size counted items reasons are =
      λ i. reach (counted i) numbers (sym (append-nil blocks) i)
  ranges_together [] n base counts numbers blocks is rs (part ∷ parts) size counted items reasons are = absurd are
  ranges_together (read ∷ reads) n base counts numbers blocks [] rs parts size counted items reasons are = absurd items
  ranges_together (read ∷ reads) n base counts numbers blocks (i ∷ is) [] parts size counted items reasons are = absurd reasons
  ranges_together (read ∷ reads) n base counts numbers blocks (i ∷ is) (r ∷ rs) [] size counted items reasons are = absurd are
  ranges_together (read ∷ reads) n base counts numbers blocks (i ∷ is) (r ∷ rs) (part ∷ parts) size counted items reasons are =
      let p = reach base numbers blocks in
      let alone = reached_alone read in
      let now = blocks ++ renumbered_part part in
      let next = reach (counts_after n base read.counts) (together numbers (read ∷ [])) now in
      let same = part_reached read n base numbers blocks i r part size items.0 reasons.0 are.0 are.1 are.2 in
      let many : length now ≡ n + length read.transactions.items = omega (
        arith,
        size,
        length-append blocks (renumbered_part part),
        length-map (map block_view part.blocks.items) (renumbered (new_number part.numbers.items.items) (new_number
            part.numbers.reasons.items)),
        length-map part.blocks.items block_view,
        ap length are.0,
      ) in
      let rest = ranges_together reads (n + length read.transactions.items) (counts_after n base read.counts) counts
      (together numbers (read ∷ [])) now is rs parts many counted.5 items.1 reasons.1 are.3 in (
        next,
        (λ old read_so. subst (AreRead setting old (left_by read.last) p) same
            (range_after setting old (left_by read.last) p alone read_so counted.1 counted.2 counted.3 counted.4)),
        subst (λ bs. AreMerged setting reads next (reach counts (together numbers (read ∷ reads)) bs))
            (append_assoc blocks (renumbered_part part) (renumbered_parts parts)) rest,
      )

-- the numbers of tables that are put after the first
pub head_numbered : (head : Table) (tables : List Table) (numbers : List (List ℕ)) → merged [] head ≡ head
    → AreNumbered [] (head ∷ tables) numbers → AreNumbered head tables (drop 1 numbers)
head_numbered head tables [] own numbered = absurd numbered
head_numbered head tables (first ∷ numbers) own numbered = subst (λ t. AreNumbered t tables numbers) own numbered.1

-- ranges that are counted have no more transactions than a document may have
pub counted_size : (version : ℕ) (reads : List RangeRead) (n : ℕ) (base counts : Counts) (is rs : List (List ℕ)) (parts : List Part)
    → AreCounted version n base reads counts → AreParts (map (λ read. read.transactions.items) reads) is rs parts
    → n ≤ (limits_of version).transactions → n + length (renumbered_parts parts) ≤ (limits_of version).transactions
counted_size version [] n base counts is rs [] counted are few = omega (arith, few)
counted_size version [] n base counts is rs (part ∷ parts) counted are few = absurd are
counted_size version (read ∷ reads) n base counts [] rs parts counted are few = absurd are
counted_size version (read ∷ reads) n base counts (i ∷ is) [] parts counted are few = absurd are
counted_size version (read ∷ reads) n base counts (i ∷ is) (r ∷ rs) [] counted are few = absurd are
counted_size version (read ∷ reads) n base counts (i ∷ is) (r ∷ rs) (part ∷ parts) counted are few =
    let rest = counted_size version reads (n + length read.transactions.items) (counts_after n base read.counts) counts is rs parts
    counted.5 are.3 counted.0 in
    omega (
      arith,
      rest,
      length-append (renumbered_part part) (renumbered_parts parts),
      length-map (map block_view part.blocks.items) (renumbered (new_number part.numbers.items.items) (new_number
          part.numbers.reasons.items)),
      length-map part.blocks.items block_view,
      ap length are.0,
    )
