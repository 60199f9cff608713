-- A range of a document that is read alone, put after what was read before it.
use Rattle.std.specs.Prelude.{ℕ, zero, suc, ◌+◌, [], ◌++◌, length, map}
use Rattle.doc_tree.specs.Demand.{no_counts}
use Rattle.doc_tree.specs.Scope.{Numbers, no_numbers}
use Rattle.doc_tree.specs.declared.counts.Counts.{Counts}
use Rattle.doc_tokens.specs.Ranges.{Reached}
use Rattle.doc_merge.specs.Renumbered.{merged, new_number, numbers_in, renumbered}

-- before a range is read alone
abbrev pub nothing_read : Reached
nothing_read = record { counts = no_counts; numbers = no_numbers; blocks = [] }

-- the number of a transaction of a range that comes after n others, the last of which has this number; 0 is none
abbrev pub number_after : ℕ → ℕ → ℕ → ℕ
number_after n last zero = last
number_after n last (suc number) = n + suc number

-- what is counted, after the counts of n transactions
abbrev pub counts_after : ℕ → Counts → Counts → Counts
counts_after n base counts = record {
  transaction = number_after n base.transaction counts.transaction;
  operations = base.operations + counts.operations;
  nodes = base.nodes + counts.nodes;
  starts = base.starts;
}

-- the texts that are numbered, after others
abbrev pub numbers_after : Numbers → Numbers → Numbers
numbers_after base numbers = record { items = merged base.items numbers.items; reasons = merged base.reasons numbers.reasons }

-- what a range reaches, after what was reached before it
abbrev pub after_range : Reached → Reached → Reached
after_range base alone =
    let numbers = numbers_after base.numbers alone.numbers in
    record {
      counts = counts_after (length base.blocks) base.counts alone.counts;
      numbers = numbers;
      blocks = base.blocks ++ map (renumbered (new_number (numbers_in numbers.items alone.numbers.items))
          (new_number (numbers_in numbers.reasons alone.numbers.reasons))) alone.blocks;
    }
