-- The lines of a report from one of its cuts on. No public contract names them.
use Rattle.std.specs.Prelude.{◌≡◌, ℕ, zero, suc, ◌+◌, ◌-◌, ◌<◌, ◌≤◌, nat_lt, if◌then◌else◌, min, List, [], ◌∷◌, ◌++◌, codes, drop, length}
use Rattle.std.specs.Prelude.{map}
use Rattle.std.specs.Prelude.{slice_index_or}
use Rattle.std.specs.Fmt.{decimal}
use Rattle.objects.specs.Entries.{State}
use Rattle.meaning.specs.declared.end.End.{End}
use Rattle.meaning.specs.Shown.{AtEnd}
use Rattle.meaning.specs.Words.{Naming}
use Rattle.meaning.specs.Texts.{line, outcome_text, steps_text, transactions_text, objects_text}
use Rattle.batch.specs.Views.{block_view, record_view, steps_view, taken_view, before_end}
use Rattle.batch.specs.declared.tree.Block.{Block}
use Rattle.batch.specs.declared.tree.Step.{Step}
use Rattle.batch.specs.declared.record.Record.{Record}
use Rattle.batch.specs.declared.record.Taken.{Taken}
use Rattle.report.specs.declared.cuts.Cut.{Cut}

-- the lines of the steps of a block at a path from the i-th on, counted from 0
unfoldable pub steps_from : Naming → List ℕ → ℕ → List Step → List Taken → End → List ℕ
steps_from names path i steps taken outcome = steps_text names path (i + 1) (steps_view (drop i steps))
    (before_end (map taken_view (drop i taken)) (AtEnd outcome))

-- the lines of the first of these transactions, of this number, from the i-th on: its own, and then one for each step
abbrev pub first_from : Naming → ℕ → List Block → List Record → ℕ → List ℕ
first_from names n (block ∷ blocks) (done ∷ records) zero =
    line (codes "T " ++ decimal n ++ outcome_text names done.outcome)
    ++ steps_from names (decimal n) 0 block.steps.items done.taken.items done.outcome
first_from names n (block ∷ blocks) (done ∷ records) (suc i) = steps_from names (decimal n) i block.steps.items done.taken.items
    done.outcome
first_from names n blocks records i = []

-- those of the e-th transaction, counted from 0
unfoldable pub transaction_from : Naming → List Block → List Record → ℕ → ℕ → List ℕ
transaction_from names blocks records e i = first_from names (e + 1) (drop e blocks) (drop e records) i

-- the lines of the transactions from the e-th on
unfoldable pub transactions_from : Naming → List Block → List Record → ℕ → List ℕ
transactions_from names blocks records e = transactions_text names (e + 1) (map block_view (drop e blocks))
    (map record_view (drop e records))

-- the lines of the objects from the i-th on, counted from 0
unfoldable pub objects_from : Naming → State → ℕ → List ℕ
objects_from names objects i = objects_text names i (drop i objects)

-- how many transactions have lines
abbrev pub transactions : List Block → List Record → ℕ
transactions blocks records = min (length blocks) (length records)

-- all objects together are the last entry
abbrev pub last_cut : List Block → List Record → State → Cut
last_cut blocks records objects = record { entry = transactions blocks records; line = length objects }

-- the lines from a cut on
unfoldable pub lines_from : Naming → List Block → List Record → State → Cut → List ℕ
lines_from names blocks records objects cut =
    if nat_lt cut.entry (transactions blocks records)
    then (transaction_from names blocks records cut.entry cut.line
    ++ (transactions_from names blocks records (cut.entry + 1) ++ objects_from names objects 0))
    else objects_from names objects cut.line

-- the first cut isn't after the second
pub record IsBefore (from to : Cut) : Type 0 where
  pub entry : from.entry ≤ to.entry
  pub line : from.entry ≡ to.entry → from.line ≤ to.line

-- the first cut
abbrev pub start : Cut
start = record { entry = 0; line = 0 }

-- The parts of a report begin and end at these cuts, of which this is the last.
pub record AreCuts (end_cut : Cut) (cuts : List Cut) : Type 0 where
  pub some : 1 < length cuts
  pub first : slice_index_or cuts 0 start ≡ start
  pub rise : (i : ℕ) → i + 1 < length cuts → IsBefore (slice_index_or cuts i start) (slice_index_or cuts (i + 1) start)
  pub within : (i : ℕ) → i < length cuts → IsBefore (slice_index_or cuts i start) end_cut
  pub last : slice_index_or cuts (length cuts - 1) start ≡ end_cut

-- the text of the i-th part: before the lines from the next cut on it has those from its own
abbrev pub IsPartBetween : (Cut → List ℕ) → List Cut → ℕ → List ℕ → Type 0
IsPartBetween lines cuts i text = text ++ lines (slice_index_or cuts (i + 1) start) ≡ lines (slice_index_or cuts i start)
