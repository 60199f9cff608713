use Rattle.std.proofs.Common.{◌≡◌, ◌<◌, ℕ}
use Rattle.doc_merge.specs.Renumbered.{new_number}
use Rattle.doc_merge.proofs.tables.are_places.Given as goal

-- the numbers so far are their own places
abbrev pub invariant-loop-place : goal.invariant-loop-place
invariant-loop-place l = (n : ℕ) → n < l.place → new_number l.numbers n ≡ n
