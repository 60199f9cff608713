-- What a block asks and spells, by its items.
use Rattle.std.proofs.Common.{◌≡◌, ℕ, zero, suc, None, Some, Err, refl, arith}
use Rattle.serde_json.specs.Data.{Data, Items}
use Rattle.serde_json.specs.Find.{as_array}
use Rattle.batch.specs.Views.{steps_of}
use Rattle.doc_rules.specs.declared.rule.Rule.TheVariants.{Depth, Shape}
use Rattle.doc_rules.specs.declared.rule.ShapeRule.TheVariants.{Block}
use Rattle.doc_tree.specs.declared.counts.Counts.{Counts}
use Rattle.doc_tree.specs.Demand.{broken_at}
use Rattle.doc_tree.specs.Places.{block_placed, found_here, seek, steps_placed}
use Rattle.doc_tree.specs.Scope.{Numbers, Scope, Setting}
use Rattle.doc_tree.specs.Spelled.{block_of, spelled_map, steps_spelled}

module _ (setting : Setting) (scope : Scope) (d : Data) where
  pub no_array : (n : ℕ) (c : Counts) → as_array d ≡ None → seek c (block_placed setting n scope d)
      ≡ Err (found_here (broken_at (Shape Block) c))
  unfolding block_placed
  no_array zero c none = rw none refl
  no_array (suc n) c none = rw none refl

  pub too_deep : (n : ℕ) (c : Counts) (ds : Items) → n ≡ 0 → Some ds ≡ as_array d → seek c (block_placed setting n scope d) ≡ Err
      (found_here (broken_at Depth c))
  unfolding block_placed
  too_deep zero c ds e is = rw (← is) refl
  too_deep (suc n) c ds e is = absurd (omega arith)

  pub block_asks : (m n : ℕ) (ds : Items) → n ≡ suc m → Some ds ≡ as_array d → block_placed setting n scope d ≡ steps_placed
      (block_placed setting m) setting scope 0 ds
  unfolding block_placed
  block_asks m n ds e is = rw (e, ← is) refl

  pub block_spells : (m n : ℕ) (numbers : Numbers) (ds : Items) → n ≡ suc m → Some ds ≡ as_array d → block_of setting n scope numbers d
      ≡ spelled_map steps_of (steps_spelled (block_of setting m) setting scope numbers ds)
  unfolding block_of
  block_spells m n numbers ds e is = rw (e, ← is) refl
