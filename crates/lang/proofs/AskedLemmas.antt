-- What is asked of a document, in its three parts.
use Rattle.std.specs.Prelude.{codes}
use Rattle.std.proofs.Common.{◌≡◌, List, [], Ok, Err, ◌∙◌}
use Rattle.serde_json.specs.Data.{Data}
use Rattle.doc_tree.specs.declared.counts.Counts.{Counts}
use Rattle.doc_rules.specs.declared.failure.Failure.{Failure}
use Rattle.doc_tree.specs.Asked.{document_shape_asked, objects_in, setting_in, transactions_in, version_in}
use Rattle.doc_tree.specs.Demand.{Demand, check}
use Rattle.doc_tree.specs.Places.{Placed, found_here, inside, member_named, nothing, objects_placed, placed, seek, transactions_placed}
use Rattle.doc_tree.proofs.PlaceLemmas.{own_first, own_unmet, part_met}

module _ (d : Data) (start : Counts) where
  abbrev shape : List Demand
  shape = document_shape_asked d

  abbrev pub objects : Placed
  objects = objects_placed (version_in d) [] 0 (objects_in d)

  abbrev pub transactions : Placed
  transactions = transactions_placed (setting_in d) 0 (transactions_in d)

  abbrev pub behind : Placed
  behind = inside (member_named (codes "transactions")) transactions nothing

  -- the first fault is of the shape
  pub shape_failed : (e : Failure) → check start shape ≡ Err e → seek start (placed d) ≡ Err (found_here e)
  unfolding placed
  shape_failed e failed = own_unmet start e shape (inside (member_named (codes "objects")) objects behind) failed

  -- the objects and the transactions decide
  pub after_shape : check start shape ≡ Ok start → seek start (placed d) ≡ seek start
      (inside (member_named (codes "objects")) objects behind)
  unfolding placed
  after_shape right = own_first start start shape (inside (member_named (codes "objects")) objects behind) right

  -- the transactions decide
  pub after_objects : (next : Counts) → check start shape ≡ Ok start → seek start objects ≡ Ok next
      → seek start (placed d) ≡ seek next behind
  after_objects next right met = after_shape right ∙ part_met start next (member_named (codes "objects")) objects behind met
