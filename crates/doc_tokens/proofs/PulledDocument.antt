-- A document whose members come in the common order.
use Rattle.std.proofs.Common.{◌≡◌, ◌≤◌, ◌<◌, ℕ, [], Some, refl, ◌∙◌}
use Rattle.std.proofs.Common.{arith, lt-ltb, le-leb}
use Rattle.std.specs.Prelude.{codes}
use Rattle.serde_json.specs.Data.{Items}
use Rattle.serde_json.specs.Events.{items_len}
use Rattle.doc_tree.specs.declared.counts.Counts.{Counts}
use Rattle.doc_tree.specs.Answer.{AreMet, IsMet}
use Rattle.doc_tokens.specs.Pulled.{in_order}
use Rattle.doc_tree.specs.Asked.{declared_by, document_shape_asked, setting_in, version_in}
use Rattle.doc_tree.specs.Asked.{version_of}
use Rattle.doc_rules.specs.Limits.{limits_of}
use Rattle.doc_rules.specs.declared.limits.TheConstants.{LAST_VERSION}
use Rattle.doc_tree.specs.Places.{inside, member_named, nothing, objects_placed, placed, transactions_placed}
use Rattle.doc_tree.proofs.PlaceLemmas.{own_first, part_met}

module _ (version : ℕ) (os ts : Items) (some : 1 ≤ version) (known : version ≤ LAST_VERSION) where
  pub version_read : version_of (in_order version os ts) ≡ Some version
  version_read =
      let small : version < 9223372036854775808 = omega arith in
      rw (lt-ltb _ _ small, le-leb _ _ some, le-leb _ _ known) refl

  pub version_is : version ≡ version_in (in_order version os ts)
  version_is = rw version_read refl

  shape_met : (start : Counts) → items_len os ≤ (limits_of version).objects → items_len ts ≤ (limits_of version).transactions
      → IsMet start (document_shape_asked (in_order version os ts)) start
  unfolding document_shape_asked
  shape_met start few fewer = rw (version_read, le-leb _ _ few, le-leb _ _ fewer) refl

  pub in_order_met : (start mid next : Counts) → items_len os ≤ (limits_of version).objects
      → items_len ts ≤ (limits_of version).transactions
      → AreMet start (objects_placed version [] 0 os) mid → AreMet mid (transactions_placed (declared_by version os) 0 ts) next
      → AreMet start (placed (in_order version os ts)) next
  unfolding placed
  in_order_met start mid next few fewer first second =
      let d = in_order version os ts in
      let transactions = transactions_placed (setting_in d) 0 ts in
      let rest = inside (member_named (codes "transactions")) transactions nothing in
      let objects = objects_placed (version_in d) [] 0 os in
      own_first start start (document_shape_asked d) (inside (member_named (codes "objects")) objects rest) (shape_met start few fewer)
      ∙ part_met start mid (member_named (codes "objects")) objects rest (rw version_read first)
      ∙ part_met mid next (member_named (codes "transactions")) transactions nothing (rw version_read second)
