-- What is asked of the shape of a document and of its steps, test by test.
use Rattle.std.proofs.Common.{◌≡◌, true, false, Ok, Err, refl}
use Rattle.std.specs.Prelude.{codes, is_some, nat_le}
use Rattle.serde_json.specs.Data.{Data}
use Rattle.serde_json.specs.Events.{items_len}
use Rattle.doc_tree.specs.declared.counts.Counts.{Counts}
use Rattle.doc_rules.specs.Forms.{member_names}
use Rattle.doc_rules.specs.declared.form.Form.TheVariants as form
use Rattle.doc_rules.specs.declared.rule.CountRule.TheVariants as counted
use Rattle.doc_rules.specs.declared.rule.Rule.TheVariants.{Few, Shape}
use Rattle.doc_rules.specs.declared.rule.ShapeRule.TheVariants.{Members, Objects, Transactions, Version}
use Rattle.doc_tree.specs.Asked.{document_shape_asked, objects_in, transactions_in, version_in, version_of}
use Rattle.doc_tree.specs.Demand.{broken_at, check}
use Rattle.doc_rules.specs.declared.limits.Limits.{Limits}
use Rattle.doc_tree.specs.Look.{has_only, list_member}
use Rattle.doc_rules.specs.Limits.{limits_of}

-- ---- a document

module _ (c : Counts) (d : Data) where
  abbrev pub only_parts : Type 0
  only_parts = has_only (member_names form.Document) d ≡ true

  abbrev pub versioned : Type 0
  versioned = is_some (version_of d) ≡ true

  -- the limits of its version
  abbrev pub limits : Limits
  limits = limits_of (version_in d)

  -- it has another member
  pub other_part : has_only (member_names form.Document) d ≡ false
      → check c (document_shape_asked d) ≡ Err (broken_at (Shape (Members form.Document)) c)
  unfolding document_shape_asked
  other_part only = rw only refl

  -- it has no version
  pub no_version : only_parts → is_some (version_of d) ≡ false → check c (document_shape_asked d) ≡ Err (broken_at (Shape Version) c)
  unfolding document_shape_asked
  no_version only version = rw (only, version) refl

  -- it has no objects
  pub no_objects : only_parts → versioned → is_some (list_member (codes "objects") d) ≡ false
      → check c (document_shape_asked d) ≡ Err (broken_at (Shape Objects) c)
  unfolding document_shape_asked
  no_objects only version objects = rw (only, version, objects) refl

  -- it has no transactions
  pub no_transactions : only_parts → versioned → is_some (list_member (codes "objects") d) ≡ true
      → is_some (list_member (codes "transactions") d) ≡ false
      → check c (document_shape_asked d) ≡ Err (broken_at (Shape Transactions) c)
  unfolding document_shape_asked
  no_transactions only version objects transactions = rw (only, version, objects, transactions) refl

  -- it has too many objects
  pub many_objects : only_parts → versioned → is_some (list_member (codes "objects") d) ≡ true
      → is_some (list_member (codes "transactions") d) ≡ true → nat_le (items_len (objects_in d)) limits.objects ≡ false
      → check c (document_shape_asked d) ≡ Err (broken_at (Few (counted.Objects (version_in d))) c)
  unfolding document_shape_asked
  many_objects only version objects transactions few = rw (only, version, objects, transactions, few) refl

  -- it has too many transactions
  pub many_transactions : only_parts → versioned → is_some (list_member (codes "objects") d) ≡ true
      → is_some (list_member (codes "transactions") d) ≡ true → nat_le (items_len (objects_in d)) limits.objects ≡ true
      → nat_le (items_len (transactions_in d)) limits.transactions ≡ false
      → check c (document_shape_asked d) ≡ Err (broken_at (Few (counted.Transactions (version_in d))) c)
  unfolding document_shape_asked
  many_transactions only version objects transactions few lesser = rw (only, version, objects, transactions, few, lesser) refl

  -- it has the right shape
  pub shape_met : only_parts → versioned → is_some (list_member (codes "objects") d) ≡ true
      → is_some (list_member (codes "transactions") d) ≡ true → nat_le (items_len (objects_in d)) limits.objects ≡ true
      → nat_le (items_len (transactions_in d)) limits.transactions ≡ true → check c (document_shape_asked d) ≡ Ok c
  unfolding document_shape_asked
  shape_met only version objects transactions few lesser = rw (only, version, objects, transactions, few, lesser) refl
