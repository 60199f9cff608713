-- The limits of each version are within those of a batch.
use Rattle.std.specs.Prelude.{nat_le}
use Rattle.std.proofs.Common.{ℕ, ◌≤◌, Bool, true, false, cond, arith}
use Rattle.meaning.specs.declared.limits.TheConstants.{MAX_ENTRIES, MAX_NODES, MAX_OBJECTS, MAX_OPERATIONS, MAX_TRANSACTIONS}
use Rattle.doc_rules.specs.declared.limits.Limits.{Limits}
use Rattle.doc_rules.specs.declared.limits.TheConstants.{MAX_BYTES}
use Rattle.doc_rules.specs.Limits.{limits_of}

-- each limit is at most that of a batch
pub record WithinBatch (limits : Limits) : Type 0 where
  pub bytes : limits.bytes ≤ MAX_BYTES
  pub objects : limits.objects ≤ MAX_OBJECTS
  pub entries : limits.entries ≤ MAX_ENTRIES
  pub transactions : limits.transactions ≤ MAX_TRANSACTIONS
  pub operations : limits.operations ≤ MAX_OPERATIONS
  pub nodes : limits.nodes ≤ MAX_NODES

-- what either of two numbers is within
either_within : (b : Bool) (m n most : ℕ) → m ≤ most → n ≤ most → cond b m n ≤ most
either_within true m n most here there = here
either_within false m n most here there = there

-- the greater of two numbers is not less than either
first_within : (b : Bool) (most less : ℕ) → less ≤ most → cond b most less ≤ most
first_within b most less fewer = either_within b most less most (omega arith) fewer

-- so are those of a version
pub limits_within : (version : ℕ) → WithinBatch (limits_of version)
limits_within version = record {
  bytes = first_within _ MAX_BYTES (limits_of 1).bytes (omega arith);
  objects = first_within _ MAX_OBJECTS (limits_of 1).objects (omega arith);
  entries = first_within _ MAX_ENTRIES (limits_of 1).entries (omega arith);
  transactions = first_within _ MAX_TRANSACTIONS (limits_of 1).transactions (omega arith);
  operations = first_within _ MAX_OPERATIONS _
      (either_within _ (limits_of 4).operations (limits_of 1).operations MAX_OPERATIONS (omega arith) (omega arith));
  nodes = first_within _ MAX_NODES (limits_of 1).nodes (omega arith);
}

-- no version has fewer bytes than the first
pub first_bytes : (version : ℕ) → (limits_of 1).bytes ≤ (limits_of version).bytes
first_bytes version = by (nat_le 5 version)
  where
    by : (b : Bool) → (limits_of 1).bytes ≤ cond b MAX_BYTES (limits_of 1).bytes
    by true = omega arith
    by false = omega arith
