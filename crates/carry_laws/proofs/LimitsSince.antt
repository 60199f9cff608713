-- The limits of a version are within those of each later one.
use Rattle.std.proofs.Common.{◌≡◌, ℕ, ◌≤◌, Bool, true, false, cond, refl, arith}
use Rattle.std.specs.Prelude.{nat_le}
use Rattle.std.proofs.lemmas.Bool.{leb-true, leb-false}
use Rattle.meaning.specs.declared.limits.TheConstants.{MAX_ENTRIES, MAX_NODES, MAX_OBJECTS, MAX_OPERATIONS, MAX_TRANSACTIONS}
use Rattle.doc_rules.specs.Limits.{limits_of, since}
use Rattle.doc_rules.specs.declared.limits.Limits.{Limits}
use Rattle.doc_rules.specs.declared.limits.TheConstants.{MAX_BYTES}

-- each limit is at most that of the other limits
pub record Within (limits most : Limits) : Type 0 where
  pub bytes : limits.bytes ≤ most.bytes
  pub objects : limits.objects ≤ most.objects
  pub entries : limits.entries ≤ most.entries
  pub transactions : limits.transactions ≤ most.transactions
  pub operations : limits.operations ≤ most.operations
  pub nodes : limits.nodes ≤ most.nodes

-- a limit that versions have since one of them is no less in a later version, where it was none before
grows : (first old new limit less more : ℕ) → old ≤ new → less ≤ limit → less ≤ more
    → since first old limit less ≤ since first new limit more
grows first old new limit less more later most before = by (nat_le first old) (nat_le first new) refl refl
  where
    by : (a b : Bool) → nat_le first old ≡ a → nat_le first new ≡ b → cond a limit less ≤ cond b limit more
    by true true e f = omega arith
    by true false e f = absurd (omega (arith, leb-true first old e, leb-false first new f, later))
    by false true e f = most
    by false false e f = before

-- one that was the same in all versions before
pub since_one : (old new limit before : ℕ) → old ≤ new → before ≤ limit → since 5 old limit before ≤ since 5 new limit before
since_one old new limit before later less = grows 5 old new limit before before later less (omega arith)

-- what is no less than either of two numbers
pub either_less : (b : Bool) (m n most : ℕ) → m ≤ most → n ≤ most → cond b m n ≤ most
either_less true m n most here there = here
either_less false m n most here there = there

-- those of a version
pub limits_since : (old new : ℕ) → old ≤ new → Within (limits_of old) (limits_of new)
limits_since old new later = record {
  bytes = since_one old new MAX_BYTES (limits_of 1).bytes later (omega arith);
  objects = since_one old new MAX_OBJECTS (limits_of 1).objects later (omega arith);
  entries = since_one old new MAX_ENTRIES (limits_of 1).entries later (omega arith);
  transactions = since_one old new MAX_TRANSACTIONS (limits_of 1).transactions later (omega arith);
  operations = grows 5 old new MAX_OPERATIONS _ _ later
      (either_less _ (limits_of 4).operations (limits_of 1).operations MAX_OPERATIONS (omega arith) (omega arith))
      (grows 4 old new (limits_of 4).operations (limits_of 1).operations (limits_of 1).operations later (omega arith) (omega arith));
  nodes = since_one old new MAX_NODES (limits_of 1).nodes later (omega arith);
}
