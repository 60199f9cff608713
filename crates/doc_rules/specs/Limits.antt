-- How much a document may have, by its version.
use Rattle.std.specs.Prelude.{ℕ, nat_le, if◌then◌else◌}
use Rattle.meaning.specs.declared.limits.TheConstants.{MAX_ENTRIES, MAX_NODES, MAX_OBJECTS, MAX_OPERATIONS, MAX_TRANSACTIONS}
use Rattle.doc_rules.specs.declared.limits.Limits.{Limits}
use Rattle.doc_rules.specs.declared.limits.TheConstants.{MAX_BYTES}

-- a limit that a version has, and another one before it
abbrev pub since : ℕ → ℕ → ℕ → ℕ → ℕ
since first version limit before = if nat_le first version then limit else before

abbrev pub limits_of : ℕ → Limits
limits_of version = record {
  bytes = since 5 version MAX_BYTES 67108864;
  objects = since 5 version MAX_OBJECTS 1000;
  entries = since 5 version MAX_ENTRIES 100000;
  transactions = since 5 version MAX_TRANSACTIONS 10000;
  operations = since 5 version MAX_OPERATIONS (since 4 version 1000000 100000);
  nodes = since 5 version MAX_NODES 100000;
}
