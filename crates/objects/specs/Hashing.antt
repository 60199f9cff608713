-- How tables of entries are hashed.
use Rattle.std.specs.Prelude.{ℕ}
use Rattle.std.specs.List.{fold}
use Rattle.std.specs.Hash.{u64}
use Rattle.std.specs.Hash.FoldHasher.{initial, write}
use Rattle.std.specs.declared.hash.FoldHasher.{FoldHasher}

-- a hasher that a key was written to
abbrev pub begun_with : ℕ → FoldHasher
begun_with key = fold write initial (u64 key)
