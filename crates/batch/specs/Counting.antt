-- The operations of a subaction. No public contract names it.
use Rattle.std.specs.Prelude.{ℕ, ◌+◌}
use Rattle.meaning.specs.WellFormed.{operations, operations_of_handlers}
use Rattle.batch.specs.Views.{Tried}

abbrev pub operations_of : Tried → ℕ
operations_of child = operations child.body + operations_of_handlers child.handlers
