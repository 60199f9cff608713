-- Texts one after the other.
use Rattle.std.proofs.Common.{append_assoc, append-nil}

pub ruleset joins = (append_assoc, append-nil)
