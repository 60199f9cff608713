-- The paths of the parts of a step.
use Rattle.std.specs.Prelude.{ℕ, zero, suc, ◌/◌, List, [], Option}
use Rattle.std.specs.Fmt.{decimal}
use Rattle.meaning.specs.Trees.{Block, Handlers}
use Rattle.meaning.specs.Words.{Naming}
use Rattle.meaning.specs.Texts.{handler_block, handler_path}

-- the path and the block of what takes an abort for this reason
abbrev pub handler_place : Naming → List ℕ → Option ℕ → Handlers → List ℕ × Block
handler_place names path reason handlers = (handler_path names path handlers reason, handler_block handlers reason)

-- a number in decimal, and nothing for 0
abbrev pub decimal_or_none : ℕ → List ℕ
decimal_or_none zero = []
decimal_or_none (suc n) = decimal (suc n)

-- a number in decimal, without its last digit
abbrev pub tens : ℕ → List ℕ
tens n = decimal_or_none (n / 10)
