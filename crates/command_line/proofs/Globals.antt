-- Whether a command has arguments that are global.
use Rattle.std.proofs.Common.{◌≡◌, ◌||◌, Bool, true, false}

-- neither is global
pub neither : (a b : Bool) → a ≡ false → b ≡ false → (a || b) ≡ false
neither false b first second = second
neither true b first second = first
