-- How far a part of a run is from its end.
use Rattle.std.proofs.Common.{ℕ, ◌+◌, ◌*◌}

-- the depth of its tree counts first, and then how many calls there may be at one depth, which are fewer than 2^35
abbrev pub deep : ℕ → ℕ → ℕ
deep depth calls = 34_359_738_368 * depth + calls

-- more calls than a width can lead to by halving it
abbrev pub beyond_widths : ℕ
beyond_widths = 17_179_869_184
