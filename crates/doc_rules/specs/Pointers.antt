-- The token of a JSON Pointer (RFC 6901) that stands for a member's name.
use Rattle.std.specs.Prelude.{ℕ, ◌==◌, List, [], ◌∷◌, codes, flat_map, if◌then◌else◌}

-- the text with another in place of a byte
abbrev pub replaced : ℕ → List ℕ → List ℕ → List ℕ
replaced old new text = flat_map (λ x. if x == old then new else x ∷ []) text

-- `~0` stands for `~`, and `~1` for `/`
abbrev pub pointer_token : List ℕ → List ℕ
pointer_token name = replaced 47 (codes "~1") (replaced 126 (codes "~0") name)
