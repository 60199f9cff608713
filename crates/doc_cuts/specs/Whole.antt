-- Tokens after which more may follow: after a comma, or after the bracket that begins an array.
use Rattle.std.specs.Prelude.{List, [], ◌∷◌, Bool, false, true, ◌&&◌, not}
use Rattle.json.specs.Align.{is_good}
use Rattle.json.specs.Print.{ends}
use Rattle.json.specs.Token.{Token}

-- whether a value has ended, or has not, as asked
abbrev pub is_asked : Bool → Bool → Bool
is_asked true ended = ended
is_asked false ended = not ended

-- No token is bad, and the last one ends a value, or does not, as asked. Where there is none, `ended` says whether one has ended before.
unfoldable pub is_left : Bool → Bool → List Token → Bool
is_left asked ended [] = is_asked asked ended
is_left asked ended (t ∷ ts) = is_good t && is_left asked (ends t) ts

-- a comma may follow
abbrev pub is_whole : Bool → List Token → Bool
is_whole = is_left true

-- a value may follow
abbrev pub is_open : Bool → List Token → Bool
is_open = is_left false
