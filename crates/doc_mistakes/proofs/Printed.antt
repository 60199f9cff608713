-- What the writer of JSON makes of one text.
use Rattle.std.proofs.Common.{◌≡◌, ℕ, List, [], ◌∷◌}
use Rattle.std.proofs.lemmas.List.{append-nil}
use Rattle.json.specs.Print.{print, print_from, quoted}
use Rattle.json.specs.Token.{string}

pub printed_text : (s : List ℕ) → print (string s ∷ []) ≡ quoted s
unfolding print_from
printed_text s = append-nil (quoted s)
