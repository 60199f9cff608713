-- Whole tokens after whole ones.
use Rattle.std.proofs.Common.{◌≡◌, Bool, true, ◌&&◌, List, [], ◌∷◌, ◌++◌, ap, ◌∙◌}
use Rattle.std.proofs.lemmas.Bool.{and_parts}
use Rattle.json.specs.Align.{is_good}
use Rattle.json.specs.Print.{ends}
use Rattle.json.specs.Token.{Token}
use Rattle.doc_cuts.specs.Whole.{is_left, is_whole}

-- whole tokens and then whole ones are whole
pub whole_append : (b : Bool) (ts us : List Token) → is_whole b ts ≡ true → is_whole true us ≡ true → is_whole b (ts ++ us) ≡ true
unfolding is_left
whole_append b [] us first second = ap (λ e. is_whole e us) first ∙ second
whole_append b (t ∷ ts) us first second =
    let parts = and_parts (is_good t) (is_whole (ends t) ts) first in
    λ i. parts.0 i && whole_append (ends t) ts us parts.1 second i
