-- A document goes on with the range after a comma.
use Rattle.std.proofs.Common.{◌≡◌, ◌≤◌, ◌<◌, ◌+◌, ◌-◌, ℕ, List, [], ◌∷◌, ◌++◌, length, take, drop, get_or, refl, sym, subst, ap}
use Rattle.std.proofs.Common.{◌∙◌}
use Rattle.json.specs.Lex.{tokens}
use Rattle.json.specs.Token.{Token, begin_array}
use Rattle.doc_tree.specs.Scope.{Numbers, setting_of}
use Rattle.doc_tree.specs.declared.counts.Counts.{Counts}
use Rattle.doc_tree.specs.declared.declared.Declared.{Declared}
use Rattle.doc_cuts.specs.Whole.{is_left}
use Rattle.doc_cuts.proofs.Places.{tokens_cut}
use Rattle.doc_tokens.specs.Ranges.{AreRead, IsBegun, Reached}
use Rattle.doc_tokens.proofs.RangeLemmas.{begun_on}
use Rattle.lang.proofs.RangeEnds.{next_text}

-- the text up to e was read, and then the range after the comma at e, up to f
pub begun_further : (declared : Declared) (start : Counts) (numbers : Numbers) (t range : List ℕ) (e f : ℕ) (left rest : List Token)
    (q r : Reached)
    → e < length t → e + 1 ≤ f → get_or t e 0 ≡ 44 → range ≡ take (f - (e + 1)) (drop (e + 1) t)
    → IsBegun (tokens (take e t)) [] declared start numbers q → tokens range ≡ begin_array ∷ rest
    → AreRead (setting_of declared) (tokens range) left q r → IsBegun (tokens (take f t)) left declared start numbers r
unfolding is_left
begun_further declared start numbers t range e f left rest q r within behind comma is begun begins read =
    let whole = begun.whole refl in
    let text : take f t ≡ take e t ++ (44 ∷ range) =
    next_text t e f within behind comma ∙ ap (λ x. take e t ++ (44 ∷ x)) (sym is) in
    let both : tokens (take f t) ≡ tokens (take e t) ++ tokens range =
    ap tokens text ∙ tokens_cut (take e t) range rest whole begins in
    subst (λ ts. IsBegun ts left declared start numbers r) (sym both)
    (begun_on declared start numbers (tokens (take e t)) (tokens range) left q r begun read)
