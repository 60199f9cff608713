-- The text up to the end of a range, and up to that of the next.
use Rattle.std.proofs.Common.{◌≡◌, ◌≤◌, ◌<◌, ◌+◌, ◌-◌, suc, ℕ, List, ◌∷◌, ◌++◌, length, take, drop, get_or, sym, ap, ap₂, ◌∙◌, arith}
use Rattle.std.proofs.lemmas.List.{drop-take, drop_more, take-append-drop, take-take}

-- after a range come the comma and the next range
pub next_text : (t : List ℕ) (e f : ℕ) → e < length t → e + 1 ≤ f → get_or t e 0 ≡ 44
    → take f t ≡ take e t ++ (44 ∷ take (f - (e + 1)) (drop (e + 1) t))
next_text t e f within behind comma =
    let long : f ≡ e + (f - e) = omega arith in
    let more : f - e ≡ suc (f - (e + 1)) = omega arith in
    let tail : drop e (take f t) ≡ 44 ∷ take (f - (e + 1)) (drop (e + 1) t) =
    ap (λ n. drop e (take n t)) long ∙ drop-take e (f - e) t ∙ ap₂ (λ n l. take n l) more (drop_more t e 0 within)
    ∙ ap (λ x. x ∷ take (f - (e + 1)) (drop (e + 1) t)) comma in
    sym (take-append-drop e (take f t)) ∙ ap₂ (λ a b. a ++ b) (take-take e f t (omega arith)) tail
