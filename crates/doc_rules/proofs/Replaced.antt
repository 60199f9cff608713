-- What `replace` makes of a text where the pattern is an ASCII character.
use Rattle.std.proofs.Common.{◌≡◌, ◌≢◌, ℕ, zero, suc, ◌<◌, inl, inr, List, [], ◌∷◌, ◌++◌, length}
use Rattle.std.proofs.Common.{get_or, take, drop, refl, sym, ap, subst, ◌∙◌, arith, rules, true, false}
use Rattle.std.specs.Prelude.{◌==◌, if◌then◌else◌}
use Rattle.std.specs.Str.Pattern.{FindsChar}
use Rattle.std.specs.Str.Replace.{ContinuesAfterMatch, ReplacesMatches}
use Rattle.std.proofs.lemmas.List.{take-append-drop}
use Rattle.std.proofs.lemmas.List.Concat.{flat_map-append}
use Rattle.std.proofs.lemmas.Str.Pattern.{NoCharPasses-char, drop_at_char}
use Rattle.doc_rules.specs.Pointers.{replaced}

-- a text without the character stays
kept : (c : ℕ) (to s : List ℕ) → ((i : ℕ) → i < length s → get_or s i 0 ≢ c) → replaced c to s ≡ s
kept c to [] none = refl
kept c to (x ∷ xs) none =
    let apart : x ≢ c = none 0 (omega arith) in
    let other : (x == c) ≡ false = search rules in
    let later : (i : ℕ) → i < length xs → get_or xs i 0 ≢ c = λ i lt. none (suc i) (omega (arith, lt)) in
    rw other (ap (λ rest. x ∷ rest) (kept c to xs later))

-- a text with the character, of which what comes before it has none
joined : (c : ℕ) (to front back : List ℕ) → replaced c to front ≡ front
    → replaced c to (front ++ (c ∷ back)) ≡ front ++ (to ++ replaced c to back)
joined c to front back before =
    let same : (c == c) ≡ true = search rules in
    flat_map-append (λ x. if x == c then to else x ∷ []) front (c ∷ back)
    ∙ ap (λ text. text ++ replaced c to (c ∷ back)) before
    ∙ ap (λ bit. front ++ ((if bit then to else c ∷ []) ++ replaced c to back)) same

abbrev Replaces : ℕ → List ℕ → ℕ → List ℕ → List ℕ → Type 0
Replaces c to n s out = ReplacesMatches FindsChar (λ p q. q ≡ p) to n c s out

-- what comes after a match
after : (c : ℕ) (to : List ℕ) (n : ℕ) (s : List ℕ) (a b q : ℕ) (rest : List ℕ)
    → (Replaces c to n (drop b s) rest → rest ≡ replaced c to (drop b s)) → q ≡ c → drop a s ≡ c ∷ drop b s
    → ContinuesAfterMatch FindsChar (λ p q. q ≡ p) to (Replaces q to n) s a b rest → rest ≡ replaced c to (drop b s)
after c to n s a b q rest later is cut (inl (lt, on)) = later (subst (λ p. Replaces p to n (drop b s) rest) is on)
after c to n s a b q rest later is cut (inr (same, more)) =
    let longer : length (drop a s) ≡ suc (length (drop b s)) = ap length cut in
    let equal : length (drop a s) ≡ length (drop b s) = ap (λ k. length (drop k s)) same in
    absurd (omega (arith, longer, equal))

pub replaced_matches : (n c : ℕ) (to s out : List ℕ) → c < 128 → ReplacesMatches FindsChar (λ p q. q ≡ p) to n c s out
    → out ≡ replaced c to s
replaced_matches zero c to s out low h = h.1 ∙ sym (kept c to s (λ i lt. NoCharPasses-char c s i h.0 low lt))
replaced_matches (suc n) c to s out low h =
    let a = h.0 in
    let b = h.1 in
    let cut : drop a s ≡ c ∷ drop b s = drop_at_char c s a b h.4.1 low in
    let before : replaced c to (take a s) ≡ take a s = kept c to (take a s) (λ i lt. NoCharPasses-char c (take a s) i h.4.0 low lt) in
    let whole : s ≡ take a s ++ (c ∷ drop b s) = sym (take-append-drop a s) ∙ ap (λ rest. take a s ++ rest) cut in
    let later = after c to n s a b h.2 h.3 (λ on. replaced_matches n c to (drop b s) h.3 low on) h.5 cut h.6 in
    h.7 ∙ ap (λ rest. take a s ++ (to ++ rest)) later
    ∙ sym (ap (λ text. replaced c to text) whole ∙ joined c to (take a s) (drop b s) before)
