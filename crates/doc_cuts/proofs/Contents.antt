-- The content of a text in quotes is the same whatever comes after its closing quote.
use Rattle.std.proofs.Common.{◌≡◌, ℕ, Bool, true, false, cond, ◌&&◌, ◌==◌, nat_lt, List, [], ◌∷◌, ◌++◌, Option, Some, None}
use Rattle.std.proofs.Common.{option_and_then, refl, ap}
use Rattle.std.specs.Prelude.{⊤}
use Rattle.std.specs.Char.{encode_utf8}
use Rattle.json.specs.Text.{code_unit, short_escape, is_high_surrogate, is_low_surrogate, surrogate_pair, Within, plain, after_backslash}
use Rattle.json.specs.Text.{after_u, after_high, prepend, content}

-- what was found is found again
abbrev pub Keeps : Option (List ℕ) → Option (List ℕ) → Type 0
Keeps None y = ⊤
Keeps (Some s) y = y ≡ Some s

-- of two contents, by a test
either : (b : Bool) (x y p q : Option (List ℕ)) → Keeps x p → Keeps y q → Keeps (cond b x y) (cond b p q)
either true x y p q f g = f
either false x y p q f g = g

-- of what follows a code point
then : (f g : ℕ → Option (List ℕ)) (o : Option ℕ) → ((u : ℕ) → Keeps (f u) (g u)) → Keeps (option_and_then f o) (option_and_then g o)
then f g None h = tt
then f g (Some u) h = h u

-- with bytes in front
longer : (a : List ℕ) (x y : Option (List ℕ)) → Keeps x y → Keeps (prepend a x) (prepend a y)
longer a None y h = tt
longer a (Some s) y h = ap (prepend a) h

-- a content that was found is found again with more text
pub content_kept : (w : Within) (xs more : List ℕ) → Keeps (content w xs) (content w (xs ++ more))
unfolding content
content_kept plain [] more = tt
content_kept plain (x ∷ xs) more =
    either (x == 34) _ _ _ _ refl (either (x == 92) _ _ _ _ (content_kept after_backslash xs more)
    (either (nat_lt x 32) _ _ _ _ tt (longer (x ∷ []) _ _ (content_kept plain xs more))))
content_kept after_backslash [] more = tt
content_kept after_backslash (x ∷ xs) more =
    either (x == 117) _ _ _ _ (content_kept after_u xs more)
    (then _ _ (short_escape x) (λ c. longer (c ∷ []) _ _ (content_kept plain xs more)))
content_kept after_u [] more = tt
content_kept after_u (a ∷ []) more = tt
content_kept after_u (a ∷ b ∷ []) more = tt
content_kept after_u (a ∷ b ∷ c ∷ []) more = tt
content_kept after_u (a ∷ b ∷ c ∷ d ∷ xs) more =
    then _ _ (code_unit a b c d) (λ u. either (is_high_surrogate u) _ _ _ _ (content_kept (after_high u) xs more)
    (either (is_low_surrogate u) _ _ _ _ tt (longer (encode_utf8 u) _ _ (content_kept plain xs more))))
content_kept (after_high h) [] more = tt
content_kept (after_high h) (s ∷ []) more = tt
content_kept (after_high h) (s ∷ u ∷ []) more = tt
content_kept (after_high h) (s ∷ u ∷ a ∷ []) more = tt
content_kept (after_high h) (s ∷ u ∷ a ∷ b ∷ []) more = tt
content_kept (after_high h) (s ∷ u ∷ a ∷ b ∷ c ∷ []) more = tt
content_kept (after_high h) (s ∷ u ∷ a ∷ b ∷ c ∷ d ∷ xs) more =
    either ((s == 92) && (u == 117)) _ _ _ _ (then _ _ (code_unit a b c d) (λ l. either (is_low_surrogate l) _ _ _ _
    (longer (encode_utf8 (surrogate_pair h l)) _ _ (content_kept plain xs more)) tt)) tt
