-- The lexemes of a text with a comma or a bracket and more after it.
use Rattle.std.proofs.Common.{◌≡◌, ℕ, Bool, true, false, cond, ◌&&◌, ◌==◌, nat_lt, List, [], ◌∷◌, ◌++◌, Option, Some, None}
use Rattle.std.proofs.Common.{option_and_then, refl, sym, ap, ap₂, ◌∙◌}
use Rattle.std.proofs.lemmas.Bool.{false≢true, eqb-true, and_parts}
use Rattle.std.specs.Prelude.{⊤}
use Rattle.std.specs.Char.{is_digit, encode_utf8}
use Rattle.json.specs.Align.{is_good}
use Rattle.json.specs.Lex.{Lexeme, token, comma, colon, Class, quote, backslash, operator, space, other, class, operator_lexeme}
use Rattle.json.specs.Lex.{string_token, Mode, between, in_word, in_string, in_escape, lex_byte, lex}
use Rattle.json.specs.Text.{code_unit, short_escape, is_high_surrogate, is_low_surrogate, surrogate_pair, Within, plain, after_backslash}
use Rattle.json.specs.Text.{after_u, after_high, prepend, content}
use Rattle.json.specs.Word.{is_operator, is_space, word}
use Rattle.doc_cuts.proofs.Contents.{Keeps, content_kept}
use Rattle.doc_cuts.proofs.Words.{mark, of_mark, word_same}

-- a lexeme is no bad token
abbrev is_good_lexeme : Lexeme → Bool
is_good_lexeme (token t) = is_good t
is_good_lexeme comma = true
is_good_lexeme colon = true

-- none of the lexemes is a bad token
unfoldable pub all_good : List Lexeme → Bool
all_good [] = true
all_good (l ∷ ls) = is_good_lexeme l && all_good ls

-- ---- the closing quote of a text

-- whether the text is closed at a byte, or by what follows
abbrev closing_byte : Mode → Class → (Mode → Bool) → Bool
closing_byte between c k = true
closing_byte in_word c k = true
closing_byte in_string quote k = true
closing_byte in_string backslash k = k in_escape
closing_byte in_string operator k = k in_string
closing_byte in_string space k = k in_string
closing_byte in_string other k = k in_string
closing_byte in_escape c k = k in_string

-- a mode in which no text is open
abbrev is_outside : Mode → Bool
is_outside between = true
is_outside in_word = true
is_outside in_string = false
is_outside in_escape = false

-- the text that the lexer is in has its closing quote
unfoldable pub has_close : Mode → List ℕ → Bool
has_close m [] = is_outside m
has_close m (x ∷ xs) = closing_byte m (class x) (λ next. has_close next xs)

-- the mode of the lexer within a content
abbrev mode : Within → Mode
mode plain = in_string
mode after_backslash = in_escape
mode after_u = in_string
mode (after_high h) = in_string

-- where a content was found, the closing quote is there
abbrev IfFound : Bool → Option (List ℕ) → Type 0
IfFound b None = ⊤
IfFound b (Some s) = b ≡ true

-- of two contents, by a test
either : (n b : Bool) (x y : Option (List ℕ)) → (b ≡ true → IfFound n x) → (b ≡ false → IfFound n y) → IfFound n (cond b x y)
either n true x y f g = f refl
either n false x y f g = g refl

-- a code point was found
abbrev is_found : Option ℕ → Bool
is_found None = false
is_found (Some u) = true

-- of what follows a code point
then : (n : Bool) (f : ℕ → Option (List ℕ)) (o : Option ℕ) → (is_found o ≡ true → (u : ℕ) → IfFound n (f u))
    → IfFound n (option_and_then f o)
then n f None h = tt
then n f (Some u) h = h refl u

-- with bytes in front
longer : (n : Bool) (a : List ℕ) (r : Option (List ℕ)) → IfFound n r → IfFound n (prepend a r)
longer n a None h = tt
longer n a (Some s) h = h

-- where the closing quote is the same one
same : (n m : Bool) (r : Option (List ℕ)) → n ≡ m → IfFound m r → IfFound n r
same n m None e h = tt
same n m (Some s) e h = e ∙ h

-- a unit that was found is of hexadecimal digits
all_hex : (b : Bool) (u : ℕ) → is_found (cond b (Some u) None) ≡ true → b ≡ true
all_hex true u h = refl
all_hex false u h = h

-- a byte that is neither quote nor backslash closes nothing
closes : (o s : Bool) (k : Mode → Bool) → closing_byte in_string (cond o operator (cond s space other)) k ≡ k in_string
closes true s k = refl
closes false true k = refl
closes false false k = refl

-- such a byte is passed
close_plain : (x : ℕ) (xs : List ℕ) → (x == 34) ≡ false → (x == 92) ≡ false → has_close in_string (x ∷ xs) ≡ has_close in_string xs
unfolding has_close
close_plain x xs q b =
    (λ i. closing_byte in_string (cond (q i) quote (cond (b i) backslash (cond (is_operator x) operator (cond (is_space x) space other))))
    (λ n. has_close n xs)) ∙ closes (is_operator x) (is_space x) (λ n. has_close n xs)

-- after a backslash an escape is read
close_backslash : (x : ℕ) (xs : List ℕ) → (x == 92) ≡ true → has_close in_string (x ∷ xs) ≡ has_close in_escape xs
unfolding has_close
close_backslash x xs b = ap (λ y. has_close in_string (y ∷ xs)) (eqb-true x 92 b)

-- a quote closes the text
close_quote : (x : ℕ) (xs : List ℕ) → (x == 34) ≡ true → has_close in_string (x ∷ xs) ≡ true
unfolding has_close
close_quote x xs b = ap (λ y. has_close in_string (y ∷ xs)) (eqb-true x 34 b)

-- an escaped byte is passed
close_escape : (x : ℕ) (xs : List ℕ) → has_close in_escape (x ∷ xs) ≡ has_close in_string xs
unfolding has_close
close_escape x xs = refl

-- a hexadecimal digit is no other byte
not_this : (c x : ℕ) (t : Bool) → (t ≡ true → x ≡ c) → is_digit c 16 ≡ false → is_digit x 16 ≡ true → t ≡ false
not_this c x false e never h = refl
not_this c x true e never h = absurd (false≢true (sym never ∙ ap (λ y. is_digit y 16) (sym (e refl)) ∙ h))

-- a hexadecimal digit is passed
close_hex : (x : ℕ) (xs : List ℕ) → is_digit x 16 ≡ true → has_close in_string (x ∷ xs) ≡ has_close in_string xs
close_hex x xs h = close_plain x xs (not_this 34 x (x == 34) (eqb-true x 34) refl h) (not_this 92 x (x == 92) (eqb-true x 92) refl h)

-- four of them are passed
close_unit : (a b c d : ℕ) (xs : List ℕ) → is_found (code_unit a b c d) ≡ true
    → has_close in_string (a ∷ b ∷ c ∷ d ∷ xs) ≡ has_close in_string xs
unfolding code_unit
close_unit a b c d xs h =
    let p = and_parts (is_digit a 16 && is_digit b 16 && is_digit c 16) (is_digit d 16) (all_hex _ _ h) in
    let q = and_parts (is_digit a 16 && is_digit b 16) (is_digit c 16) p.0 in
    let r = and_parts (is_digit a 16) (is_digit b 16) q.0 in
    close_hex a (b ∷ c ∷ d ∷ xs) r.0 ∙ close_hex b (c ∷ d ∷ xs) r.1 ∙ close_hex c (d ∷ xs) q.1 ∙ close_hex d xs p.1

-- a content that was found has its closing quote
content_closes : (w : Within) (xs : List ℕ) → IfFound (has_close (mode w) xs) (content w xs)
unfolding content
content_closes plain [] = tt
content_closes plain (x ∷ xs) =
    let n = has_close in_string (x ∷ xs) in
    either n (x == 34) _ _ (λ q. close_quote x xs q)
    (λ q. either n (x == 92) _ _ (λ b. same n _ _ (close_backslash x xs b) (content_closes after_backslash xs))
    (λ b. either n (nat_lt x 32) _ _ (λ l. tt) (λ l. longer n (x ∷ []) _ (same n _ _ (close_plain x xs q b) (content_closes plain xs)))))
content_closes after_backslash [] = tt
content_closes after_backslash (x ∷ xs) =
    let n = has_close in_escape (x ∷ xs) in
    either n (x == 117) _ _ (λ u. same n _ _ (close_escape x xs) (content_closes after_u xs))
    (λ u. then n _ (short_escape x) (λ f c. longer n (c ∷ []) _ (same n _ _ (close_escape x xs) (content_closes plain xs))))
content_closes after_u [] = tt
content_closes after_u (a ∷ []) = tt
content_closes after_u (a ∷ b ∷ []) = tt
content_closes after_u (a ∷ b ∷ c ∷ []) = tt
content_closes after_u (a ∷ b ∷ c ∷ d ∷ xs) =
    let n = has_close in_string (a ∷ b ∷ c ∷ d ∷ xs) in
    then n _ (code_unit a b c d)
    (λ f u. either n (is_high_surrogate u) _ _ (λ h. same n _ _ (close_unit a b c d xs f) (content_closes (after_high u) xs))
    (λ h. either n (is_low_surrogate u) _ _ (λ l. tt)
    (λ l. longer n (encode_utf8 u) _ (same n _ _ (close_unit a b c d xs f) (content_closes plain xs)))))
content_closes (after_high h) [] = tt
content_closes (after_high h) (s ∷ []) = tt
content_closes (after_high h) (s ∷ u ∷ []) = tt
content_closes (after_high h) (s ∷ u ∷ a ∷ []) = tt
content_closes (after_high h) (s ∷ u ∷ a ∷ b ∷ []) = tt
content_closes (after_high h) (s ∷ u ∷ a ∷ b ∷ c ∷ []) = tt
content_closes (after_high h) (s ∷ u ∷ a ∷ b ∷ c ∷ d ∷ xs) =
    let n = has_close in_string (s ∷ u ∷ a ∷ b ∷ c ∷ d ∷ xs) in
    either n ((s == 92) && (u == 117)) _ _
    (λ e. then n _ (code_unit a b c d) (λ f l. either n (is_low_surrogate l) _ _
    (λ z. longer n (encode_utf8 (surrogate_pair h l)) _
    (same n _ _ (close_backslash s (u ∷ a ∷ b ∷ c ∷ d ∷ xs) (and_parts _ _ e).0 ∙ close_escape u (a ∷ b ∷ c ∷ d ∷ xs)
    ∙ close_unit a b c d xs f)
    (content_closes plain xs))) (λ z. tt))) (λ e. tt)

-- ---- the lexemes

-- outside of a text nothing is open
outside : (xs : List ℕ) → (has_close between xs ≡ true) × (has_close in_word xs ≡ true)
unfolding has_close
outside [] = (refl, refl)
outside (x ∷ xs) = (refl, refl)

-- where a text has a good token, it is the same with more after it, and the text is closed
text_same : (xs more : List ℕ) (o p : Option (List ℕ)) → Keeps o p → IfFound (has_close in_string xs) o → is_good (string_token o) ≡ true
    → (string_token p ≡ string_token o) × (has_close in_string xs ≡ true)
text_same xs more None p kept found good = absurd (false≢true good)
text_same xs more (Some s) p kept found good = (ap string_token kept, found)

module _ (v : Bool) (y : List ℕ) where
  -- what follows the text
  abbrev behind : List ℕ
  behind = mark v ∷ y

  -- the lexemes in a mode go on after the text
  abbrev GoesOn : Mode → List ℕ → Type 0
  GoesOn m xs = all_good (lex m xs) ≡ true → has_close m xs ≡ true
      → lex m (xs ++ behind) ≡ lex m xs ++ (operator_lexeme (mark v) ∷ lex between y)

  -- the same of a byte before the text
  step : (m : Mode) (c : Class) (x : ℕ) (xs : List ℕ) → ((n : Mode) → GoesOn n xs)
      → all_good (lex_byte m c x xs (λ n. lex n xs)) ≡ true → closing_byte m c (λ n. has_close n xs) ≡ true
      → lex_byte m c x (xs ++ behind) (λ n. lex n (xs ++ behind))
      ≡ lex_byte m c x xs (λ n. lex n xs) ++ (operator_lexeme (mark v) ∷ lex between y)
  unfolding all_good
  step between quote x xs on good close =
      let parts = and_parts (is_good (string_token (content plain xs))) _ good in
      let text = text_same xs behind (content plain xs) (content plain (xs ++ behind)) (content_kept plain xs behind)
      (content_closes plain xs) parts.0 in
      ap₂ (λ t ls. token t ∷ ls) text.0 (on in_string parts.1 text.1)
  step between backslash x xs on good close = absurd (false≢true good)
  step between operator x xs on good close =
      ap (λ ls. operator_lexeme x ∷ ls) (on between (and_parts (is_good_lexeme (operator_lexeme x)) _ good).1 (outside xs).0)
  step between space x xs on good close = on between good (outside xs).0
  step between other x xs on good close =
      ap₂ (λ t ls. token t ∷ ls) (word_same v y x xs) (on in_word (and_parts (is_good (word (x ∷ xs))) _ good).1 (outside xs).1)
  step in_word quote x xs on good close = on in_word good (outside xs).1
  step in_word backslash x xs on good close = on in_word good (outside xs).1
  step in_word operator x xs on good close =
      ap (λ ls. operator_lexeme x ∷ ls) (on between (and_parts (is_good_lexeme (operator_lexeme x)) _ good).1 (outside xs).0)
  step in_word space x xs on good close = on between good (outside xs).0
  step in_word other x xs on good close = on in_word good (outside xs).1
  step in_string quote x xs on good close = on between good (outside xs).0
  step in_string backslash x xs on good close = on in_escape good close
  step in_string operator x xs on good close = on in_string good close
  step in_string space x xs on good close = on in_string good close
  step in_string other x xs on good close = on in_string good close
  step in_escape c x xs on good close = on in_string good close

  -- the same of a whole text
  goes_on : (m : Mode) (xs : List ℕ) → GoesOn m xs
  unfolding lex has_close
  goes_on between [] good close = of_mark (λ c. lex between (c ∷ y) ≡ operator_lexeme c ∷ lex between y) refl refl v
  goes_on in_word [] good close = of_mark (λ c. lex in_word (c ∷ y) ≡ operator_lexeme c ∷ lex between y) refl refl v
  goes_on in_string [] good close = absurd (false≢true close)
  goes_on in_escape [] good close = absurd (false≢true close)
  goes_on m (x ∷ xs) good close = step m (class x) x xs (λ n. goes_on n xs) good close

  -- after good lexemes come the mark's and the lexemes of the rest
  pub lexed : (xs : List ℕ) → all_good (lex between xs) ≡ true
      → lex between (xs ++ behind) ≡ lex between xs ++ (operator_lexeme (mark v) ∷ lex between y)
  lexed xs good = goes_on between xs good (outside xs).0
