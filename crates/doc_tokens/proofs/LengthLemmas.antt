-- A text has hardly more tokens than bytes.
use Rattle.std.proofs.Common.{◌≤◌, ◌+◌, ℕ, List, [], ◌∷◌, length, Bool, true, false, arith}
use Rattle.json.specs.Lex.{Class, Lexeme, Mode, Place, between, in_word, in_string, in_escape, quote, backslash, operator, space, other}
use Rattle.json.specs.Lex.{class, lex, lex_byte, place_token, punctuate, if_allowed, fresh, after_value, after_comma, after_key}
use Rattle.json.specs.Lex.{begins_colon}
use Rattle.json.specs.Lex.{comma, colon, token, tokens}
use Rattle.json.specs.Token.{Token, begin_object, end_object, begin_array, end_array, key, string, number, boolean, null, bad}

-- no byte is more than a lexeme
one_byte : (m : Mode) (c : Class) (x : ℕ) (xs : List ℕ) (k : Mode → List Lexeme) → ((next : Mode) → length (k next) ≤ length xs)
    → length (lex_byte m c x xs k) ≤ length xs + 1
one_byte between quote x xs k later = omega (arith, later in_string)
one_byte between backslash x xs k later = omega (arith, later in_word)
one_byte between operator x xs k later = omega (arith, later between)
one_byte between space x xs k later = omega (arith, later between)
one_byte between other x xs k later = omega (arith, later in_word)
one_byte in_word quote x xs k later = omega (arith, later in_word)
one_byte in_word backslash x xs k later = omega (arith, later in_word)
one_byte in_word operator x xs k later = omega (arith, later between)
one_byte in_word space x xs k later = omega (arith, later between)
one_byte in_word other x xs k later = omega (arith, later in_word)
one_byte in_string quote x xs k later = omega (arith, later between)
one_byte in_string backslash x xs k later = omega (arith, later in_escape)
one_byte in_string operator x xs k later = omega (arith, later in_string)
one_byte in_string space x xs k later = omega (arith, later in_string)
one_byte in_string other x xs k later = omega (arith, later in_string)
one_byte in_escape c x xs k later = omega (arith, later in_string)

lexemes_within : (m : Mode) (text : List ℕ) → length (lex m text) ≤ length text
unfolding lex
lexemes_within m [] = omega arith
lexemes_within m (x ∷ xs) =
    let most : length (lex m (x ∷ xs)) ≤ length xs + 1 = one_byte m (class x) x xs (λ next. lex next xs) (λ next. lexemes_within next xs) in
    omega (arith, most)

allowed : (b : Bool) (t : Token) (k : Place → List Token) (next : Place) (n : ℕ) → length (k next) ≤ n + 1
    → length (if_allowed b t k next) ≤ n + 2
allowed true t k next n later = omega (arith, later)
allowed false t k next n later = omega arith

one_lexeme : (p : Place) (t : Token) (b : Bool) (k : Place → List Token) (n : ℕ) → ((next : Place) → length (k next) ≤ n + 1)
    → length (place_token p t b k) ≤ n + 2
one_lexeme p begin_object b k n later = allowed _ begin_object k fresh n (later fresh)
one_lexeme p end_object b k n later = allowed _ end_object k after_value n (later after_value)
one_lexeme p begin_array b k n later = allowed _ begin_array k fresh n (later fresh)
one_lexeme p end_array b k n later = allowed _ end_array k after_value n (later after_value)
one_lexeme p (key s) b k n later = omega arith
one_lexeme p (string s) true k n later = allowed _ (key s) k after_key n (later after_key)
one_lexeme p (string s) false k n later = allowed _ (string s) k after_value n (later after_value)
one_lexeme p (number s) b k n later = allowed _ (number s) k after_value n (later after_value)
one_lexeme p (boolean x) b k n later = allowed _ (boolean x) k after_value n (later after_value)
one_lexeme p null b k n later = allowed _ null k after_value n (later after_value)
one_lexeme p bad b k n later = omega arith

punctuated : (p : Place) (ls : List Lexeme) → length (punctuate p ls) ≤ length ls + 1
unfolding punctuate
punctuated fresh [] = omega arith
punctuated after_value [] = omega arith
punctuated after_comma [] = omega arith
punctuated after_key [] = omega arith
punctuated fresh (token t ∷ ls) =
    let most : length (punctuate fresh (token t ∷ ls)) ≤ length ls + 2 =
    one_lexeme fresh t (begins_colon ls) (λ next. punctuate next ls) (length ls) (λ next. punctuated next ls) in omega (arith, most)
punctuated after_value (token t ∷ ls) =
    let most : length (punctuate after_value (token t ∷ ls)) ≤ length ls + 2 =
    one_lexeme after_value t (begins_colon ls) (λ next. punctuate next ls) (length ls) (λ next. punctuated next ls) in omega (arith, most)
punctuated after_comma (token t ∷ ls) =
    let most : length (punctuate after_comma (token t ∷ ls)) ≤ length ls + 2 =
    one_lexeme after_comma t (begins_colon ls) (λ next. punctuate next ls) (length ls) (λ next. punctuated next ls) in omega (arith, most)
punctuated after_key (token t ∷ ls) =
    let most : length (punctuate after_key (token t ∷ ls)) ≤ length ls + 2 =
    one_lexeme after_key t (begins_colon ls) (λ next. punctuate next ls) (length ls) (λ next. punctuated next ls) in omega (arith, most)
punctuated fresh (comma ∷ ls) = omega arith
punctuated after_value (comma ∷ ls) = omega (arith, punctuated after_comma ls)
punctuated after_comma (comma ∷ ls) = omega arith
punctuated after_key (comma ∷ ls) = omega arith
punctuated fresh (colon ∷ ls) = omega arith
punctuated after_value (colon ∷ ls) = omega arith
punctuated after_comma (colon ∷ ls) = omega arith
punctuated after_key (colon ∷ ls) = omega (arith, punctuated fresh ls)

-- a text has at most one more token than bytes
pub tokens_within : (text : List ℕ) → length (tokens text) ≤ length text + 1
tokens_within text = omega (arith, punctuated fresh (lex between text), lexemes_within between text)
