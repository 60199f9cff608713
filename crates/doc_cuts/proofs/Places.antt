-- The tokens of a text with a comma or a bracket and more after it.
use Rattle.std.proofs.Common.{◌≡◌, ℕ, Bool, true, false, List, [], ◌∷◌, ◌++◌, refl, sym, ap, ◌∙◌}
use Rattle.std.proofs.lemmas.Bool.{false≢true, and_parts}
use Rattle.json.specs.Align.{is_good}
use Rattle.json.specs.Lex.{Lexeme, token, comma, colon, lex, between, Place, fresh, after_value, after_comma, after_key, begins_colon}
use Rattle.json.specs.Lex.{may_begin, may_close, if_allowed, place_token, punctuate, tokens}
use Rattle.json.specs.Print.{ends}
use Rattle.json.specs.Token.{Token, begin_object, end_object, begin_array, end_array, key, string, number, boolean, null, bad}
use Rattle.doc_cuts.proofs.Lexemes.{all_good, lexed}
use Rattle.doc_cuts.specs.Whole.{is_left, is_open, is_whole}

-- a value has ended at this place
abbrev ended : Place → Bool
ended fresh = false
ended after_value = true
ended after_comma = false
ended after_key = false

-- what comes after the tokens: a comma where a value comes before it, or the bracket that begins an array
abbrev sign : Bool → Lexeme
sign true = comma
sign false = token begin_array

-- the tokens from there on
abbrev after : Bool → List Lexeme → List Token
after true ms = punctuate after_comma ms
after false ms = begin_array ∷ punctuate fresh ms

-- no colon comes there
no_colon : (v : Bool) (ms : List Lexeme) → begins_colon (sign v ∷ ms) ≡ false
no_colon true ms = refl
no_colon false ms = refl

-- where no lexeme is left
at_end : (v : Bool) (ms : List Lexeme) (p : Place) → is_left v (ended p) (punctuate p []) ≡ true
    → punctuate p (sign v ∷ ms) ≡ punctuate p [] ++ after v ms
unfolding punctuate is_left
at_end true ms fresh h = absurd (false≢true h)
at_end true ms after_value h = refl
at_end true ms after_comma h = absurd (false≢true h)
at_end true ms after_key h = absurd (false≢true h)
at_end false ms fresh h = refl
at_end false ms after_value h = absurd (false≢true h)
at_end false ms after_comma h = absurd (false≢true h)
at_end false ms after_key h = absurd (false≢true h)

module _ (v : Bool) where
  -- ---- such tokens have good lexemes

  -- what an allowed token leaves is left well, and good where that is good
  abbrev Good : List Lexeme → Type 0
  Good ls = (p : Place) (b : Bool) → is_left v b (punctuate p ls) ≡ true → all_good ls ≡ true

  -- the same of a token that is allowed
  allowed_good : (b e : Bool) (t : Token) (next : Place) (ls : List Lexeme) → Good ls
      → is_left v e (if_allowed b t (λ n. punctuate n ls) next) ≡ true
      → all_good ls ≡ true
  unfolding is_left
  allowed_good true e t next ls all h = all next (ends t) (and_parts (is_good t) _ h).1
  allowed_good false e t next ls all h = absurd (false≢true h)

  -- the same of any token
  token_good : (p : Place) (t : Token) (c e : Bool) (ls : List Lexeme) → Good ls
      → is_left v e (place_token p t c (λ n. punctuate n ls)) ≡ true
      → all_good (token t ∷ ls) ≡ true
  unfolding is_left all_good
  token_good p begin_object c e ls all h = allowed_good (may_begin p) e begin_object fresh ls all h
  token_good p end_object c e ls all h = allowed_good (may_close p) e end_object after_value ls all h
  token_good p begin_array c e ls all h = allowed_good (may_begin p) e begin_array fresh ls all h
  token_good p end_array c e ls all h = allowed_good (may_close p) e end_array after_value ls all h
  token_good p (key s) c e ls all h = absurd (false≢true h)
  token_good p (string s) true e ls all h = allowed_good (may_begin p) e (key s) after_key ls all h
  token_good p (string s) false e ls all h = allowed_good (may_begin p) e (string s) after_value ls all h
  token_good p (number s) c e ls all h = allowed_good (may_begin p) e (number s) after_value ls all h
  token_good p (boolean w) c e ls all h = allowed_good (may_begin p) e (boolean w) after_value ls all h
  token_good p null c e ls all h = allowed_good (may_begin p) e null after_value ls all h
  token_good p bad c e ls all h = absurd (false≢true h)

  -- such tokens come from good lexemes
  good : (ls : List Lexeme) → Good ls
  unfolding punctuate is_left all_good
  good [] p b h = refl
  good (token t ∷ ls) fresh b h = token_good fresh t (begins_colon ls) b ls (good ls) h
  good (token t ∷ ls) after_value b h = token_good after_value t (begins_colon ls) b ls (good ls) h
  good (token t ∷ ls) after_comma b h = token_good after_comma t (begins_colon ls) b ls (good ls) h
  good (token t ∷ ls) after_key b h = token_good after_key t (begins_colon ls) b ls (good ls) h
  good (comma ∷ ls) fresh b h = absurd (false≢true h)
  good (comma ∷ ls) after_value b h = good ls after_comma b h
  good (comma ∷ ls) after_comma b h = absurd (false≢true h)
  good (comma ∷ ls) after_key b h = absurd (false≢true h)
  good (colon ∷ ls) fresh b h = absurd (false≢true h)
  good (colon ∷ ls) after_value b h = absurd (false≢true h)
  good (colon ∷ ls) after_comma b h = absurd (false≢true h)
  good (colon ∷ ls) after_key b h = good ls fresh b h

  -- ---- punctuated

  -- after a comma it plays no part whether a value has ended, since a token follows
  allowed_any : (b e f : Bool) (t : Token) (k : Place → List Token) (next : Place)
      → is_left v e (if_allowed b t k next) ≡ is_left v f (if_allowed b t k next)
  unfolding is_left
  allowed_any true e f t k next = refl
  allowed_any false e f t k next = refl

  -- the same of any token
  token_any : (t : Token) (c e f : Bool) (k : Place → List Token)
      → is_left v e (place_token after_comma t c k) ≡ is_left v f (place_token after_comma t c k)
  unfolding is_left
  token_any begin_object c e f k = refl
  token_any end_object c e f k = refl
  token_any begin_array c e f k = refl
  token_any end_array c e f k = refl
  token_any (key s) c e f k = refl
  token_any (string s) true e f k = refl
  token_any (string s) false e f k = refl
  token_any (number s) c e f k = refl
  token_any (boolean w) c e f k = refl
  token_any null c e f k = refl
  token_any bad c e f k = refl

  -- the same of all lexemes
  comma_any : (ls : List Lexeme) (e f : Bool) → is_left v e (punctuate after_comma ls) ≡ is_left v f (punctuate after_comma ls)
  unfolding punctuate is_left
  comma_any [] e f = refl
  comma_any (token t ∷ ls) e f = token_any t (begins_colon ls) e f (λ n. punctuate n ls)
  comma_any (comma ∷ ls) e f = refl
  comma_any (colon ∷ ls) e f = refl

  -- what comes after the lexemes is no colon
  begins_same : (ls ms : List Lexeme) → begins_colon (ls ++ (sign v ∷ ms)) ≡ begins_colon ls
  begins_same [] ms = no_colon v ms
  begins_same (token t ∷ ls) ms = refl
  begins_same (comma ∷ ls) ms = refl
  begins_same (colon ∷ ls) ms = refl

  module _ (ms : List Lexeme) where
    -- the tokens of the lexemes go on
    abbrev GoesOn : List Lexeme → Type 0
    GoesOn ls = (p : Place) → is_left v (ended p) (punctuate p ls) ≡ true
        → punctuate p (ls ++ (sign v ∷ ms)) ≡ punctuate p ls ++ after v ms

    -- the same of a token that is allowed
    allowed_on : (b e : Bool) (t : Token) (next : Place) (ls : List Lexeme) → ends t ≡ ended next → GoesOn ls
        → is_left v e (if_allowed b t (λ n. punctuate n ls) next) ≡ true
        → if_allowed b t (λ n. punctuate n (ls ++ (sign v ∷ ms))) next ≡ if_allowed b t (λ n. punctuate n ls) next ++ after v ms
    unfolding is_left
    allowed_on true e t next ls same on h =
        ap (λ ts. t ∷ ts) (on next (ap (λ f. is_left v f (punctuate next ls)) (sym same) ∙ (and_parts (is_good t) _ h).1))
    allowed_on false e t next ls same on h = absurd (false≢true h)

    -- the same of any token
    token_on : (p : Place) (t : Token) (c e : Bool) (ls : List Lexeme) → GoesOn ls
        → is_left v e (place_token p t c (λ n. punctuate n ls)) ≡ true
        → place_token p t c (λ n. punctuate n (ls ++ (sign v ∷ ms))) ≡ place_token p t c (λ n. punctuate n ls) ++ after v ms
    unfolding is_left
    token_on p begin_object c e ls on h = allowed_on (may_begin p) e begin_object fresh ls refl on h
    token_on p end_object c e ls on h = allowed_on (may_close p) e end_object after_value ls refl on h
    token_on p begin_array c e ls on h = allowed_on (may_begin p) e begin_array fresh ls refl on h
    token_on p end_array c e ls on h = allowed_on (may_close p) e end_array after_value ls refl on h
    token_on p (key s) c e ls on h = absurd (false≢true h)
    token_on p (string s) true e ls on h = allowed_on (may_begin p) e (key s) after_key ls refl on h
    token_on p (string s) false e ls on h = allowed_on (may_begin p) e (string s) after_value ls refl on h
    token_on p (number s) c e ls on h = allowed_on (may_begin p) e (number s) after_value ls refl on h
    token_on p (boolean w) c e ls on h = allowed_on (may_begin p) e (boolean w) after_value ls refl on h
    token_on p null c e ls on h = allowed_on (may_begin p) e null after_value ls refl on h
    token_on p bad c e ls on h = absurd (false≢true h)

    -- the same by the colon that may follow
    colon_on : (p : Place) (t : Token) (ls : List Lexeme) → GoesOn ls
        → is_left v (ended p) (place_token p t (begins_colon ls) (λ n. punctuate n ls)) ≡ true
        → place_token p t (begins_colon (ls ++ (sign v ∷ ms))) (λ n. punctuate n (ls ++ (sign v ∷ ms)))
        ≡ place_token p t (begins_colon ls) (λ n. punctuate n ls) ++ after v ms
    colon_on p t ls on h =
        ap (λ c. place_token p t c (λ n. punctuate n (ls ++ (sign v ∷ ms)))) (begins_same ls ms)
        ∙ token_on p t (begins_colon ls) (ended p) ls on h

    -- the same of all lexemes
    goes_on : (ls : List Lexeme) → GoesOn ls
    unfolding punctuate is_left
    goes_on [] p h = at_end v ms p h
    goes_on (token t ∷ ls) fresh h = colon_on fresh t ls (goes_on ls) h
    goes_on (token t ∷ ls) after_value h = colon_on after_value t ls (goes_on ls) h
    goes_on (token t ∷ ls) after_comma h = colon_on after_comma t ls (goes_on ls) h
    goes_on (token t ∷ ls) after_key h = colon_on after_key t ls (goes_on ls) h
    goes_on (comma ∷ ls) fresh h = absurd (false≢true h)
    goes_on (comma ∷ ls) after_value h = goes_on ls after_comma (comma_any ls false true ∙ h)
    goes_on (comma ∷ ls) after_comma h = absurd (false≢true h)
    goes_on (comma ∷ ls) after_key h = absurd (false≢true h)
    goes_on (colon ∷ ls) fresh h = absurd (false≢true h)
    goes_on (colon ∷ ls) after_value h = absurd (false≢true h)
    goes_on (colon ∷ ls) after_comma h = absurd (false≢true h)
    goes_on (colon ∷ ls) after_key h = goes_on ls fresh h

-- ---- the first token of the rest

-- an array comes first
abbrev is_array : List Token → Bool
is_array [] = false
is_array (begin_object ∷ ts) = false
is_array (end_object ∷ ts) = false
is_array (begin_array ∷ ts) = true
is_array (end_array ∷ ts) = false
is_array (key s ∷ ts) = false
is_array (string s ∷ ts) = false
is_array (number s ∷ ts) = false
is_array (boolean b ∷ ts) = false
is_array (null ∷ ts) = false
is_array (bad ∷ ts) = false

-- the first token decides
first_token : (t : Token) (c : Bool) (k : Place → List Token) → is_array (place_token fresh t c k) ≡ true
    → place_token after_comma t c k ≡ place_token fresh t c k
first_token begin_object c k h = refl
first_token end_object c k h = absurd (false≢true h)
first_token begin_array c k h = refl
first_token end_array c k h = absurd (false≢true h)
first_token (key s) c k h = refl
first_token (string s) true k h = refl
first_token (string s) false k h = refl
first_token (number s) c k h = refl
first_token (boolean v) c k h = refl
first_token null c k h = refl
first_token bad c k h = refl

-- an array may begin after a comma as at the beginning of a text
first : (ms : List Lexeme) → is_array (punctuate fresh ms) ≡ true → punctuate after_comma ms ≡ punctuate fresh ms
unfolding punctuate
first [] h = absurd (false≢true h)
first (token t ∷ ms) h = first_token t (begins_colon ms) (λ n. punctuate n ms) h
first (comma ∷ ms) h = refl
first (colon ∷ ms) h = refl

-- whole tokens, and an array's after a comma, are those of the text of both
pub tokens_cut : (xs ys : List ℕ) (rest : List Token) → is_whole false (tokens xs) ≡ true → tokens ys ≡ begin_array ∷ rest
    → tokens (xs ++ (44 ∷ ys)) ≡ tokens xs ++ tokens ys
tokens_cut xs ys rest whole array =
    ap (punctuate fresh) (lexed true ys xs (good true (lex between xs) fresh false whole))
    ∙ goes_on true (lex between ys) (lex between xs) fresh whole
    ∙ ap (λ ts. tokens xs ++ ts) (first (lex between ys) (ap is_array array))

-- tokens after which a value may follow, and those of an array's inside, are those of the text of both
pub tokens_opened : (xs ys : List ℕ) → is_open false (tokens xs) ≡ true → tokens (xs ++ (91 ∷ ys)) ≡ tokens xs ++ (begin_array ∷ tokens ys)
tokens_opened xs ys begun =
    ap (punctuate fresh) (lexed false ys xs (good false (lex between xs) fresh false begun))
    ∙ goes_on false (lex between ys) (lex between xs) fresh begun
