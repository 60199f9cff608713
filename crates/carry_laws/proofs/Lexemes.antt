-- The lexemes of a JSON value, and the tokens that they are.
use Rattle.std.proofs.Common.{◌≡◌, ℕ, Bool, true, false, cond, List, [], ◌∷◌, ◌++◌, refl, sym, ap, ◌∙◌, append_assoc, append-nil}
use Rattle.json.specs.Token.{Token}
use Rattle.json.specs.Json.{Json, null, boolean, number, string, array, object, Items, no_items, item, Members, no_members, member}
use Rattle.json.specs.Lex.{Lexeme, token, comma, colon, Place, fresh, after_value, after_comma, begins_colon, place_token, punctuate}
use Rattle.json.specs.Lex.{between, lex, tokens}
use Rattle.json.specs.Tree.{json_tokens, items_tokens, members_tokens}

-- a comma, where something comes before
abbrev comma_if : Bool → List Lexeme
comma_if later = cond later (comma ∷ []) []

abbrev mutual
  pub json_lexemes : Json → List Lexeme
  json_lexemes null = token Token.null ∷ []
  json_lexemes (boolean b) = token (Token.boolean b) ∷ []
  json_lexemes (number s) = token (Token.number s) ∷ []
  json_lexemes (string s) = token (Token.string s) ∷ []
  json_lexemes (array js) = token Token.begin_array ∷ items_lexemes false js
  json_lexemes (object ms) = token Token.begin_object ∷ members_lexemes false ms

  -- with the closing bracket
  pub items_lexemes : Bool → Items → List Lexeme
  items_lexemes later no_items = token Token.end_array ∷ []
  items_lexemes later (item j js) = comma_if later ++ (json_lexemes j ++ items_lexemes true js)

  pub members_lexemes : Bool → Members → List Lexeme
  members_lexemes later no_members = token Token.end_object ∷ []
  members_lexemes later (member k j ms) = comma_if later ++ (token (Token.string k) ∷ colon ∷ (json_lexemes j ++ members_lexemes true ms))

-- a value comes before the items or members that are left, or a bracket
abbrev place : Bool → Place
place later = cond later after_value fresh

-- a comma or a bracket comes before a value
abbrev begin : Bool → Place
begin later = cond later after_comma fresh

text_placed : (later : Bool) (s : List ℕ) (rest : List Lexeme) → begins_colon rest ≡ false
    → punctuate (begin later) (token (Token.string s) ∷ rest) ≡ Token.string s ∷ punctuate after_value rest
unfolding punctuate
text_placed true s rest e = ap (λ b. place_token after_comma (Token.string s) b (λ next. punctuate next rest)) e
text_placed false s rest e = ap (λ b. place_token fresh (Token.string s) b (λ next. punctuate next rest)) e

items_no_colon : (js : Items) (rest : List Lexeme) → begins_colon (items_lexemes true js ++ rest) ≡ false
items_no_colon no_items rest = refl
items_no_colon (item j js) rest = refl

members_no_colon : (ms : Members) (rest : List Lexeme) → begins_colon (members_lexemes true ms ++ rest) ≡ false
members_no_colon no_members rest = refl
members_no_colon (member k j ms) rest = refl

-- a value, and then what is left
then_placed : (begun : Place) (value more after : List Lexeme) (written left : List Token)
    → punctuate begun (value ++ (more ++ after)) ≡ written ++ punctuate after_value (more ++ after)
    → punctuate after_value (more ++ after) ≡ left ++ punctuate after_value after
    → punctuate begun ((value ++ more) ++ after) ≡ (written ++ left) ++ punctuate after_value after
then_placed begun value more after written left first second =
    ap (punctuate begun) (append_assoc value more after) ∙ first ∙ ap (λ ts. written ++ ts) second
    ∙ sym (append_assoc written left (punctuate after_value after))

mutual
  unfolding punctuate

  pub value_placed : (later : Bool) (j : Json) (rest : List Lexeme) → begins_colon rest ≡ false
      → punctuate (begin later) (json_lexemes j ++ rest) ≡ json_tokens j ++ punctuate after_value rest
  value_placed true null rest e = refl
  value_placed false null rest e = refl
  value_placed true (boolean b) rest e = refl
  value_placed false (boolean b) rest e = refl
  value_placed true (number s) rest e = refl
  value_placed false (number s) rest e = refl
  value_placed later (string s) rest e = text_placed later s rest e
  value_placed true (array js) rest e = ap (λ ts. Token.begin_array ∷ ts) (items_placed false js rest)
  value_placed false (array js) rest e = ap (λ ts. Token.begin_array ∷ ts) (items_placed false js rest)
  value_placed true (object ms) rest e = ap (λ ts. Token.begin_object ∷ ts) (members_placed false ms rest)
  value_placed false (object ms) rest e = ap (λ ts. Token.begin_object ∷ ts) (members_placed false ms rest)

  items_placed : (later : Bool) (js : Items) (rest : List Lexeme)
      → punctuate (place later) (items_lexemes later js ++ rest) ≡ items_tokens js ++ punctuate after_value rest
  items_placed true no_items rest = refl
  items_placed false no_items rest = refl
  items_placed true (item j js) rest = then_placed after_comma (json_lexemes j) (items_lexemes true js) rest (json_tokens j)
      (items_tokens js)
      (value_placed true j (items_lexemes true js ++ rest) (items_no_colon js rest)) (items_placed true js rest)
  items_placed false (item j js) rest = then_placed fresh (json_lexemes j) (items_lexemes true js) rest (json_tokens j) (items_tokens js)
      (value_placed false j (items_lexemes true js ++ rest) (items_no_colon js rest)) (items_placed true js rest)

  members_placed : (later : Bool) (ms : Members) (rest : List Lexeme)
      → punctuate (place later) (members_lexemes later ms ++ rest) ≡ members_tokens ms ++ punctuate after_value rest
  members_placed true no_members rest = refl
  members_placed false no_members rest = refl
  members_placed true (member k j ms) rest = ap (λ ts. Token.key k ∷ ts)
      (then_placed fresh (json_lexemes j) (members_lexemes true ms) rest (json_tokens j) (members_tokens ms)
      (value_placed false j (members_lexemes true ms ++ rest) (members_no_colon ms rest)) (members_placed true ms rest))
  members_placed false (member k j ms) rest = ap (λ ts. Token.key k ∷ ts)
      (then_placed fresh (json_lexemes j) (members_lexemes true ms) rest (json_tokens j) (members_tokens ms)
      (value_placed false j (members_lexemes true ms ++ rest) (members_no_colon ms rest)) (members_placed true ms rest))

-- the tokens of a value that stands alone
pub tokens_alone : (text : List ℕ) (j : Json) → lex between text ≡ json_lexemes j → tokens text ≡ json_tokens j
unfolding punctuate
tokens_alone text j e =
    ap (punctuate fresh) (e ∙ sym (append-nil (json_lexemes j))) ∙ value_placed false j [] refl ∙ append-nil (json_tokens j)
