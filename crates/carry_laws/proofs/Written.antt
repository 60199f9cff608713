-- Texts of JSON values, and what the lexer makes of them.
use Rattle.std.proofs.Common.{◌≡◌, ℕ, true, false, List, [], ◌∷◌, ◌++◌, refl, sym, ap, ap₂, ◌∙◌, append_assoc}
use Rattle.std.specs.Prelude.{codes, ⊤}
use Rattle.json.specs.Json as json
use Rattle.json.specs.Token.{Token}
use Rattle.json.specs.Text.{content, plain}
use Rattle.json.specs.Word.{ends_word}
use Rattle.json.specs.Lex.{token, comma, string_token, lex, between, in_string}
use Rattle.json.specs.Print.{IsNumber, escape}
use Rattle.json.proofs.Printed.Strings.{content-escape, lex-escape}
use Rattle.json.proofs.Printed.Numbers.{lex-number}
use Rattle.meaning.specs.Words.{joined_by}
use Rattle.carry.specs.Carried.{list_text, quoted}
use Rattle.carry_laws.proofs.Lexemes.{json_lexemes, items_lexemes}

-- the text of a JSON value: the lexer passes it where a word may end after it
abbrev pub Writes : List ℕ → json.Json → Type 0
Writes text j = (rest : List ℕ) → ends_word rest ≡ true → lex between (text ++ rest) ≡ json_lexemes j ++ lex between rest

pub number_written : (s : List ℕ) → IsNumber s → Writes s (json.number s)
number_written s is rest ended = lex-number s rest is ended

-- a text between quotes, where nothing in it is escaped
pub quoted_lexed : (s rest : List ℕ) → escape s ≡ s → lex between (quoted s ++ rest) ≡ token (Token.string s) ∷ lex between rest
unfolding lex
quoted_lexed s rest same =
    ap (λ t. lex between (34 ∷ t)) (append_assoc s (34 ∷ []) rest)
    ∙ ap₂ (λ o ls. token (string_token o) ∷ ls) (ap (λ t. content plain (t ++ 34 ∷ rest)) (sym same) ∙ content-escape s rest)
    (ap (λ t. lex in_string (t ++ 34 ∷ rest)) (sym same) ∙ lex-escape s rest)

pub text_written : (s : List ℕ) → escape s ≡ s → Writes (quoted s) (json.string s)
text_written s same rest ended = quoted_lexed s rest same

-- each text is that of its item
abbrev pub AllWrite : List (List ℕ) → json.Items → Type 0
AllWrite [] json.no_items = ⊤
AllWrite [] (json.item j js) = ⊥
AllWrite (text ∷ texts) json.no_items = ⊥
AllWrite (text ∷ texts) (json.item j js) = Writes text j × AllWrite texts js

-- a separator is read as a comma, and the end of a list as its bracket
module _ (separator close : List ℕ)
    (separates : (rest : List ℕ) → lex between (separator ++ rest) ≡ comma ∷ lex between rest)
    (may_separate : (rest : List ℕ) → ends_word (separator ++ rest) ≡ true)
    (closes : (rest : List ℕ) → lex between (close ++ rest) ≡ token Token.end_array ∷ lex between rest)
    (may_close : (rest : List ℕ) → ends_word (close ++ rest) ≡ true) where
  pub joined_lexed : (texts : List (List ℕ)) (js : json.Items) (rest : List ℕ) → AllWrite texts js
      → lex between (joined_by separator texts ++ (close ++ rest)) ≡ items_lexemes false js ++ lex between rest
  joined_lexed [] json.no_items rest all = closes rest
  joined_lexed [] (json.item j js) rest all = absurd all
  joined_lexed (text ∷ texts) json.no_items rest all = absurd all
  joined_lexed (text ∷ []) (json.item j json.no_items) rest all =
      all.0 (close ++ rest) (may_close rest) ∙ ap (λ ls. json_lexemes j ++ ls) (closes rest)
      ∙ sym (append_assoc (json_lexemes j) (token Token.end_array ∷ []) (lex between rest))
  joined_lexed (text ∷ []) (json.item j (json.item k js)) rest all = absurd all.1
  joined_lexed (text ∷ next ∷ texts) (json.item j json.no_items) rest all = absurd all.1
  joined_lexed (text ∷ next ∷ texts) (json.item j (json.item k js)) rest all =
      let more = joined_by separator (next ∷ texts) in
      ap (lex between) (append_assoc (text ++ separator) more (close ++ rest) ∙ append_assoc text separator (more ++ (close ++ rest)))
      ∙ all.0 (separator ++ (more ++ (close ++ rest))) (may_separate (more ++ (close ++ rest)))
      ∙ ap (λ ls. json_lexemes j ++ ls) (separates (more ++ (close ++ rest))
      ∙ ap (λ ls. comma ∷ ls) (joined_lexed (next ∷ texts) (json.item k js) rest all.1))
      ∙ sym (append_assoc (json_lexemes j) (items_lexemes true (json.item k js)) (lex between rest))

-- a list on one line
pub list_written : (texts : List (List ℕ)) (js : json.Items) → AllWrite texts js → Writes (list_text texts) (json.array js)
unfolding lex
list_written texts js all rest ended =
    ap (λ t. lex between (91 ∷ t)) (append_assoc (joined_by (codes ", ") texts) (codes "]") rest)
    ∙ ap (λ ls. token Token.begin_array ∷ ls)
    (joined_lexed (codes ", ") (codes "]") (λ r. refl) (λ r. refl) (λ r. refl) (λ r. refl) texts js rest all)
