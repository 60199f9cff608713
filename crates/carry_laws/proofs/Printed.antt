-- What the writer of JSON prints of a value is the text of that value.
use Rattle.std.proofs.Common.{◌≡◌, ℕ, Bool, true, false, cond, List, [], ◌∷◌, ◌++◌, fold, refl, sym, ap, ap₂, ◌∙◌, append_assoc, append-nil}
use Rattle.json.specs.Json.{Json, null, boolean, number, string, array, object, Items, no_items, item, Members, no_members, member}
use Rattle.json.specs.Token.{Token}
use Rattle.json.specs.Token as tokens
use Rattle.json.specs.Word.{ends_word, word}
use Rattle.json.specs.Lex.{token, comma, colon, string_token, lex, between}
use Rattle.json.specs.Print.{ends, escape, print, print_from, quoted, separator, token_text}
use Rattle.json.specs.Tree.{json_tokens, items_tokens, members_tokens, HasNumbers, ItemsHaveNumbers, MembersHaveNumbers}
use Rattle.json.proofs.Printed.Strings.{content-escape, lex-escape}
use Rattle.json.proofs.Printed.Numbers.{in_word-ended, lex-number}
use Rattle.json.proofs.Printed.Tokens.{print_from-append}
use Rattle.carry.specs.Transactions.{item_texts}
use Rattle.carry_laws.proofs.Lexemes.{items_lexemes, json_lexemes, members_lexemes}
use Rattle.carry_laws.proofs.Written.{AllWrite, Writes}

-- whether a value just ended after these tokens
abbrev after : Bool → List Token → Bool
after before ts = fold (λ _ t. ends t) before ts

after-append : (before : Bool) (ts us : List Token) → after before (ts ++ us) ≡ after (after before ts) us
after-append before [] us = refl
after-append before (t ∷ ts) us = after-append (ends t) ts us

mutual
  value_ends : (before : Bool) (j : Json) → after before (json_tokens j) ≡ true
  value_ends before null = refl
  value_ends before (boolean b) = refl
  value_ends before (number s) = refl
  value_ends before (string s) = refl
  value_ends before (array js) = items_end false js
  value_ends before (object ms) = members_end false ms

  items_end : (before : Bool) (js : Items) → after before (items_tokens js) ≡ true
  items_end before no_items = refl
  items_end before (item j js) = after-append before (json_tokens j) (items_tokens js) ∙ items_end (after before (json_tokens j)) js

  members_end : (before : Bool) (ms : Members) → after before (members_tokens ms) ≡ true
  members_end before no_members = refl
  members_end before (member k j ms) =
      after-append false (json_tokens j) (members_tokens ms) ∙ members_end (after false (json_tokens j)) ms

-- a value is printed, and then what comes after it
value_then : (before : Bool) (j : Json) (rest : List Token)
    → print_from before (json_tokens j ++ rest) ≡ print_from before (json_tokens j) ++ print_from true rest
value_then before j rest =
    print_from-append before (json_tokens j) rest
    ∙ ap (λ b. print_from before (json_tokens j) ++ print_from b rest) (value_ends before j)

-- after a value there is a comma before the next
comma_first : (j : Json) (rest : List Token) → print_from true (json_tokens j ++ rest) ≡ 44 ∷ print_from false (json_tokens j ++ rest)
unfolding print_from
comma_first null rest = refl
comma_first (boolean b) rest = refl
comma_first (number s) rest = refl
comma_first (string s) rest = refl
comma_first (array js) rest = refl
comma_first (object ms) rest = refl

-- a word may end before what comes after a value
items_delimit : (js : Items) (rest : List ℕ) → ends_word (print_from true (items_tokens js) ++ rest) ≡ true
unfolding print_from
items_delimit no_items rest = refl
items_delimit (item j js) rest = ap (λ text. ends_word (text ++ rest)) (comma_first j (items_tokens js))

members_delimit : (ms : Members) (rest : List ℕ) → ends_word (print_from true (members_tokens ms) ++ rest) ≡ true
unfolding print_from
members_delimit no_members rest = refl
members_delimit (member k j ms) rest = refl

-- a text in quotes
quoted_first : (s rest : List ℕ) → lex between (quoted s ++ rest) ≡ token (tokens.string s) ∷ lex between rest
unfolding lex
quoted_first s rest =
    ap (λ t. lex between (34 ∷ t)) (append_assoc (escape s) (34 ∷ []) rest)
    ∙ ap₂ (λ o ls. token (string_token o) ∷ ls) (content-escape s rest) (lex-escape s rest)

boolean_first : (b : Bool) (rest : List ℕ) → ends_word rest ≡ true
    → lex between (token_text (tokens.boolean b) ++ rest) ≡ token (tokens.boolean b) ∷ lex between rest
unfolding lex word
boolean_first true rest ended =
    ap₂ (λ b ls. token (cond b (tokens.boolean true) tokens.bad) ∷ ls) ended (in_word-ended rest ended)
boolean_first false rest ended =
    ap₂ (λ b ls. token (cond b (tokens.boolean false) tokens.bad) ∷ ls) ended (in_word-ended rest ended)

null_first : (rest : List ℕ) → ends_word rest ≡ true → lex between (token_text tokens.null ++ rest) ≡ token tokens.null ∷ lex between rest
unfolding lex word
null_first rest ended = ap₂ (λ b ls. token (cond b tokens.null tokens.bad) ∷ ls) ended (in_word-ended rest ended)

comma_lexed : (rest : List ℕ) → lex between (44 ∷ rest) ≡ comma ∷ lex between rest
unfolding lex
comma_lexed rest = refl

colon_lexed : (rest : List ℕ) → lex between (58 ∷ rest) ≡ colon ∷ lex between rest
unfolding lex
colon_lexed rest = refl

-- one token is printed as its text
alone : (t : Token) (rest : List ℕ) → print (t ∷ []) ++ rest ≡ token_text t ++ rest
unfolding print_from
alone t rest = by (separator false t) refl
  where
    by : (front : List ℕ) → front ≡ [] → (front ++ (token_text t ++ [])) ++ rest ≡ token_text t ++ rest
    by front none = rw none (ap (λ text. text ++ rest) (append-nil (token_text t)))

-- an item, without what separates it, and those after it
item_then : (j : Json) (js : Items) (rest : List ℕ) → Writes (print (json_tokens j)) j
    → lex between (print_from true (items_tokens js) ++ rest) ≡ items_lexemes true js ++ lex between rest
    → lex between (print_from false (json_tokens j ++ items_tokens js) ++ rest)
    ≡ (json_lexemes j ++ items_lexemes true js) ++ lex between rest
item_then j js rest first others =
    ap (λ text. lex between (text ++ rest)) (value_then false j (items_tokens js))
    ∙ ap (lex between) (append_assoc (print (json_tokens j)) (print_from true (items_tokens js)) rest)
    ∙ first (print_from true (items_tokens js) ++ rest) (items_delimit js rest)
    ∙ ap (λ ls. json_lexemes j ++ ls) others
    ∙ sym (append_assoc (json_lexemes j) (items_lexemes true js) (lex between rest))

-- a member, without what separates it, and those after it
member_then : (k : List ℕ) (j : Json) (ms : Members) (rest : List ℕ) → Writes (print (json_tokens j)) j
    → lex between (print_from true (members_tokens ms) ++ rest) ≡ members_lexemes true ms ++ lex between rest
    → lex between (((quoted k ++ 58 ∷ []) ++ print_from false (json_tokens j ++ members_tokens ms)) ++ rest)
    ≡ (token (tokens.string k) ∷ colon ∷ (json_lexemes j ++ members_lexemes true ms)) ++ lex between rest
member_then k j ms rest first others =
    let value = print_from false (json_tokens j ++ members_tokens ms) in
    ap (lex between) (append_assoc (quoted k ++ 58 ∷ []) value rest ∙ append_assoc (quoted k) (58 ∷ []) (value ++ rest))
    ∙ quoted_first k (58 ∷ (value ++ rest))
    ∙ ap (λ ls. token (tokens.string k) ∷ ls) (colon_lexed (value ++ rest)
    ∙ ap (λ ls. colon ∷ ls) (
    ap (λ text. lex between (text ++ rest)) (value_then false j (members_tokens ms))
    ∙ ap (lex between) (append_assoc (print (json_tokens j)) (print_from true (members_tokens ms)) rest)
    ∙ first (print_from true (members_tokens ms) ++ rest) (members_delimit ms rest)
    ∙ ap (λ ls. json_lexemes j ++ ls) others
    ∙ sym (append_assoc (json_lexemes j) (members_lexemes true ms) (lex between rest))))

mutual
  unfolding lex print_from

  pub value_printed : (j : Json) → HasNumbers j → Writes (print (json_tokens j)) j
  value_printed null numbers rest ended = null_first rest ended
  value_printed (boolean b) numbers rest ended = ap (lex between) (alone (tokens.boolean b) rest) ∙ boolean_first b rest ended
  value_printed (number s) numbers rest ended = ap (lex between) (alone (tokens.number s) rest) ∙ lex-number s rest numbers ended
  value_printed (string s) numbers rest ended = ap (lex between) (alone (tokens.string s) rest) ∙ quoted_first s rest
  value_printed (array js) numbers rest ended = ap (λ ls. token tokens.begin_array ∷ ls) (items_printed false js numbers rest)
  value_printed (object ms) numbers rest ended = ap (λ ls. token tokens.begin_object ∷ ls) (members_printed false ms numbers rest)

  items_printed : (later : Bool) (js : Items) → ItemsHaveNumbers js → (rest : List ℕ)
      → lex between (print_from later (items_tokens js) ++ rest) ≡ items_lexemes later js ++ lex between rest
  items_printed true no_items numbers rest = refl
  items_printed false no_items numbers rest = refl
  items_printed true (item j js) numbers rest =
      ap (λ text. lex between (text ++ rest)) (comma_first j (items_tokens js))
      ∙ ap (λ ls. comma ∷ ls) (item_then j js rest (value_printed j numbers.0) (items_printed true js numbers.1 rest))
  items_printed false (item j js) numbers rest = item_then j js rest (value_printed j numbers.0) (items_printed true js numbers.1 rest)

  members_printed : (later : Bool) (ms : Members) → MembersHaveNumbers ms → (rest : List ℕ)
      → lex between (print_from later (members_tokens ms) ++ rest) ≡ members_lexemes later ms ++ lex between rest
  members_printed true no_members numbers rest = refl
  members_printed false no_members numbers rest = refl
  members_printed true (member k j ms) numbers rest =
      ap (λ ls. comma ∷ ls) (member_then k j ms rest (value_printed j numbers.0) (members_printed true ms numbers.1 rest))
  members_printed false (member k j ms) numbers rest =
      member_then k j ms rest (value_printed j numbers.0) (members_printed true ms numbers.1 rest)

-- each text of a list of values
pub items_written : (js : Items) → ItemsHaveNumbers js → AllWrite (item_texts js) js
items_written no_items numbers = tt
items_written (item j js) numbers = (value_printed j numbers.0, items_written js numbers.1)
