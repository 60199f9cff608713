-- The document with carried objects, as JSON.
use Rattle.std.proofs.Common.{◌≡◌, ◌≤◌, ℕ, false, true, List, [], ◌∷◌, ◌++◌, map, decimal, refl, ap, ◌∙◌, append_assoc}
use Rattle.std.specs.Prelude.{codes}
use Rattle.std.specs.List.{AllByRecursion}
use Rattle.json.specs.Json as json
use Rattle.json.specs.Lex.{between, colon, comma, lex, token}
use Rattle.json.specs.Text.{content}
use Rattle.json.specs.Token.{Token}
use Rattle.json.specs.Tree.{ItemsHaveNumbers}
use Rattle.json.proofs.Printed.Numbers.{lex-number}
use Rattle.meaning.specs.Words.{joined_by}
use Rattle.batch.specs.Names.{is_name}
use Rattle.doc_rules.specs.declared.limits.TheConstants.{LAST_VERSION}
use Rattle.carry.specs.Carried.{document_head}
use Rattle.carry.specs.Joined.{StartOf, name_of, object_text_of}
use Rattle.carry.specs.Transactions.{item_texts, transactions_of, tree_of, joined_text}
use Rattle.carry_laws.proofs.CarriedJson.{object_json, object_written, objects_key, version_key, version_written}
use Rattle.carry_laws.proofs.Lexemes.{items_lexemes, json_lexemes}
use Rattle.carry_laws.proofs.Listed.{IsWritable}
use Rattle.carry_laws.proofs.Printed.{items_written}
use Rattle.carry_laws.proofs.Written.{AllWrite, joined_lexed}

abbrev pub starts_json : List StartOf → json.Items
starts_json [] = json.no_items
starts_json (start ∷ starts) = json.item (object_json start.names start.place start.value) (starts_json starts)

abbrev pub joined_json : ℕ → List StartOf → json.Items → json.Json
joined_json version starts js = json.object (json.member (codes "ordtx") (json.number (decimal version))
    (json.member (codes "objects") (json.array (starts_json starts))
    (json.member (codes "transactions") (json.array js) json.no_members)))

-- a start that has a name of a version, and that can be written
abbrev pub CanStart : ℕ → StartOf → Type 0
CanStart version start = (is_name version (name_of start) ≡ true) × IsWritable version start.names start.value

starts_written : (version : ℕ) (starts : List StartOf) → AllByRecursion (CanStart version) starts
    → AllWrite (map object_text_of starts) (starts_json starts)
starts_written version [] ok = tt
starts_written version (start ∷ starts) ok =
    (object_written version start.names start.place start.value ok.0.0 ok.0.1, starts_written version starts ok.1)

transactions_key : (rest : List ℕ) → lex between (codes ",\n\"transactions\": [\n" ++ rest)
    ≡ comma ∷ token (Token.string (codes "transactions")) ∷ colon ∷ token Token.begin_array ∷ lex between rest
unfolding lex content
transactions_key rest = refl

last_bracket : lex between (codes "}\n") ≡ token Token.end_object ∷ []
unfolding lex
last_bracket = refl

-- a list of texts, each on its line, and its bracket
lines_lexed : (texts : List (List ℕ)) (js : json.Items) (rest : List ℕ) → AllWrite texts js
    → lex between (joined_by (codes ",\n") texts ++ (codes "\n]" ++ rest)) ≡ items_lexemes false js ++ lex between rest
unfolding lex
lines_lexed texts js rest all = joined_lexed (codes ",\n") (codes "\n]") (λ r. refl) (λ r. refl) (λ r. refl) (λ r. refl) texts js rest all

pub text_lexed : (version : ℕ) → version ≤ LAST_VERSION → (starts : List StartOf) (bytes : List ℕ)
    → AllByRecursion (CanStart version) starts
    → ItemsHaveNumbers (transactions_of (tree_of bytes))
    → lex between (joined_text version starts bytes) ≡ json_lexemes (joined_json version starts (transactions_of (tree_of bytes)))
text_lexed version known starts bytes ok numbers =
    let head = document_head version in
    let js = transactions_of (tree_of bytes) in
    let objects = joined_by (codes ",\n") (map object_text_of starts) in
    let transactions = joined_by (codes ",\n") (item_texts js) in
    let tail = transactions ++ (codes "\n]" ++ codes "}\n") in
    let last = codes ",\n\"transactions\": [\n" ++ tail in
    let middle = codes "\n],\n\"transactions\": [\n" in
    let closing = codes "\n]}\n" in
    ap (lex between)
    (append_assoc (head ++ objects ++ middle) transactions closing
    ∙ append_assoc (head ++ objects) middle (transactions ++ closing)
    ∙ append_assoc head objects (middle ++ (transactions ++ closing)))
    ∙ version_key version (objects ++ (codes "\n]" ++ last))
    ∙ ap (λ ls. token Token.begin_object ∷ token (Token.string (codes "ordtx")) ∷ colon ∷ ls) (
    lex-number (decimal version) _ (version_written version known) refl
    ∙ ap (λ ls. token (Token.number (decimal version)) ∷ ls) (
    objects_key (objects ++ (codes "\n]" ++ last))
    ∙ ap (λ ls. comma ∷ token (Token.string (codes "objects")) ∷ colon ∷ token Token.begin_array ∷ ls) (
    lines_lexed (map object_text_of starts) (starts_json starts) last (starts_written version starts ok)
    ∙ ap (λ ls. items_lexemes false (starts_json starts) ++ ls) (
    transactions_key tail
    ∙ ap (λ ls. comma ∷ token (Token.string (codes "transactions")) ∷ colon ∷ token Token.begin_array ∷ ls) (
    lines_lexed (item_texts js) js (codes "}\n") (items_written js numbers)
    ∙ ap (λ ls. items_lexemes false js ++ ls) last_bracket
    )))))
