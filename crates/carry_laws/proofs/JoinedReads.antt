-- The document with carried objects is read as its value.
use Rattle.std.proofs.Common.{◌≡◌, ℕ, ◌≤◌, List, [], ◌∷◌, Some, None, refl, sym, ap, ◌∙◌, arith, append-nil, IsUtf8}
use Rattle.std.specs.Prelude.{cond, option_and_then}
use Rattle.std.specs.List.{AllByRecursion}
use Rattle.std.proofs.lemmas.Str.{is_utf8-from_IsUtf8}
use Rattle.json.specs.Json as json
use Rattle.json.specs.Tree.{depth, items_depth}
use Rattle.json.proofs.Printed.Trees.{value-json_tokens}
use Rattle.serde_json.specs.Data.{Items}
use Rattle.serde_json.specs.Read.{max_depth, of_items, of_json, read}
use Rattle.doc_rules.specs.declared.limits.TheConstants.{LAST_VERSION}
use Rattle.lang.specs.Reading.{value_of}
use Rattle.carry.specs.Joined.{StartOf}
use Rattle.carry.specs.Transactions.{joined_text, transactions_of, tree_of}
use Rattle.carry_laws.specs.Joined.{joined_data, starts_data}
use Rattle.carry_laws.proofs.CarriedReads.{object_read, start_flat, version_number}
use Rattle.carry_laws.proofs.JoinedJson.{CanStart, joined_json, starts_json, text_lexed}
use Rattle.carry_laws.proofs.Lexemes.{tokens_alone}
use Rattle.carry_laws.proofs.NextTree.{AreTransactions}

starts_read : (version : ℕ) (starts : List StartOf) → AllByRecursion (CanStart version) starts
    → of_items (starts_json starts) ≡ Some (starts_data starts)
starts_read version [] ok = refl
starts_read version (start ∷ starts) ok =
    rw (object_read start.names version start.place start.value ok.0.1, starts_read version starts ok.1)

starts_flat : (starts : List StartOf) → items_depth (starts_json starts) ≤ 3
starts_flat [] = omega arith
starts_flat (start ∷ starts) = omega (arith, start_flat start.names start.value, starts_flat starts)

module _ (version : ℕ) (known : version ≤ LAST_VERSION) (starts : List StartOf) (js : json.Items) (ds : Items)
    (ok : AllByRecursion (CanStart version) starts) (t : AreTransactions js ds) where
  document_read : of_json (joined_json version starts js) ≡ Some (joined_data version starts ds)
  document_read = rw (version_number version known, starts_read version starts ok, t.is)

  shallow : depth (joined_json version starts js) ≤ 127
  shallow = let flat = t.flat in omega (arith, starts_flat starts, flat)

module _ (version : ℕ) (known : version ≤ LAST_VERSION) where
  pub joined_read : (starts : List StartOf) (bytes : List ℕ) (ds : Items) → AllByRecursion (CanStart version) starts
      → AreTransactions (transactions_of (tree_of bytes)) ds
      → read (joined_text version starts bytes) ≡ Some (joined_data version starts ds)
  joined_read starts bytes ds ok t =
      let js = transactions_of (tree_of bytes) in
      let j = joined_json version starts js in
      let tokens_are = tokens_alone (joined_text version starts bytes) j (text_lexed version known starts bytes ok t.numbers) in
      ap (λ o. option_and_then of_json (option_and_then (λ p. json.if_last p.0 p.1) o))
      (ap (json.value max_depth) (tokens_are ∙ sym (append-nil _))
      ∙ value-json_tokens j max_depth [] (shallow version known starts js ds ok t))
      ∙ document_read version known starts js ds ok t

  pub joined_value : (starts : List StartOf) (bytes : List ℕ) (ds : Items) → AllByRecursion (CanStart version) starts
      → AreTransactions (transactions_of (tree_of bytes)) ds → IsUtf8 (joined_text version starts bytes)
      → value_of (joined_text version starts bytes) ≡ Some (joined_data version starts ds)
  joined_value starts bytes ds ok t utf8 =
      let text = joined_text version starts bytes in
      ap (λ b. cond b (read text) None) (is_utf8-from_IsUtf8 text utf8) ∙ joined_read starts bytes ds ok t
