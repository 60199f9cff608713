-- The tree of a document whose transactions are written over.
use Rattle.std.proofs.Common.{◌≡◌, ℕ, ◌≤◌, Bool, true, false, cond, List, [], ◌∷◌, max, Option, Some}
use Rattle.std.proofs.Common.{None, refl, sym, ap, subst, ◌∙◌, arith}
use Rattle.std.specs.Prelude.{codes, option_and_then, option_map, unwrap_or}
use Rattle.std.specs.Str.{bytes_eq, is_utf8}
use Rattle.std.proofs.lemmas.Slice.Eq.{bytes_eq-Decides}
use Rattle.json.specs.Find.{as_array, get, get_member, later_or}
use Rattle.json.specs.Json as json
use Rattle.json.specs.Json.{if_last, value}
use Rattle.json.specs.Lex.{tokens}
use Rattle.json.specs.Token.{Token}
use Rattle.json.specs.Tree.{HasNumbers, ItemsHaveNumbers, depth, items_depth, members_depth}
use Rattle.json.proofs.Nesting.{value-depth}
use Rattle.json.proofs.Numbered.{document-HasNumbers}
use Rattle.json.proofs.Printed.Trees.{value-json_tokens}
use Rattle.json.proofs.Unique.Spelling.{value-json_tokens_back}
use Rattle.serde_json.specs.Data.{Data, Items, Members, Num, array, no_items, no_members, number, object, put}
use Rattle.serde_json.specs.Find as looked
use Rattle.serde_json.specs.Read.{number_of, of_items, of_json, of_members, read}
use Rattle.serde_json.proofs.Views.{get_member-put, get_member-put_other}
use Rattle.doc_tree.specs.Asked.{transactions_in}
use Rattle.lang.specs.Reading.{value_of}
use Rattle.carry.specs.Transactions.{transactions_of, tree_of}
use Rattle.carry.proofs.Reading.{member_numbers}

-- ---- the whole tree

-- a text of a value: its tree, of which all is read
record IsTreeOf (bytes : List ℕ) (d : Data) : Type 0 where
  tree : json.Json
  utf8 : is_utf8 bytes ≡ true
  whole : value 127 (tokens bytes) ≡ Some (tree, [])
  is : of_json tree ≡ Some d

last_of : (o : Option (json.Json × List Token)) (d : Data)
    → option_and_then of_json (option_and_then (λ p. if_last p.0 p.1) o) ≡ Some d
    → (j : json.Json) × (o ≡ Some (j, [])) × (of_json j ≡ Some d)
last_of None d e = cc
last_of (Some (j, [])) d e = (j, refl, e)
last_of (Some (j, (t ∷ ts))) d e = cc

tree_of_value : (bytes : List ℕ) (d : Data) → value_of bytes ≡ Some d → IsTreeOf bytes d
tree_of_value bytes d e = by (is_utf8 bytes) refl e
  where
    by : (b : Bool) → is_utf8 bytes ≡ b → cond b (read bytes) None ≡ Some d → IsTreeOf bytes d
    by true utf8 is =
        let found = last_of (value 127 (tokens bytes)) d is in
        record { tree = found.0; utf8 = utf8; whole = found.1; is = found.2 }
    by false utf8 is = cc

-- it is the tree that is written over
module _ (bytes : List ℕ) (d : Data) (t : IsTreeOf bytes d) where
  shallow : depth t.tree ≤ 127
  shallow = value-depth 127 (tokens bytes) [] t.tree t.whole

  whole_again : value 128 (tokens bytes) ≡ Some (t.tree, [])
  whole_again =
      ap (value 128) (value-json_tokens_back 127 (tokens bytes) [] t.tree t.whole)
      ∙ value-json_tokens t.tree 128 [] (omega (arith, shallow))

  document_is : json.document bytes ≡ Some t.tree
  document_is = ap (λ o. option_and_then (λ p. if_last p.0 p.1) o) whole_again

  tree_is : tree_of bytes ≡ Some t.tree
  tree_is = ap (λ b. cond b (json.document bytes) None) t.utf8 ∙ document_is

  numbers : HasNumbers t.tree
  numbers = document-HasNumbers bytes t.tree document_is

-- ---- the last member of a name

-- what a look-up finds once members are put in
abbrev Finds : Option json.Json → Option Data → Option Data → Type 0
Finds None before after = after ≡ before
Finds (Some j) before after = (e : Data) × (of_json j ≡ Some e) × (after ≡ Some e)

module _ (name : List ℕ) where
  after_put : (o : Option json.Json) (k : List ℕ) (j : json.Json) (e : Data) (found : Members) (after : Option Data)
      → of_json j ≡ Some e → Finds o (looked.get_member name (put k e found)) after
      → Finds (later_or o (cond (bytes_eq k name) (Some j) None)) (looked.get_member name found) after
  after_put (Some p) k j e found after is finds = finds
  after_put None k j e found after is finds = by (bytes_eq k name) refl
    where
      by : (b : Bool) → bytes_eq k name ≡ b → Finds (cond b (Some j) None) (looked.get_member name found) after
      by true same = (
        e,
        is,
        finds ∙ ap (λ n. looked.get_member n (put k e found)) (sym ((bytes_eq-Decides k name).0 same))
            ∙ get_member-put k e found,
      )
      by false other = finds ∙ get_member-put_other name k e found (λ same. apart other ((bytes_eq-Decides k name).1 (sym same)))
        where
          apart : bytes_eq k name ≡ false → bytes_eq k name ≡ true → ⊥
          apart a b = cc

  member_by : (o : Option Data) (k : List ℕ) (j : json.Json) (ms : json.Members) (found out : Members) → of_json j ≡ o
      → ((d : Data) → of_members ms (put k d found) ≡ Some out
      → Finds (get_member name ms) (looked.get_member name (put k d found)) (looked.get_member name out))
      → option_and_then (λ d. of_members ms (put k d found)) o ≡ Some out
      → Finds (later_or (get_member name ms) (cond (bytes_eq k name) (Some j) None)) (looked.get_member name found)
      (looked.get_member name out)
  member_by None k j ms found out is later rest = cc
  member_by (Some d) k j ms found out is later rest =
      after_put (get_member name ms) k j d found (looked.get_member name out) is (later d rest)

  finds_member : (ms : json.Members) (found out : Members) → of_members ms found ≡ Some out
      → Finds (get_member name ms) (looked.get_member name found) (looked.get_member name out)
  finds_member json.no_members found out e = ap (λ o. looked.get_member name (unwrap_or o found)) (sym e)
  finds_member (json.member k j ms) found out e =
      member_by (of_json j) k j ms found out refl (λ d. finds_member ms (put k d found) out) e

  -- it is no deeper than the members
  member_depth : (ms : json.Members) (j : json.Json) → get_member name ms ≡ Some j → depth j ≤ members_depth ms
  member_depth json.no_members j e = cc
  member_depth (json.member k p ms) j e =
      member_depth_by (get_member name ms) (bytes_eq k name) p ms j refl (λ f. member_depth ms j f) e
    where
      member_depth_by : (o : Option json.Json) (b : Bool) (p : json.Json) (ms : json.Members) (j : json.Json) → get_member name ms ≡ o
          → (get_member name ms ≡ Some j → depth j ≤ members_depth ms) → later_or o (cond b (Some p) None) ≡ Some j
          → depth j ≤ max (depth p) (members_depth ms)
      member_depth_by (Some q) b p ms j is later f = let deep = later (is ∙ f) in omega (arith, deep)
      member_depth_by None true p ms j is later f =
          let same : p ≡ j = ap (λ o. unwrap_or o p) f in
          subst (λ q. depth q ≤ max (depth p) (members_depth ms)) same (omega arith)
      member_depth_by None false p ms j is later f = cc

-- ---- the transactions

-- the transactions of what has a value
abbrev no_list : Option Data → Items
no_list o = unwrap_or (option_map transactions_in o) no_items

abbrev SomeItems : json.Items → Items → Type 0
SomeItems js ds = (of_items js ≡ Some ds) × (items_depth js ≤ 125)

array_is : (js : json.Items) (o : Option Items) (d : Data) → of_items js ≡ o → option_map array o ≡ Some d
    → of_items js ≡ Some (unwrap_or (looked.as_array d) no_items)
array_is js None d is e = cc
array_is js (Some ds) d is e = is ∙ ap (λ o. Some (unwrap_or (option_and_then looked.as_array o) no_items)) e

-- a list and its tree are the same list
same_list : (j : json.Json) (d : Data) → of_json j ≡ Some d → depth j ≤ 126
    → SomeItems (unwrap_or (as_array j) json.no_items) (unwrap_or (looked.as_array d) no_items)
same_list json.null d e deep = (ap (λ o. Some (unwrap_or (option_and_then looked.as_array o) no_items)) e, omega arith)
same_list (json.boolean b) d e deep = (ap (λ o. Some (unwrap_or (option_and_then looked.as_array o) no_items)) e, omega arith)
same_list (json.number s) d e deep = by (number_of s) e
  where
    by : (o : Option Num) → option_map number o ≡ Some d → SomeItems json.no_items (unwrap_or (looked.as_array d) no_items)
    by None e = cc
    by (Some n) e = (ap (λ o. Some (unwrap_or (option_and_then looked.as_array o) no_items)) e, omega arith)
same_list (json.string s) d e deep = (ap (λ o. Some (unwrap_or (option_and_then looked.as_array o) no_items)) e, omega arith)
same_list (json.array js) d e deep = (array_is js (of_items js) d refl e, omega (arith, deep))
same_list (json.object ms) d e deep = by (of_members ms no_members) e
  where
    by : (o : Option Members) → option_map object o ≡ Some d → SomeItems json.no_items (unwrap_or (looked.as_array d) no_items)
    by None e = cc
    by (Some ds) e = (ap (λ o. Some (unwrap_or (option_and_then looked.as_array o) no_items)) e, omega arith)

-- what is found of a member is the list of its value
list_of_member : (o : Option json.Json) (found : Option Data) → Finds o None found
    → ((j : json.Json) → o ≡ Some j → depth j ≤ 126)
    → SomeItems (unwrap_or (option_and_then as_array o) json.no_items) (unwrap_or (option_and_then looked.as_array found) no_items)
list_of_member None found finds deep = (ap (λ f. Some (unwrap_or (option_and_then looked.as_array f) no_items)) (sym finds), omega arith)
list_of_member (Some j) found finds deep =
    let list = same_list j finds.0 finds.1 (deep j refl) in
    subst (λ f. SomeItems (unwrap_or (as_array j) json.no_items) (unwrap_or (option_and_then looked.as_array f) no_items))
    (sym finds.2) list

members_list : (ms : json.Members) (o : Option Members) (d : Data) → of_members ms no_members ≡ o → option_map object o ≡ Some d
    → members_depth ms ≤ 126 → SomeItems (transactions_of (Some (json.object ms))) (transactions_in d)
members_list ms None d is e deep = cc
members_list ms (Some out) d is e deep =
    let k = codes "transactions" in
    subst (λ x. SomeItems (transactions_of (Some (json.object ms))) (transactions_in x)) (object_is out d e)
    (list_of_member (get_member k ms) (looked.get_member k out) (finds_member k ms no_members out is)
    (λ j found. let deeper = member_depth k ms j found in omega (arith, deeper, deep)))
  where
    object_is : (out : Members) (d : Data) → Some (object out) ≡ Some d → object out ≡ d
    object_is out d e = cc

tree_list : (j : json.Json) (d : Data) → of_json j ≡ Some d → depth j ≤ 127 → SomeItems (transactions_of (Some j)) (transactions_in d)
tree_list json.null d e deep = (ap (λ o. Some (no_list o)) e, omega arith)
tree_list (json.boolean b) d e deep = (ap (λ o. Some (no_list o)) e, omega arith)
tree_list (json.number s) d e deep = by (number_of s) e
  where
    by : (o : Option Num) → option_map number o ≡ Some d → SomeItems json.no_items (transactions_in d)
    by None e = cc
    by (Some n) e = (ap (λ o. Some (no_list o)) e, omega arith)
tree_list (json.string s) d e deep = (ap (λ o. Some (no_list o)) e, omega arith)
tree_list (json.array js) d e deep = by (of_items js) e
  where
    by : (o : Option Items) → option_map array o ≡ Some d → SomeItems json.no_items (transactions_in d)
    by None e = cc
    by (Some ds) e = (ap (λ o. Some (no_list o)) e, omega arith)
tree_list (json.object ms) d e deep = members_list ms (of_members ms no_members) d refl e (omega (arith, deep))

-- what is written over of a document that was read: its transactions
pub record AreTransactions (js : json.Items) (ds : Items) : Type 0 where
  pub numbers : ItemsHaveNumbers js
  pub is : of_items js ≡ Some ds
  pub flat : items_depth js ≤ 125

numbers_of_list : (j : json.Json) → HasNumbers j → ItemsHaveNumbers (transactions_of (Some j))
numbers_of_list j has = by (option_and_then as_array (get (codes "transactions") j)) refl
  where
    by : (o : Option json.Items) → option_and_then as_array (get (codes "transactions") j) ≡ o
        → ItemsHaveNumbers (unwrap_or o json.no_items)
    by None e = tt
    by (Some js) e = member_numbers j js has e

pub next_transactions : (bytes : List ℕ) (d : Data) → value_of bytes ≡ Some d
    → AreTransactions (transactions_of (tree_of bytes)) (transactions_in d)
next_transactions bytes d e =
    let t = tree_of_value bytes d e in
    let list = tree_list t.tree d t.is (shallow bytes d t) in
    subst (λ tree. AreTransactions (transactions_of tree) (transactions_in d)) (sym (tree_is bytes d t))
    (record { numbers = numbers_of_list t.tree (numbers bytes d t); is = list.0; flat = list.1 })
