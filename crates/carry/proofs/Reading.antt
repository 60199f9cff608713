-- What is read of a document whose transactions are written over.
use Rattle.std.proofs.Common.{◌≡◌, Bool, true, false, cond, List, ℕ, Option, Some, None, refl, ap, ◌∙◌, IsUtf8}
use Rattle.std.specs.Prelude.{codes, option_and_then}
use Rattle.std.specs.Str.{is_utf8}
use Rattle.std.proofs.lemmas.Str.{IsUtf8-from_is_utf8, is_utf8-from_IsUtf8}
use Rattle.json.specs.Find.{as_array, get}
use Rattle.json.specs.Json.{Items, Json, array, boolean, document, null, number, object, string}
use Rattle.json.specs.Tree.{HasNumbers, ItemsHaveNumbers}
use Rattle.json.proofs.Numbered.{HasNumbers-get}
use Rattle.carry.specs.Transactions.{tree_of}

pub tree_read : (bytes : List ℕ) (j : Json) → IsUtf8 bytes → document bytes ≡ Some j → tree_of bytes ≡ Some j
tree_read bytes j utf8 is = ap (λ b. cond b (document bytes) None) (is_utf8-from_IsUtf8 bytes utf8) ∙ is

pub no_tree : (bytes : List ℕ) → (IsUtf8 bytes → document bytes ≡ None) → tree_of bytes ≡ None
no_tree bytes refused = by (is_utf8 bytes) (λ e. refused (IsUtf8-from_is_utf8 bytes e))
  where
    by : (b : Bool) → (b ≡ true → document bytes ≡ None) → cond b (document bytes) None ≡ None
    by true none = none refl
    by false none = refl

-- the items of a list have numbers where it has them
listed_numbers : (p : Json) (js : Items) → HasNumbers p → as_array p ≡ Some js → ItemsHaveNumbers js
listed_numbers null js numbers e = cc
listed_numbers (boolean b) js numbers e = cc
listed_numbers (number s) js numbers e = cc
listed_numbers (string s) js numbers e = cc
listed_numbers (array ks) js numbers e = subst_items ks js numbers e
  where
    same : (ks js : Items) → Some ks ≡ Some js → ks ≡ js
    same ks js e = cc

    subst_items : (ks js : Items) → ItemsHaveNumbers ks → Some ks ≡ Some js → ItemsHaveNumbers js
    subst_items ks js numbers e = rw (same ks js e) at numbers
listed_numbers (object ms) js numbers e = cc

pub member_numbers : (j : Json) (js : Items) → HasNumbers j → option_and_then as_array (get (codes "transactions") j) ≡ Some js
    → ItemsHaveNumbers js
member_numbers j js numbers e = by (get (codes "transactions") j) refl e
  where
    by : (o : Option Json) → o ≡ get (codes "transactions") j → option_and_then as_array o ≡ Some js → ItemsHaveNumbers js
    by None is found = cc
    by (Some p) is found = listed_numbers p js (HasNumbers-get (codes "transactions") j p numbers is) found
