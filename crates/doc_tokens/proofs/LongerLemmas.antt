-- What is read of tokens is read the same with more after them, and whole tokens are left whole.
use Rattle.std.proofs.Common.{◌≡◌, ℕ, List, [], ◌++◌, length, Bool, true, refl, ap, subst, ◌∙◌, arith}
use Rattle.std.proofs.lemmas.List.{length-append}
use Rattle.json.specs.Json as json
use Rattle.json.specs.Token.{Token}
use Rattle.serde_json.specs.Data.{Data, Items}
use Rattle.serde_json.specs.Read.{converted, of_items, of_json}
use Rattle.doc_cuts.specs.Whole.{is_left, is_whole}
use Rattle.doc_cuts.proofs.Longer.{Kept, listed_kept, value_kept}
use Rattle.doc_tokens.specs.Pulled.{ReadsItems, ReadsValue}
use Rattle.doc_tokens.proofs.PulledLemmas.{converted_some}

-- a value is read the same with more tokens
pub value_longer : (k : ℕ) (old new more : List Token) (d : Data) → ReadsValue k old d new → ReadsValue k (old ++ more) d (new ++ more)
value_longer k old new more d reads depth le =
    let j = converted_some of_json (json.value depth old) d new (reads depth le) in
    let kept = subst (λ o. Kept more old o (json.value depth (old ++ more))) j.1 (value_kept more depth old) in
    ap (converted of_json) kept.0 ∙ rw j.2 refl

-- so are items
pub items_longer : (k : ℕ) (old new more : List Token) (ds : Items) → ReadsItems k old ds new → ReadsItems k (old ++ more) ds (new ++ more)
items_longer k old new more ds reads depth n le enough =
    let long = length-append old more in
    let j = converted_some of_items (json.items (json.value depth) (length old) old) ds new (reads depth (length old) le (omega arith)) in
    let kept = subst (λ o. Kept more old o (json.items (json.value depth) n (old ++ more))) j.1
    (listed_kept more depth (length old) n old (omega (arith, long, enough))) in
    ap (converted of_items) kept.0 ∙ rw j.2 refl

-- a value in front of whole tokens leaves them whole
pub value_whole : (k : ℕ) (old new : List Token) (d : Data) → ReadsValue k old d new → is_whole true new ≡ true → (b : Bool)
    → is_whole b old ≡ true
value_whole k old new d reads whole b =
    let j = converted_some of_json (json.value k old) d new (reads k (omega arith)) in
    let kept = subst (λ o. Kept [] old o (json.value k (old ++ []))) j.1 (value_kept [] k old) in
    kept.1 true b whole

-- items in front of tokens after which more may follow
pub items_left : (k : ℕ) (old new : List Token) (ds : Items) → ReadsItems k old ds new → (v : Bool) → is_left v true new ≡ true
    → (b : Bool) → is_left v b old ≡ true
items_left k old new ds reads v left b =
    let j = converted_some of_items (json.items (json.value k) (length old) old) ds new
    (reads k (length old) (omega arith) (omega arith)) in
    let kept = subst (λ o. Kept [] old o (json.items (json.value k) (length old) (old ++ []))) j.1
    (listed_kept [] k (length old) (length old) old (omega arith)) in
    kept.1 v b left
