-- A value is read the same with more tokens after it.
use Rattle.std.proofs.Common.{◌≡◌, ◌≤◌, ℕ, zero, suc, Bool, true, ◌&&◌, List, [], ◌∷◌, ◌++◌, length, Option, Some, None, option_and_then}
use Rattle.std.proofs.Common.{refl, sym, ap, subst, arith}
use Rattle.std.proofs.lemmas.List.{length-append}
use Rattle.std.specs.Prelude.{⊤}
use Rattle.json.specs.Align.{is_good}
use Rattle.json.specs.Json.{Json, array, object, Items, item, Members, member, Parse, parse_map, after_end_array, read_key, items_step}
use Rattle.json.specs.Json.{members_step, items, members, value_with, value}
use Rattle.json.specs.Print.{ends}
use Rattle.json.specs.Token.{Token, begin_object, end_object, begin_array, end_array, key, string, number, boolean, null, bad}
use Rattle.doc_cuts.specs.Whole.{is_left}

-- two tests that hold hold together
both_true : (a b : Bool) → a ≡ true → b ≡ true → (a && b) ≡ true
both_true a b f g = λ i. f i && g i

module _ (more : List Token) where
  -- what the tokens begin with is read again with more tokens, and more may follow them where more may follow those after it
  abbrev pub Kept : {A : Type 0} → List Token → Option (A × List Token) → Option (A × List Token) → Type 0
  Kept ts None y = ⊤
  Kept ts (Some p) y = (y ≡ Some (p.0, p.1 ++ more)) × ((v b : Bool) → is_left v true p.1 ≡ true → is_left v b ts ≡ true)

  -- of a result that is wrapped
  mapped : {A B : Type 0} (f : A → B) (ts : List Token) (x y : Option (A × List Token)) → Kept ts x y
      → Kept ts (parse_map f x) (parse_map f y)
  mapped f ts None y k = tt
  mapped f ts (Some p) y k = (ap (parse_map f) k.0, k.1)

  -- of what is read after some tokens
  passed : {A : Type 0} (ts r : List Token) (x y : Option (A × List Token))
      → ((v b : Bool) → is_left v true r ≡ true → is_left v b ts ≡ true)
      → Kept r x y → Kept ts x y
  passed ts r None y w k = tt
  passed ts r (Some q) y w k = (k.0, λ v b h. w v b (k.1 v true h))

  -- with a token in front
  behind : {A : Type 0} (t : Token) (ts : List Token) (x y : Option (A × List Token)) → is_good t ≡ true → Kept ts x y → Kept (t ∷ ts) x y
  unfolding is_left
  behind t ts None y good k = tt
  behind t ts (Some q) y good k = (k.0, λ v b h. both_true (is_good t) (is_left v (ends t) ts) good (k.1 v (ends t) h))

  -- of a value and what is read after it
  then : {B : Type 0} (f : Json → B → B) (p q : Parse B) → ((ts : List Token) → Kept ts (p ts) (q (ts ++ more)))
      → (ts : List Token) (x y : Option (Json × List Token)) → Kept ts x y
      → Kept ts (option_and_then (λ v. parse_map (f v.0) (p v.1)) x) (option_and_then (λ v. parse_map (f v.0) (q v.1)) y)
  then f p q all ts None y k = tt
  then f p q all ts (Some v) y k =
      subst (λ o. Kept ts (parse_map (f v.0) (p v.1)) (option_and_then (λ u. parse_map (f u.0) (q u.1)) o)) (sym k.0)
      (mapped (f v.0) ts (p v.1) (q (v.1 ++ more)) (passed ts v.1 (p v.1) (q (v.1 ++ more)) k.1 (all v.1)))

  module _ (p : Parse Json) (none : p [] ≡ None) (kept : (ts : List Token) → Kept ts (p ts) (p (ts ++ more))) where
    -- one turn of a list
    item_turn : (a b : Parse Items) → ((ts : List Token) → Kept ts (a ts) (b (ts ++ more))) → (ts : List Token)
        → Kept ts (items_step p a ts (after_end_array ts)) (items_step p b (ts ++ more) (after_end_array (ts ++ more)))
    unfolding is_left
    item_turn a b all [] =
        subst (λ o. Kept [] (option_and_then (λ v. parse_map (item v.0) (a v.1)) o) (items_step p b more (after_end_array more)))
        (sym none) tt
    item_turn a b all (begin_object ∷ ts) = then item a b all (begin_object ∷ ts) _ _ (kept (begin_object ∷ ts))
    item_turn a b all (end_object ∷ ts) = then item a b all (end_object ∷ ts) _ _ (kept (end_object ∷ ts))
    item_turn a b all (begin_array ∷ ts) = then item a b all (begin_array ∷ ts) _ _ (kept (begin_array ∷ ts))
    item_turn a b all (end_array ∷ ts) = (refl, λ v b h. h)
    item_turn a b all (key s ∷ ts) = then item a b all (key s ∷ ts) _ _ (kept (key s ∷ ts))
    item_turn a b all (string s ∷ ts) = then item a b all (string s ∷ ts) _ _ (kept (string s ∷ ts))
    item_turn a b all (number s ∷ ts) = then item a b all (number s ∷ ts) _ _ (kept (number s ∷ ts))
    item_turn a b all (boolean v ∷ ts) = then item a b all (boolean v ∷ ts) _ _ (kept (boolean v ∷ ts))
    item_turn a b all (null ∷ ts) = then item a b all (null ∷ ts) _ _ (kept (null ∷ ts))
    item_turn a b all (bad ∷ ts) = then item a b all (bad ∷ ts) _ _ (kept (bad ∷ ts))

    -- a list, with enough turns
    items_kept : (n m : ℕ) (ts : List Token) → n ≤ m → Kept ts (items p n ts) (items p m (ts ++ more))
    unfolding items
    items_kept zero m ts le = tt
    items_kept (suc n) zero ts le = let never : ⊥ = omega arith in absurd never
    items_kept (suc n) (suc m) ts le = item_turn (items p n) (items p m) (λ us. items_kept n m us (omega arith)) ts

    -- one turn of an object
    member_turn : (a b : Parse Members) → ((ts : List Token) → Kept ts (a ts) (b (ts ++ more))) → (ts : List Token)
        → Kept ts (option_and_then (λ q. members_step p a q.0 q.1) (read_key ts))
        (option_and_then (λ q. members_step p b q.0 q.1) (read_key (ts ++ more)))
    unfolding is_left
    member_turn a b all [] = tt
    member_turn a b all (begin_object ∷ ts) = tt
    member_turn a b all (end_object ∷ ts) = (refl, λ v b h. h)
    member_turn a b all (begin_array ∷ ts) = tt
    member_turn a b all (end_array ∷ ts) = tt
    member_turn a b all (key s ∷ ts) = behind (key s) ts _ _ refl (then (member s) a b all ts _ _ (kept ts))
    member_turn a b all (string s ∷ ts) = tt
    member_turn a b all (number s ∷ ts) = tt
    member_turn a b all (boolean v ∷ ts) = tt
    member_turn a b all (null ∷ ts) = tt
    member_turn a b all (bad ∷ ts) = tt

    -- an object, with enough turns
    members_kept : (n m : ℕ) (ts : List Token) → n ≤ m → Kept ts (members p n ts) (members p m (ts ++ more))
    unfolding members
    members_kept zero m ts le = tt
    members_kept (suc n) zero ts le = let never : ⊥ = omega arith in absurd never
    members_kept (suc n) (suc m) ts le = member_turn (members p n) (members p m) (λ us. members_kept n m us (omega arith)) ts

  -- a value by its lists and objects
  with_kept : (a c : Parse Items) (o u : Parse Members) → ((ts : List Token) → Kept ts (a ts) (c (ts ++ more)))
      → ((ts : List Token) → Kept ts (o ts) (u (ts ++ more))) → (ts : List Token)
      → Kept ts (value_with a o ts) (value_with c u (ts ++ more))
  unfolding is_left
  with_kept a c o u f g [] = tt
  with_kept a c o u f g (begin_object ∷ ts) = behind begin_object ts _ _ refl (mapped object ts (o ts) (u (ts ++ more)) (g ts))
  with_kept a c o u f g (end_object ∷ ts) = tt
  with_kept a c o u f g (begin_array ∷ ts) = behind begin_array ts _ _ refl (mapped array ts (a ts) (c (ts ++ more)) (f ts))
  with_kept a c o u f g (end_array ∷ ts) = tt
  with_kept a c o u f g (key s ∷ ts) = tt
  with_kept a c o u f g (string s ∷ ts) = (refl, λ v b h. h)
  with_kept a c o u f g (number s ∷ ts) = (refl, λ v b h. h)
  with_kept a c o u f g (boolean v ∷ ts) = (refl, λ v b h. h)
  with_kept a c o u f g (null ∷ ts) = (refl, λ v b h. h)
  with_kept a c o u f g (bad ∷ ts) = tt

  -- no token is no value
  no_value : (depth : ℕ) → value depth [] ≡ None
  unfolding value
  no_value zero = refl
  no_value (suc depth) = refl

  -- a value is read the same with more tokens
  pub value_kept : (depth : ℕ) (ts : List Token) → Kept ts (value depth ts) (value depth (ts ++ more))
  unfolding value
  value_kept zero ts = with_kept (λ us. None) (λ us. None) (λ us. None) (λ us. None) (λ us. tt) (λ us. tt) ts
  value_kept (suc d) ts =
      with_kept (λ us. items (value d) (length us) us) (λ us. items (value d) (length us) us) (λ us. members (value d) (length us) us)
      (λ us. members (value d) (length us) us)
      (λ us. items_kept (value d) (no_value d) (value_kept d) (length us) (length (us ++ more)) us (omega (arith, length-append us more)))
      (λ us. members_kept (value d) (no_value d) (value_kept d) (length us) (length (us ++ more)) us
      (omega (arith, length-append us more))) ts

  -- the same of an array's items, and of an object's members
  pub listed_kept : (depth n m : ℕ) (ts : List Token) → n ≤ m → Kept ts (items (value depth) n ts) (items (value depth) m (ts ++ more))
  listed_kept depth = items_kept (value depth) (no_value depth) (value_kept depth)

  -- the same of an object's members
  pub named_kept : (depth n m : ℕ) (ts : List Token) → n ≤ m → Kept ts (members (value depth) n ts) (members (value depth) m (ts ++ more))
  named_kept depth = members_kept (value depth) (no_value depth) (value_kept depth)
