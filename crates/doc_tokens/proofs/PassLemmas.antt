-- Values that are passed, a turn at a time.
use Rattle.std.specs.Result.{IfErr}
use Rattle.std.proofs.Common.{◌≡◌, ℕ, zero, suc, ◌-◌, ◌<◌, List, ◌∷◌, length, Option, Some, None, Result, Ok, Err, refl, ap}
use Rattle.std.proofs.Common.{option_and_then, option_map, inl, inr, ◌∙◌}
use Rattle.std.proofs.Common.{Bor, ◌⊎◌, ap₂, sym, arith}
use Rattle.json.specs.Reads.{token_of}
use Rattle.json.specs.declared.token.Token.{Token as Lent}
use Rattle.json.specs.declared.token.Token.TheVariants as lent
use Rattle.json.specs.Token.{Token}
use Rattle.json.specs.Json as json
use Rattle.json.specs.Json.{Parse, after_end_array, items, items_step, members, parse_map, read_key}
use Rattle.json.proofs.Grammar.{items_more, members_more, members_no_key, value_is, value-begin_array, value-begin_object}
use Rattle.serde_json.specs.Data.{Data, Items, Members, array, item, no_items, no_members, object, put}
use Rattle.serde_json.specs.Read.{of_json, of_items, of_members, converted}
use Rattle.doc_tree.specs.Asked.{or_no_items}
use Rattle.serde_json.specs.Find.{as_array}
use Rattle.doc_tokens.specs.Pulled.{StopsFor, WritesItems}
use Rattle.doc_tokens.specs.declared.stop.Stop.{Stop}
use Rattle.doc_tokens.proofs.PulledLemmas.{pick, converted_some, of_array, of_object, with_item, with_member}

-- what holds whatever the error
pub each_err : {T E : Type 0} (r : Result T E) (P : Type 0) → P → IfErr r (λ _. P)
each_err (Ok x) P p = tt
each_err (Err e) P p = p

-- where nothing is read, each error says so
pub each_stop : {T A : Type 0} (r : Result T Stop) (o : Option A) → o ≡ None → IfErr r (λ stop. StopsFor stop o)
each_stop (Ok x) o none = tt
each_stop (Err e) o none = inr none

-- what is not read makes nothing read of which it is a part
pub stops_on : {A B : Type 0} (stop : Stop) (o : Option A) (p : Option B) → (o ≡ None → p ≡ None) → StopsFor stop o → StopsFor stop p
stops_on stop o p none (inl refused) = inl refused
stops_on stop o p none (inr is) = inr (none is)

-- an array by its items, and an object by its members
pub array_opened : (depth : ℕ) (old : List Token) → 0 < depth
    → converted of_json (json.value depth (Token.begin_array ∷ old))
    ≡ parse_map array (converted of_items (json.items (json.value (depth - 1)) (length old) old))
array_opened depth old some = ap (converted of_json) (value-begin_array depth old some)
    ∙ of_array (json.items (json.value (depth - 1)) (length old) old)

pub object_opened : (depth : ℕ) (old : List Token) → 0 < depth
    → converted of_json (json.value depth (Token.begin_object ∷ old))
    ≡ parse_map object (converted (λ ms. of_members ms no_members) (json.members (json.value (depth - 1)) (length old) old))
object_opened depth old some = ap (converted of_json) (value-begin_object depth old some)
    ∙ of_object (json.members (json.value (depth - 1)) (length old) old)

-- a token with which no value begins
pub stray : (depth : ℕ) (token : Lent) (rest : List Token)
    → (token ≡ lent.EndObject) ⊎ ((token ≡ lent.EndArray) ⊎ (((s : Bor (List ℕ)) × (token ≡ lent.Key s)) ⊎ (token ≡ lent.Bad)))
    → converted of_json (json.value depth (token_of token ∷ rest)) ≡ None
stray depth token rest (inl w) = ap (λ k. converted of_json (json.value depth (token_of k ∷ rest))) w
    ∙ ap (converted of_json) (value_is depth (Token.end_object ∷ rest))
stray depth token rest (inr (inl w)) = ap (λ k. converted of_json (json.value depth (token_of k ∷ rest))) w
    ∙ ap (converted of_json) (value_is depth (Token.end_array ∷ rest))
stray depth token rest (inr (inr (inl w))) = ap (λ k. converted of_json (json.value depth (token_of k ∷ rest))) w.1
    ∙ ap (converted of_json) (value_is depth (Token.key w.0.now ∷ rest))
stray depth token rest (inr (inr (inr w))) = ap (λ k. converted of_json (json.value depth (token_of k ∷ rest))) w
    ∙ ap (converted of_json) (value_is depth (Token.bad ∷ rest))

-- one more item after those before
pub item_behind : (before : Items → Items) (d : Data) (r : Option (Items × List Token))
    → parse_map before (parse_map (item d) r) ≡ parse_map (λ ds. before (item d ds)) r
item_behind before d None = refl
item_behind before d (Some p) = refl

pub none_before : (r : Option (Items × List Token)) → r ≡ parse_map (λ ds. ds) r
none_before None = refl
none_before (Some p) = refl

-- ---- one turn of each loop

refused : {B : Type 0} (r : List Token) (x : Option B) → option_map {U = B × List Token} (λ y. (y, r)) x ≡ None → x ≡ None
refused r None e = refl
refused r (Some y) e = absurd (cc)

without_item : (j : json.Json) → of_json j ≡ None → (o : Option (json.Items × List Token))
    → converted of_items (parse_map (json.item j) o) ≡ None
without_item j e None = refl
without_item j e (Some p) = rw e refl

without_member : (k : List ℕ) (j : json.Json) (old : Members) → of_json j ≡ None → (o : Option (json.Members × List Token))
    → converted (λ ms. of_members ms old) (parse_map (json.member k j) o) ≡ None
without_member k j old e None = refl
without_member k j old e (Some p) = rw e refl

module _ (p : Parse json.Json) where
  -- an item that is read comes before the others
  pub item_read : (n : ℕ) (ts r : List Token) (d : Data) → 0 < n → after_end_array ts ≡ None → converted of_json (p ts) ≡ Some (d, r)
      → converted of_items (items p n ts) ≡ parse_map (item d) (converted of_items (items p (n - 1) r))
  item_read n ts r d some going e =
      let j = converted_some of_json (p ts) d r e in
      ap (converted of_items) (items_more p n ts r j.0 some going j.1) ∙ with_item j.0 d j.2 _

  no_item : (more : Parse json.Items) (o : Option (json.Json × List Token)) → converted of_json o ≡ None
      → converted of_items (option_and_then (λ q. parse_map (json.item q.0) (more q.1)) o) ≡ None
  no_item more None e = refl
  no_item more (Some q) e = without_item q.0 (refused q.1 (of_json q.0) e) (more q.1)

  -- with an item that is refused, all are
  pub item_refused : (n : ℕ) (ts : List Token) → after_end_array ts ≡ None → converted of_json (p ts) ≡ None
      → converted of_items (items p n ts) ≡ None
  unfolding items
  item_refused zero ts going e = refl
  item_refused (suc n) ts going e =
      ap (λ o. converted of_items (items_step p (items p n) ts o)) going ∙ no_item (items p n) (p ts) e

  module _ (old : Members) where
    -- a member that is read joins those before
    pub member_read : (n : ℕ) (k : List ℕ) (ts s r : List Token) (d : Data) → 0 < n → read_key ts ≡ Some (Some k, s)
        → converted of_json (p s) ≡ Some (d, r)
        → converted (λ ms. of_members ms old) (members p n ts) ≡ converted (λ ms. of_members ms (put k d old)) (members p (n - 1) r)
    member_read n k ts s r d some key e =
        let j = converted_some of_json (p s) d r e in
        ap (converted (λ ms. of_members ms old)) (members_more p n k ts s r j.0 some key j.1) ∙ with_member k j.0 d old j.2 _

    no_member : (k : List ℕ) (more : Parse json.Members) (o : Option (json.Json × List Token)) → converted of_json o ≡ None
        → converted (λ ms. of_members ms old) (option_and_then (λ q. parse_map (json.member k q.0) (more q.1)) o) ≡ None
    no_member k more None e = refl
    no_member k more (Some q) e = without_member k q.0 old (refused q.1 (of_json q.0) e) (more q.1)

    -- with a member that is refused, all are
    pub member_refused : (n : ℕ) (k : List ℕ) (ts s : List Token) → read_key ts ≡ Some (Some k, s)
        → converted of_json (p s) ≡ None → converted (λ ms. of_members ms old) (members p n ts) ≡ None
    unfolding members
    member_refused zero k ts s key e = refl
    member_refused (suc n) k ts s key e = rw key (no_member k (members p n) (p s) e)

    -- neither a key nor the end is there
    pub key_refused : (n : ℕ) (ts : List Token) → read_key ts ≡ None → converted (λ ms. of_members ms old) (members p n ts) ≡ None
    key_refused n ts e = ap (converted (λ ms. of_members ms old)) (members_no_key p n ts e)

-- ---- items of a text that is known to be read

found_items : (d : Data) (o : Option (Items × List Token)) (ds : Items) (rest : List Token) → parse_map (item d) o ≡ Some (ds, rest)
    → (later : Items) × (ds ≡ item d later) × (o ≡ Some (later, rest))
found_items d None ds rest is = cc
found_items d (Some p) ds rest is =
    let same = ap (pick (item d p.0, p.1)) is in
    (p.0, sym (ap (λ (q : Items × List Token). q.0) same), ap (λ (q : Items × List Token). Some (p.0, q.1)) same)

no_items_read : {A : Type 0} (a : A) → None ≡ Some a → ⊥
no_items_read a is = cc

module _ (k : ℕ) (ts : List Token) (ds : Items) (rest : List Token) (writes : WritesItems k ts ds rest) where
  -- once the first has been read, the others are left
  pub items_on : (d : Data) (mid : List Token) → after_end_array ts ≡ None → converted of_json (json.value k ts) ≡ Some (d, mid)
      → (later : Items) × (ds ≡ item d later) × WritesItems k mid later rest
  unfolding items
  items_on d mid going read = by writes.0 writes.1
    where
      by : (n : ℕ) → converted of_items (items (json.value k) n ts) ≡ Some (ds, rest)
          → (later : Items) × (ds ≡ item d later) × WritesItems k mid later rest
      by zero is = absurd (no_items_read (ds, rest) is)
      by (suc n) is =
          let w = found_items d (converted of_items (items (json.value k) (suc n - 1) mid)) ds rest (sym (item_read (json.value k) (suc n)
          ts mid d (omega arith) going read) ∙ is) in
          (w.0, w.1, (suc n - 1, w.2))

  -- the first is read
  pub items_refused : after_end_array ts ≡ None → converted of_json (json.value k ts) ≡ None → ⊥
  items_refused going none = no_items_read (ds, rest) (sym (item_refused (json.value k) writes.0 ts going none) ∙ writes.1)

  pub items_split : after_end_array ts ≡ None
      → (d : Data) × (mid : List Token) × (later : Items) × (converted of_json (json.value k ts) ≡ Some (d, mid)) × (ds ≡ item d later)
      × WritesItems k mid later rest
  items_split going = by (converted of_json (json.value k ts)) refl
    where
      by : (o : Option (Data × List Token)) → converted of_json (json.value k ts) ≡ o
          → (d : Data) × (mid : List Token) × (later : Items) × (converted of_json (json.value k ts) ≡ Some (d, mid)) × (ds ≡ item d later)
          × WritesItems k mid later rest
      by None read = absurd (items_refused going read)
      by (Some p) read = let w = items_on p.0 p.1 going read in (p.0, p.1, w.0, read, w.1, w.2)

  -- at the bracket there are none
  pub items_ended : (new : List Token) → after_end_array ts ≡ Some new → (ds ≡ no_items) × (new ≡ rest)
  unfolding items
  items_ended new closed = by writes.0 writes.1
    where
      by : (n : ℕ) → converted of_items (items (json.value k) n ts) ≡ Some (ds, rest) → (ds ≡ no_items) × (new ≡ rest)
      by zero is = absurd (no_items_read (ds, rest) is)
      by (suc n) is =
          let same = ap (pick (no_items, new))
          (sym (ap (λ o. converted of_items (items_step (json.value k) (items (json.value k) n) ts o)) closed) ∙ is) in
          (sym (ap (λ (q : Items × List Token). q.0) same), ap (λ (q : Items × List Token). q.1) same)

-- the rest of an array that was opened
pub array_inside : (k : ℕ) (ts : List Token) (ds : Items) (rest : List Token) → 0 < k
    → converted of_json (json.value k (Token.begin_array ∷ ts)) ≡ Some (array ds, rest) → WritesItems (k - 1) ts ds rest
array_inside k ts ds rest some is = by (converted of_items (items (json.value (k - 1)) (length ts) ts)) refl
    (sym (array_opened k ts some) ∙ is)
  where
    by : (o : Option (Items × List Token)) → converted of_items (items (json.value (k - 1)) (length ts) ts) ≡ o
        → parse_map array o ≡ Some (array ds, rest) → WritesItems (k - 1) ts ds rest
    by None read whole = cc
    by (Some p) read whole =
        let pair = ap (pick (array p.0, p.1)) whole in
        let same : p.0 ≡ ds = ap (λ (q : Data × List Token). or_no_items (as_array q.0)) pair in
        let left : p.1 ≡ rest = ap (λ (q : Data × List Token). q.1) pair in
        (length ts, read ∙ ap₂ (λ x y. Some (x, y)) same left)

-- an array is what was opened
pub array_is : (k : ℕ) (ts : List Token) (d : Data) (rest : List Token) → 0 < k
    → converted of_json (json.value k (Token.begin_array ∷ ts)) ≡ Some (d, rest) → (ds : Items) × (d ≡ array ds)
array_is k ts d rest some is = by (converted of_items (items (json.value (k - 1)) (length ts) ts)) (sym (array_opened k ts some) ∙ is)
  where
    by : (o : Option (Items × List Token)) → parse_map array o ≡ Some (d, rest) → (ds : Items) × (d ≡ array ds)
    by None whole = cc
    by (Some p) whole = (p.0, sym (ap (λ (q : Data × List Token). q.0) (ap (pick (array p.0, p.1)) whole)))
