-- How often a name comes among members, and its last one.
use Rattle.std.proofs.Common.{◌≡◌, ◌≢◌, ◌<◌, ◌≤◌, ◌+◌, ◌-◌, ℕ, zero, suc, List, [], ◌∷◌, length, Bool, true, false, Option, None, Some}
use Rattle.std.proofs.Common.{refl, sym, subst, ap, ◌∙◌, arith, lt-ltb, option_and_then, option_map}
use Rattle.std.specs.Prelude.{codes}
use Rattle.std.specs.Str.{bytes_eq}
use Rattle.std.proofs.lemmas.Slice.Eq.{bytes_eq-Decides}
use Rattle.json.specs.Token.{Token}
use Rattle.json.specs.Json as json
use Rattle.json.specs.Reads.{token_of}
use Rattle.json.specs.declared.token.Token.{Token as Lent}
use Rattle.json.specs.declared.token.Token.TheVariants as lent
use Rattle.json.specs.Json.{Parse, items, members, parse_map, read_key, value}
use Rattle.json.proofs.Grammar.{left, members_end, members_more, members_no_key, read_key-shorter, skip_value-shorter, value_is}
use Rattle.serde_json.specs.Data.{Data, Items, Members, array, no_members, object, put}
use Rattle.serde_json.specs.Find.{get_member}
use Rattle.serde_json.specs.Read.{converted, of_json, of_members}
use Rattle.serde_json.proofs.Views.{get_member-put, get_member-put_other}
use Rattle.doc_tree.specs.Scope.{fit}
use Rattle.doc_tokens.specs.Passed.{AreCounted, AreTimes, HasLeft, HasMembers, once, times}
use Rattle.doc_tokens.specs.declared.notes.Notes.{Notes}
use Rattle.doc_tokens.specs.Pulled.{ReadsValue, WritesItems, WritesValue}
use Rattle.doc_tokens.proofs.NoListLemmas.{no_list}
use Rattle.doc_tokens.proofs.PassLemmas.{array_inside, object_opened}
use Rattle.doc_tokens.proofs.PulledLemmas.{pick}

-- ---- one name

pub once_here : (k name : List ℕ) → bytes_eq k name ≡ true → once k name ≡ 1
once_here k name is = rw is refl

pub once_other : (k name : List ℕ) → bytes_eq k name ≡ false → once k name ≡ 0
once_other k name is = rw is refl

-- one that is another known name
pub once_apart : (k other name : List ℕ) → bytes_eq k other ≡ true → bytes_eq other name ≡ false → once k name ≡ 0
once_apart k other name is apart =
    once_other k name (ap (λ x. bytes_eq x name) ((bytes_eq-Decides k other).0 is) ∙ apart)

-- what was counted before another name
pub counted_none : (n k : ℕ) (name q : List ℕ) → once name q ≡ 0 → n ≡ fit k → n ≡ fit (k + once name q)
counted_none n k name q none is = let same : k ≡ k + once name q = omega (arith, none) in is ∙ ap fit same

-- and one more where the name is this one
pub counted_one : (n k : ℕ) (name q : List ℕ) → once name q ≡ 1 → n ≡ fit (k + 1) → n ≡ fit (k + once name q)
counted_one n k name q one is = is ∙ ap (λ o. fit (k + o)) (sym one)

-- ---- members, one after the other

split_more : (k : List ℕ) (j : json.Json) (o : Option (json.Members × List Token)) (js : json.Members) (rest : List Token)
    → parse_map (json.member k j) o ≡ Some (js, rest)
    → (later : json.Members) × (o ≡ Some (later, rest)) × (js ≡ json.member k j later)
split_more k j None js rest is = cc
split_more k j (Some q) js rest is =
    let same = ap (pick (json.member k j q.0, q.1)) is in
    (q.0, ap (λ (p : json.Members × List Token). Some (q.0, p.1)) same, sym (ap (λ (p : json.Members × List Token). p.0) same))

split_value : (k : List ℕ) (more : Parse json.Members) (o : Option (json.Json × List Token)) (js : json.Members) (rest : List Token)
    → option_and_then (λ q. parse_map (json.member k q.0) (more q.1)) o ≡ Some (js, rest)
    → (j : json.Json) × (r : List Token) × (later : json.Members) × (o ≡ Some (j, r)) × (more r ≡ Some (later, rest))
    × (js ≡ json.member k j later)
split_value k more None js rest is = cc
split_value k more (Some q) js rest is =
    let w = split_more k q.0 (more q.1) js rest is in (q.0, q.1, w.0, refl, w.1, w.2)

nothing : {A : Type 0} (a : A) → None ≡ Some a → ⊥
nothing a is = cc

module _ (p : Parse json.Json) (ts s rest : List Token) (js : json.Members) where
  -- members that begin with a key are a value and then others
  pub member_split : (n : ℕ) (k : List ℕ) → read_key ts ≡ Some (Some k, s) → members p n ts ≡ Some (js, rest)
      → (m : ℕ) × (j : json.Json) × (r : List Token) × (later : json.Members) × (p s ≡ Some (j, r)) × (members p m r ≡ Some (later, rest))
      × (js ≡ json.member k j later)
  unfolding members
  member_split zero k key is = cc
  member_split (suc n) k key is =
      let w = split_value k (members p n) (p s) js rest
      (sym (ap (option_and_then (λ q. json.members_step p (members p n) q.0 q.1)) key) ∙ is) in
      (n, w.0, w.1, w.2, w.3, w.4, w.5)

  -- at the end there are none
  pub members_ended : (n : ℕ) → read_key ts ≡ Some (None, s) → members p n ts ≡ Some (js, rest) → js ≡ json.no_members
  unfolding members
  members_ended zero key is = cc
  members_ended (suc n) key is =
      let same = ap (pick (json.no_members, s)) (sym (ap (option_and_then (λ q. json.members_step p (members p n) q.0 q.1)) key) ∙ is) in
      sym (ap (λ (q : json.Members × List Token). q.0) same)

  -- without a key or the end nothing is read
  pub members_unread : (n : ℕ) → read_key ts ≡ None → members p n ts ≡ Some (js, rest) → ⊥
  members_unread n key is = nothing (js, rest) (sym (members_no_key p n ts key) ∙ is)

-- what is before members that are read is before those that follow
pub member_behind : (before : json.Members → json.Members) (k : List ℕ) (j : json.Json) (r : Option (json.Members × List Token))
    → parse_map before (parse_map (json.member k j) r) ≡ parse_map (λ js. before (json.member k j js)) r
member_behind before k j None = refl
member_behind before k j (Some p) = refl

pub nothing_before : (r : Option (json.Members × List Token)) → r ≡ parse_map (λ js. js) r
nothing_before None = refl
nothing_before (Some p) = refl

-- The members that were read come before those that are left, and the notes count the names among them.
pub record WrittenBefore (notes : Notes) (all left : Option (json.Members × List Token)) : Type 0 where
  pub before : json.Members → json.Members
  pub reads : all ≡ parse_map before left
  pub objects : ℕ
  pub transactions : ℕ
  pub objects_fit : notes.objects_times ≡ fit objects
  pub transactions_fit : notes.transactions_times ≡ fit transactions
  pub objects_sum : (js : json.Members) → times (codes "objects") (before js) ≡ objects + times (codes "objects") js
  pub transactions_sum : (js : json.Members)
      → times (codes "transactions") (before js) ≡ transactions + times (codes "transactions") js

-- before the first
pub written_none : (notes : Notes) (all : Option (json.Members × List Token)) → notes.objects_times ≡ fit 0 → notes.transactions_times ≡
    fit 0
    → WrittenBefore notes all all
written_none notes all o t = record {
  before = λ js. js;
  reads = nothing_before all;
  objects = 0;
  transactions = 0;
  objects_fit = o;
  transactions_fit = t;
  objects_sum = λ js. omega arith;
  transactions_sum = λ js. omega arith;
}

-- with one more
pub written_more : (notes next : Notes) (all : Option (json.Members × List Token)) (p : Parse json.Json) (n : ℕ) (k : List ℕ) (j :
    json.Json)
    (ts s r : List Token) → 0 < n → read_key ts ≡ Some (Some k, s) → p s ≡ Some (j, r) → WrittenBefore notes all (members p n ts)
    → ((m : ℕ) → notes.objects_times ≡ fit m → next.objects_times ≡ fit (m + once k (codes "objects")))
    → ((m : ℕ) → notes.transactions_times ≡ fit m → next.transactions_times ≡ fit (m + once k (codes "transactions")))
    → WrittenBefore next all (members p (n - 1) r)
written_more notes next all p n k j ts s r some key is w o t = record {
  before = λ js. w.before (json.member k j js);
  reads = w.reads ∙ ap (parse_map w.before) (members_more p n k ts s r j some key is) ∙ member_behind w.before k j (members p (n - 1) r);
  objects = w.objects + once k (codes "objects");
  transactions = w.transactions + once k (codes "transactions");
  objects_fit = o w.objects w.objects_fit;
  transactions_fit = t w.transactions w.transactions_fit;
  objects_sum = λ js. w.objects_sum (json.member k j js) ∙ omega arith;
  transactions_sum = λ js. w.transactions_sum (json.member k j js) ∙ omega arith;
}

-- up to the end
pub written_all : (notes : Notes) (all : Option (json.Members × List Token)) (p : Parse json.Json) (n : ℕ) (ts r : List Token)
    → length ts ≤ n → read_key ts ≡ Some (None, r) → WrittenBefore notes all (members p n ts)
    → (js : json.Members) × (all ≡ Some (js, r)) × AreTimes notes js
written_all notes all p n ts r enough key w = (
  w.before json.no_members,
  w.reads ∙ ap (parse_map w.before) (members_end p n ts r enough key),
  record {
    objects = w.objects_fit ∙ ap fit (same w.objects _ (w.objects_sum json.no_members));
    transactions = w.transactions_fit ∙ ap fit (same w.transactions _ (w.transactions_sum json.no_members));
  },
)
  where
    same : (n m : ℕ) → m ≡ n + 0 → n ≡ m
    same n m is = omega (arith, is)

-- ---- the members that they make

made : (k : List ℕ) (later : json.Members) (found ms : Members) (o : Option Data)
    → option_and_then (λ d. of_members later (put k d found)) o ≡ Some ms
    → (d : Data) × (o ≡ Some d) × (of_members later (put k d found) ≡ Some ms)
made k later found ms None is = cc
made k later found ms (Some d) is = (d, refl, is)

-- the first one is put before the others are
pub member_made : (k : List ℕ) (j : json.Json) (js later : json.Members) (found ms : Members) → js ≡ json.member k j later
    → of_members js found ≡ Some ms → (d : Data) × (of_json j ≡ Some d) × (of_members later (put k d found) ≡ Some ms)
member_made k j js later found ms is makes =
    made k later found ms (of_json j) (sym (ap (λ x. of_members x found) is) ∙ makes)

-- the value of a name that doesn't come is that which was found before
pub never_again : (name : List ℕ) (js : json.Members) (found ms : Members) → times name js ≡ 0 → of_members js found ≡ Some ms
    → get_member name ms ≡ get_member name found
never_again name json.no_members found ms none makes = ap (λ o. get_member name (pick found o)) (sym makes)
never_again name (json.member k j js) found ms none makes =
    let w = member_made k j (json.member k j js) js found ms refl makes in
    let other : name ≢ k = λ same. grind (arith, once_here k name ((bytes_eq-Decides k name).1 (sym same)), none) in
    never_again name js (put k w.0 found) ms (omega (arith, none)) w.2 ∙ get_member-put_other name k w.0 found other

-- ---- what is left of them

-- a name that has a value comes
pub comes : (name : List ℕ) (count : ℕ) (old : List Token) (ms : Members) (d : Data) → HasLeft name count no_members old ms
    → get_member name ms ≡ Some d → 0 < count
comes name zero old ms d left is =
    let never : None ≡ Some d = sym (never_again name left.written no_members ms left.often left.makes) ∙ is in cc
comes name (suc n) old ms d left is = omega arith

module _ (name : List ℕ) (count : ℕ) (found ms : Members) (ts s : List Token) (k : List ℕ) (key : read_key ts ≡ Some (Some k, s))
    (left : HasLeft name count found ts ms) where
  -- the value that follows the key, and what is left after it
  pub next_left : (d : Data) × (new : List Token) × (converted of_json (value 126 s) ≡ Some (d, new))
      × ((n : ℕ) → count ≡ once k name + n → HasLeft name n (put k d found) new ms)
  next_left =
      let w = member_split (value 126) ts s left.rest left.written left.turns k key left.reads in
      let made = member_made k w.1 left.written w.3 found ms w.6 left.makes in
      let counted : once k name + times name w.3 ≡ count = sym (ap (times name) w.6) ∙ left.often in (
        made.0,
        w.2,
        ap (converted of_json) w.4 ∙ ap (λ o. option_map (λ d. (d, w.2)) o) made.1,
        λ n is. record {
          turns = w.0;
          written = w.3;
          rest = left.rest;
          reads = w.5;
          makes = made.2;
          often = omega (arith, counted, is);
        },
      )

  -- where it is the last of the name, it is the name's value
  pub last_left : (v : Data) → get_member name ms ≡ Some v → bytes_eq k name ≡ true → count ≡ 1 → WritesValue 126 s v
  last_left v is here last =
      let w = next_left in
      let none = w.3 0 (omega (arith, last, once_here k name here)) in
      let there : Some w.0 ≡ Some v = sym (get_member-put k w.0 found)
      ∙ ap (λ x. get_member x (put k w.0 found)) ((bytes_eq-Decides k name).0 here)
      ∙ sym (never_again name none.written (put k w.0 found) ms none.often none.makes) ∙ is in
      let same : w.0 ≡ v = ap (pick w.0) there in
      (w.1, w.2 ∙ ap (λ d. Some (d, w.1)) same)

  -- once it has been passed, fewer are left
  pub more_left : (d : Data) (new : List Token) → ReadsValue 126 s d new → (n : ℕ) → count ≡ once k name + n
      → (later : Members) × HasLeft name n later new ms
  more_left d new reads n is =
      let w = next_left in
      let same : w.1 ≡ new = ap (λ (p : Data × List Token). p.1) (ap (pick (w.0, w.1)) (sym w.2 ∙ reads 126 (omega arith))) in
      (put k w.0 found, subst (λ ts. HasLeft name n (put k w.0 found) ts ms) same (w.3 n is))

  -- it is a value
  pub value_left : converted of_json (value 126 s) ≡ None → ⊥
  value_left none = let w = next_left in nothing (w.0, w.1) (sym none ∙ w.2)

-- without a key or the end no members are left
pub unread_left : (name : List ℕ) (count : ℕ) (found ms : Members) (ts : List Token) → read_key ts ≡ None → HasLeft name count found ts ms
    → ⊥
unread_left name count found ms ts key left = members_unread (value 126) ts [] left.rest left.written left.turns key left.reads

-- at the end of the members no name comes
pub none_left : (name : List ℕ) (count : ℕ) (found ms : Members) (ts s : List Token) → read_key ts ≡ Some (None, s)
    → HasLeft name count found ts ms → count ≡ 0
none_left name count found ms ts s key left =
    sym left.often ∙ ap (times name) (members_ended (value 126) ts s left.rest left.written left.turns key left.reads)

-- ---- no more members than tokens

abbrev after_first : json.Members → json.Members → json.Members
after_first js json.no_members = js
after_first js (json.member l j ks) = ks

key_first : (k : List ℕ) (s ts : List Token) (n m : ℕ) (name : List ℕ) → length s < length ts → n ≤ length s → m ≡ once k name + n
    → m ≤ length ts
key_first k s ts n m name less most is = by (bytes_eq k name) refl
  where
    by : (b : Bool) → bytes_eq k name ≡ b → m ≤ length ts
    by true here = omega (arith, is, less, most, once_here k name here)
    by false here = omega (arith, is, less, most, once_other k name here)

pub times_within : (name : List ℕ) (js : json.Members) (n : ℕ) (ts rest : List Token) → members (value 126) n ts ≡ Some (js, rest)
    → times name js ≤ length ts
times_within name json.no_members n ts rest is = omega arith
times_within name (json.member k j js) n ts rest is =
    with_key (read_key ts) refl (λ m r reads. times_within name js m r rest reads)
  where
    with_key : (o : Option (Option (List ℕ) × List Token)) → read_key ts ≡ o
        → ((m : ℕ) (r : List Token) → members (value 126) m r ≡ Some (js, rest) → times name js ≤ length r)
        → times name (json.member k j js) ≤ length ts
    with_key None key later = absurd (members_unread (value 126) ts [] rest (json.member k j js) n key is)
    with_key (Some (None, s)) key later =
        let never : json.member k j js ≡ json.no_members = members_ended (value 126) ts s rest (json.member k j js) n key is in cc
    with_key (Some (Some q, s)) key later =
        let w = member_split (value 126) ts s rest (json.member k j js) n q key is in
        let same : js ≡ w.3 = ap (after_first js) w.6 in
        let less = read_key-shorter ts (Some q) s key in
        let lesser = skip_value-shorter 126 s w.2 (ap left w.4) in
        let few = later w.0 w.2 (w.5 ∙ ap (λ x. Some (x, rest)) (sym same)) in
        key_first k s ts (times name js) (times name (json.member k j js)) name less (omega (arith, few, lesser)) refl

-- ---- what was noted

-- a count that is small is noted as it is
pub fit_small : (n : ℕ) → n < 4294967295 → fit n ≡ n
fit_small n small = rw (lt-ltb n 4294967295 small) refl

opened : (js : Option Members) (ms : Members) (rest new : List Token)
    → parse_map object (option_map {U = Members × List Token} (λ b. (b, rest)) js) ≡ Some (object ms, new) → js ≡ Some ms
opened None ms rest new is = cc
opened (Some x) ms rest new is = let same : object x ≡ object ms = ap (λ (p : Data × List Token). p.0) (ap (pick (object x, rest)) is) in cc

module _ (old new : List Token) (ms : Members) (reads : ReadsValue 127 old (object ms) new) (few : length old < 4294967295) where
  -- a name that was counted comes so often among the members of the value that was read
  pub has_members : (name : List ℕ) (count : ℕ) (within rest : List Token) (written : json.Members) → old ≡ Token.begin_object ∷ within
      → members (value 126) (length within) within ≡ Some (written, rest) → count ≡ fit (times name written)
      → HasMembers name count old ms
  has_members name count within rest written begins is counted =
      let most = times_within name written (length within) within rest is in
      let fewer = ap length begins in
      let small : times name written < 4294967295 = omega (arith, most, fewer, few) in
      let whole = sym (object_opened 127 within (omega arith)) ∙ ap (λ ts. converted of_json (value 127 ts)) (sym begins)
      ∙ reads 127 (omega arith) in record {
        within = within;
        begins = begins;
        left = record {
          turns = length within;
          written = written;
          rest = rest;
          reads = is;
          makes = opened (of_members written no_members) ms rest new
              (sym (ap (λ o. parse_map object (converted (λ js. of_members js no_members) o)) is) ∙ whole);
          often = sym (counted ∙ fit_small _ small);
        };
      }

  pub has_objects : (notes : Notes) → AreCounted notes old → HasMembers (codes "objects") notes.objects_times old ms
  has_objects notes c = has_members (codes "objects") notes.objects_times c.within c.rest c.written c.begins c.reads c.counted.objects

  pub has_transactions : (notes : Notes) → AreCounted notes old → HasMembers (codes "transactions") notes.transactions_times old ms
  has_transactions notes c =
      has_members (codes "transactions") notes.transactions_times c.within c.rest c.written c.begins c.reads c.counted.transactions

-- ---- an array that is a member

-- the items follow the bracket that begins them
pub list_begun : (ds : Items) (old new : List Token) → WritesValue 126 old (array ds) → old ≡ Token.begin_array ∷ new
    → (rest : List Token) × WritesItems 125 new ds rest
list_begun ds old new (rest, reads) begins =
    (rest, array_inside 126 new ds rest (omega arith) (ap (λ ts. converted of_json (value 126 ts)) (sym begins) ∙ reads))

-- the token that begins an object
begins_object : (t : Lent) → token_of t ≡ Token.begin_object → t ≡ lent.BeginObject
begins_object lent.BeginObject is = refl
begins_object lent.EndObject is = cc
begins_object lent.BeginArray is = cc
begins_object lent.EndArray is = cc
begins_object (lent.Key s) is = cc
begins_object (lent.String s) is = cc
begins_object (lent.Number s) is = cc
begins_object (lent.Bool b) is = cc
begins_object lent.Null is = cc
begins_object lent.Bad is = cc

abbrev first_token : List Token → Token
first_token [] = Token.bad
first_token (t ∷ ts) = t

abbrev tail : List Token → List Token
tail [] = []
tail (t ∷ ts) = ts

-- the members follow the bracket that begins them
pub members_begun : (name : List ℕ) (count : ℕ) (old new : List Token) (ms : Members) → HasMembers name count old ms
    → old ≡ Token.begin_object ∷ new → HasLeft name count no_members new ms
members_begun name count old new ms has begins =
    let same : has.within ≡ new = ap (λ (ts : List Token). tail ts) (sym has.begins ∙ begins) in
    subst (λ ts. HasLeft name count no_members ts ms) same has.left

-- no array begins with another token, nor with none
pub no_list_here : (ds : Items) (t : Lent) (ts : List Token) → t ≢ lent.BeginArray → WritesValue 126 (token_of t ∷ ts) (array ds) → ⊥
no_list_here ds t ts other (rest, reads) = let none : Some ds ≡ None = no_list 126 t ts rest (array ds) other reads in cc

pub no_list_at_end : (ds : Items) → WritesValue 126 [] (array ds) → ⊥
no_list_at_end ds (rest, reads) = nothing (array ds, rest) (sym (ap (converted of_json) (value_is 126 [])) ∙ reads)

-- no object begins with another token, nor with none
pub no_members_here : (name : List ℕ) (count : ℕ) (ms : Members) (t : Lent) (ts : List Token) → t ≢ lent.BeginObject
    → HasMembers name count (token_of t ∷ ts) ms → ⊥
no_members_here name count ms t ts other has = other (begins_object t (ap first_token has.begins))

pub no_members_at_end : (name : List ℕ) (count : ℕ) (ms : Members) → HasMembers name count [] ms → ⊥
no_members_at_end name count ms has = let none : [] ≡ Token.begin_object ∷ has.within = has.begins in cc
