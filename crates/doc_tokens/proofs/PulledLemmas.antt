-- How readings of parts make the reading of the whole.
use Rattle.std.proofs.Common.{◌≡◌, ℕ, suc, ◌-◌, ◌<◌, ◌≤◌, List, [], ◌∷◌, ◌++◌, length, Bool, Option, Some, None, option_map}
use Rattle.std.proofs.Common.{option_and_then, refl, ap, ◌∙◌, arith}
use Rattle.std.specs.Prelude.{IfErr, IfOk, Result, Ok, Err}
use Rattle.std.specs.Result.{result_ok}
use Rattle.std.proofs.lemmas.Result.{IfOk-weaker}
use Rattle.json.specs.Token.{Token}
use Rattle.json.specs.Lex.{tokens}
use Rattle.json.specs.Json as json
use Rattle.json.specs.Json.{parse_map, after_end_array, read_key}
use Rattle.json.proofs.Grammar.{items_end, items_more, members_end, members_more, value_is, value-begin_array, value-begin_object}
use Rattle.json.proofs.Grammar.{skip_value-shorter, left}
use Rattle.serde_json.specs.Data.{Num, Data, null, boolean, array, object, string, number, Items, no_items, item, Members, no_members, put}
use Rattle.serde_json.specs.Read.{of_json, of_items, of_members, converted, number_of, max_depth, read as read_text}
use Rattle.serde_json.specs.View.{items_view, view}
use Rattle.serde_json.specs.declared.value.Value.{Value}
use Rattle.doc_tokens.specs.Pulled.{ReadsValue, ReadsItems, ReadsMembers}

-- what follows from what holds of a value holds of it
pub IfOk_then : {X E : Type 0} (r : Result X E) {P Q : X → Type 0} → IfOk r P → ((x : X) → P x → Q x) → IfOk r Q
IfOk_then r {P} {Q} h f = IfOk-weaker r P Q f h

pub IfErr_then : {X E : Type 0} (r : Result X E) {P Q : E → Type 0} → IfErr r P → ((e : E) → P e → Q e) → IfErr r Q
IfErr_then (Ok x) h f = tt
IfErr_then (Err e) h f = f e h

-- an option is the value that a result of it holds
pub IfOk_some : {X E : Type 0} (o : Option X) (r : Result X E) → o ≡ result_ok r → IfOk r (λ x. o ≡ Some x)
IfOk_some o (Ok x) is = is
IfOk_some o (Err e) is = tt

-- ---- conversions

abbrev pub pick : {A : Type 0} → A → Option A → A
pick d None = d
pick d (Some a) = a

found_is : {B : Type 0} (r s : List Token) (x : Option B) (b : B) → option_map {U = B × List Token} (λ y. (y, r)) x ≡ Some (b, s)
    → (r ≡ s) × (x ≡ Some b)
found_is r s None b e = absurd (cc)
found_is r s (Some y) b e = let same = ap (pick (y, r)) e in (ap (λ p. p.1) same, ap (λ p. Some p.0) same)

pub converted_some : {A B : Type 0} (f : A → Option B) (o : Option (A × List Token)) (b : B) (r : List Token)
    → converted f o ≡ Some (b, r) → (a : A) × (o ≡ Some (a, r)) × (f a ≡ Some b)
converted_some f None b r e = absurd (cc)
converted_some f (Some p) b r e = let both = found_is p.1 r (f p.0) b e in (p.0, ap (λ s. Some (p.0, s)) both.0, both.1)

twice : {A B : Type 0} (g : A → B) (r : List Token) (x : Option A) → option_map (λ b. (b, r)) (option_map g x)
    ≡ parse_map g (option_map (λ a. (a, r)) x)
twice g r None = refl
twice g r (Some a) = refl

pub of_array : (o : Option (json.Items × List Token)) → converted of_json (parse_map json.array o) ≡ parse_map array (converted of_items o)
of_array None = refl
of_array (Some p) = twice array p.1 (of_items p.0)

pub of_object : (o : Option (json.Members × List Token)) → converted of_json (parse_map json.object o)
    ≡ parse_map object (converted (λ ms. of_members ms no_members) o)
of_object None = refl
of_object (Some p) = twice object p.1 (of_members p.0 no_members)

pub with_item : (j : json.Json) (d : Data) → of_json j ≡ Some d → (o : Option (json.Items × List Token))
    → converted of_items (parse_map (json.item j) o) ≡ parse_map (item d) (converted of_items o)
with_item j d e None = refl
with_item j d e (Some p) = rw e (twice (item d) p.1 (of_items p.0))

pub with_member : (k : List ℕ) (j : json.Json) (d : Data) (old : Members) → of_json j ≡ Some d → (o : Option (json.Members × List Token))
    → converted (λ ms. of_members ms old) (parse_map (json.member k j) o) ≡ converted (λ ms. of_members ms (put k d old)) o
with_member k j d old e None = refl
with_member k j d old e (Some p) = rw e

-- ---- values

pub reads_string : (k : ℕ) (s : List ℕ) (new : List Token) → ReadsValue k (Token.string s ∷ new) (string s) new
reads_string k s new depth le = ap (converted of_json) (value_is depth (Token.string s ∷ new))

pub reads_number : (k : ℕ) (s : List ℕ) (x : Num) (new : List Token) → number_of s ≡ Some x
    → ReadsValue k (Token.number s ∷ new) (number x) new
reads_number k s x new e depth le = ap (converted of_json) (value_is depth (Token.number s ∷ new)) ∙ rw e refl

pub reads_boolean : (k : ℕ) (b : Bool) (new : List Token) → ReadsValue k (Token.boolean b ∷ new) (boolean b) new
reads_boolean k b new depth le = ap (converted of_json) (value_is depth (Token.boolean b ∷ new))

pub reads_null : (k : ℕ) (new : List Token) → ReadsValue k (Token.null ∷ new) null new
reads_null k new depth le = ap (converted of_json) (value_is depth (Token.null ∷ new))

pub reads_array : (k : ℕ) (old : List Token) (ds : Items) (new : List Token) → ReadsItems k old ds new
    → ReadsValue (suc k) (Token.begin_array ∷ old) (array ds) new
reads_array k old ds new reads depth le =
    ap (converted of_json) (value-begin_array depth old (omega arith)) ∙ of_array (json.items (json.value (depth - 1)) (length old) old)
    ∙ ap (parse_map array) (reads (depth - 1) (length old) (omega arith) (omega arith))

pub reads_object : (k : ℕ) (old : List Token) (ms : Members) (new : List Token) → ReadsMembers k no_members old ms new
    → ReadsValue (suc k) (Token.begin_object ∷ old) (object ms) new
reads_object k old ms new reads depth le =
    ap (converted of_json) (value-begin_object depth old (omega arith)) ∙ of_object (json.members (json.value (depth - 1)) (length old) old)
    ∙ ap (parse_map object) (reads (depth - 1) (length old) (omega arith) (omega arith))

-- ---- items and members

pub reads_no_items : (k : ℕ) (old new : List Token) → after_end_array old ≡ Some new → ReadsItems k old no_items new
reads_no_items k old new e depth n le enough = ap (converted of_items) (items_end (json.value depth) n old new enough e)

pub reads_item : (k : ℕ) (old mid new : List Token) (d : Data) (ds : Items) → after_end_array old ≡ None → ReadsValue k old d mid
    → ReadsItems k mid ds new → ReadsItems k old (item d ds) new
reads_item k old mid new d ds going first rest depth n le enough =
    let j = converted_some of_json (json.value depth old) d mid (first depth le) in
    let less = skip_value-shorter depth old mid (ap left j.1) in
    ap (converted of_items) (items_more (json.value depth) n old mid j.0 (omega (arith, less)) going j.1)
    ∙ with_item j.0 d j.2 (json.items (json.value depth) (n - 1) mid)
    ∙ ap (parse_map (item d)) (rest depth (n - 1) le (omega (arith, less)))

pub reads_no_members : (k : ℕ) (found : Members) (old new : List Token) → read_key old ≡ Some (None, new)
    → ReadsMembers k found old found new
reads_no_members k found old new e depth n le enough = ap (converted (λ ms. of_members ms found))
    (members_end (json.value depth) n old new enough e)

pub reads_member : (k : ℕ) (found : Members) (name : List ℕ) (old named mid new : List Token) (d : Data) (ms : Members) → read_key old
    ≡ Some (Some name, named) → length named < length old
    → ReadsValue k named d mid → ReadsMembers k (put name d found) mid ms new → ReadsMembers k found old ms new
reads_member k found name old named mid new d ms key shorter first rest depth n le enough =
    let j = converted_some of_json (json.value depth named) d mid (first depth le) in
    let less = skip_value-shorter depth named mid (ap left j.1) in
    ap (converted (λ js. of_members js found)) (members_more (json.value depth) n name old named mid j.0 (omega (arith, shorter)) key j.1)
    ∙ with_member name j.0 d found j.2 (json.members (json.value depth) (n - 1) mid)
    ∙ rest depth (n - 1) le (omega (arith, less, shorter))

-- ---- the whole text

pub reads_text : (text : List ℕ) (k : ℕ) (d : Data) → k ≤ 127 → ReadsValue k (tokens text) d [] → read_text text ≡ Some d
reads_text text k d le reads =
    let j = converted_some of_json (json.value max_depth (tokens text)) d [] (reads max_depth le) in
    ap (λ o. option_and_then of_json (option_and_then (λ p. json.if_last p.0 p.1) o)) j.1 ∙ j.2

-- ---- more levels, and fewer tokens

pub reads_deeper : (k m : ℕ) (old : List Token) (d : Data) (new : List Token) → k ≤ m → ReadsValue k old d new → ReadsValue m old d new
reads_deeper k m old d new le reads depth enough = reads depth (omega (arith, le, enough))

pub items_deeper : (k m : ℕ) (old : List Token) (ds : Items) (new : List Token) → k ≤ m → ReadsItems k old ds new → ReadsItems m old ds new
items_deeper k m old ds new le reads depth n enough = reads depth n (omega (arith, le, enough))

pub reads_shorter : (k : ℕ) (old : List Token) (d : Data) (new : List Token) → ReadsValue k old d new → length new < length old
reads_shorter k old d new reads = let j = converted_some of_json (json.value k old) d new (reads k (omega arith)) in
    skip_value-shorter k old new (ap left j.1)

-- ---- a list of values that grows at its end

abbrev pub items_before : List Value → Items → Items
items_before [] rest = rest
items_before (v ∷ vs) rest = item (view v) (items_before vs rest)

pub items_before-no_items : (vs : List Value) → items_before vs no_items ≡ items_view vs
items_before-no_items [] = refl
items_before-no_items (v ∷ vs) = ap (item (view v)) (items_before-no_items vs)

pub items_push : (vs : List Value) (v : Value) (rest : Items) → items_before vs (item (view v) rest) ≡ items_before (vs ++ v ∷ []) rest
items_push [] v rest = refl
items_push (w ∷ vs) v rest = ap (item (view w)) (items_push vs v rest)
