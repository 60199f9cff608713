-- Names of at most 8 bytes with the same digest are the same.
use Rattle.std.proofs.Common.{◌≡◌, ◌≤◌, ◌<◌, ◌+◌, ◌-◌, ◌∙◌, ℕ, zero, suc, ◌⊎◌, inl, inr, Bool, true, false, cond, List, [], ◌∷◌, ◌++◌}
use Rattle.std.proofs.Common.{Some, String, Global, arith, ap, ap₂, drop, get_or, IsUtf8, length, lt-ltb, ltb-true, min, nat_lt}
use Rattle.std.proofs.Common.{option_map, refl, slice_get, string_bytes, string_eq, subst, sym}
use Rattle.std.specs.List.{All, AllByRecursion, IsDistinct}
use Rattle.std.proofs.lemmas.Bool.{and_parts}
use Rattle.std.proofs.lemmas.List.Elements.{All-same}
use Rattle.std.proofs.lemmas.Option.{get_or_from_slice_get, same_Some, slice_get-map, slice_get_within}
use Rattle.std.proofs.lemmas.Slice.Eq.{bytes_eq-Decides}
use Rattle.std.proofs.lemmas.Str.{IsUtf8-string_bytes}
use lib.Utf8.{encode, encodes, scalar, scalar_cases, scalars}
use Rattle.objects.specs.Entries.{State, kinds}
use Rattle.objects.specs.Objects.{kind_of_value}
use Rattle.objects.specs.declared.kind.Kind.{Kind}
use Rattle.objects.specs.declared.kind.Value.{Value}
use Rattle.batch.specs.Names.{texts_of}
use Rattle.doc_tree.specs.Digests.{digest_in, digest_of, number_of_bytes, AreRight, IsObject, IsRight}
use Rattle.doc_tree.specs.Scope.{place_of}
use Rattle.doc_tree.specs.declared.digests.Digest.{Digest}
use Rattle.doc_tree.specs.declared.outlines.Outline.{Outline}
use Rattle.doc_tree.proofs.TableLemmas.{place_of_key}

-- ---- bytes

-- each is below 256
abbrev AreBytes : List ℕ → Type 0
AreBytes bytes = AllByRecursion (λ b. b < 256) bytes

-- bytes after bytes
bytes_append : (bs cs : List ℕ) → AreBytes bs → AreBytes cs → AreBytes (bs ++ cs)
bytes_append [] cs p q = q
bytes_append (b ∷ bs) cs p q = (p.0, bytes_append bs cs p.1 q)

-- bytes in either case
either : (b : Bool) (xs ys : List ℕ) → (b ≡ true → AreBytes xs) → (b ≡ false → AreBytes ys) → AreBytes (cond b xs ys)
either true xs ys p q = p refl
either false xs ys p q = q refl

-- no character has a greater number
below_last : (c : ℕ) → scalar c ≡ true → c < 1114112
below_last c is = by (scalar_cases c is)
  where
    by : (c < 55296) ⊎ ((57344 ≤ c) × (c < 1114112)) → c < 1114112
    by (inl h) = omega arith
    by (inr h) = h.1

-- the one to four bytes of a character
encoded : (c : ℕ) → scalar c ≡ true → AreBytes (encode c)
unfolding encode
encoded c is =
    let last : c < 1114112 = below_last c is in
    either (nat_lt c 128) _ _ (λ h. let lt : c < 128 = ltb-true _ _ h in (omega arith, tt))
    (λ _. either (nat_lt c 2048) _ _ (λ h. let lt : c < 2048 = ltb-true _ _ h in (omega arith, (omega arith, tt)))
    (λ _. either (nat_lt c 65536) _ _ (λ h. let lt : c < 65536 = ltb-true _ _ h in (omega arith, (omega arith, (omega arith, tt))))
    (λ _. (omega arith, (omega arith, (omega arith, (omega arith, tt)))))))

-- and of several
all_encoded : (cs : List ℕ) → scalars cs ≡ true → AreBytes (encodes cs)
all_encoded [] e = tt
all_encoded (c ∷ cs) e =
    let both = and_parts (scalar c) (scalars cs) e in
    bytes_append (encode c) (encodes cs) (encoded c both.0) (all_encoded cs both.1)

-- the bytes of a text are below 256
utf8_bytes : (text : List ℕ) → IsUtf8 text → AreBytes text
utf8_bytes text is = subst AreBytes is.1.1 (all_encoded is.0 is.1.0)

-- lists of bytes of the same length that write the same number are the same
same_bytes : (xs ys : List ℕ) → AreBytes xs → AreBytes ys → length xs ≡ length ys → number_of_bytes xs ≡ number_of_bytes ys → xs ≡ ys
same_bytes [] [] p q l e = refl
same_bytes [] (y ∷ ys) p q l e = absurd (omega arith)
same_bytes (x ∷ xs) [] p q l e = absurd (omega arith)
same_bytes (x ∷ xs) (y ∷ ys) p q l e =
    let low : x < 256 = p.0 in
    let lows : y < 256 = q.0 in
    let first : x ≡ y = omega arith in
    let others : number_of_bytes xs ≡ number_of_bytes ys = omega arith in
    ap₂ (λ z zs. z ∷ zs) first (same_bytes xs ys p.1 q.1 (omega arith) others)

-- ---- digests

-- all of a short name is at its end
all_short : (name : List ℕ) → length name ≤ 8 → drop (length name - 8) name ≡ name
all_short name short = let none : length name - 8 ≡ 0 = omega arith in ap (λ n. drop n name) none

-- two names, of which one is short, with the same length and the same ending
same_name : (a b : List ℕ) → IsUtf8 a → IsUtf8 b → min (length a) 255 ≤ 8 → min (length b) 255 ≡ min (length a) 255
    → number_of_bytes (drop (length b - 8) b) ≡ number_of_bytes (drop (length a - 8) a) → b ≡ a
same_name a b is_a is_b short l e =
    same_bytes b a (utf8_bytes b is_b) (utf8_bytes a is_a) (omega arith)
    (sym (ap number_of_bytes (all_short b (omega arith))) ∙ e ∙ ap number_of_bytes (all_short a (omega arith)))

-- ---- objects

-- the key at a place where there is a name with this digest
record Named (keys : List (String Global)) (place : ℕ) (d : Digest) : Type 0 where
  key : String Global
  here : slice_get keys place ≡ Some key
  is : digest_of (string_bytes key) ≡ d

name_at : (keys : List (String Global)) (place : ℕ) (d : Digest)
    → option_map digest_of (slice_get (texts_of keys) place) ≡ Some d → Named keys place d
name_at [] place d at = cc
name_at (k ∷ keys) zero d at = record { key = k; here = refl; is = same_Some (digest_of (string_bytes k)) d at }
name_at (k ∷ keys) (suc place) d at =
    let named = name_at keys place d at in
    record { key = named.key; here = named.here; is = named.is }

-- an object whose name has a digest that is whole has each name with this digest
pub object_named : (keys : List (String Global)) (ks : List Kind) (d : Digest) (found : ℕ × Kind) → IsDistinct string_eq keys
    → IsObject (texts_of keys) ks d found → d.length ≤ 8
    → (name : List ℕ) → IsUtf8 name → d ≡ digest_of name → place_of name (texts_of keys) ≡ Some found.0
object_named keys ks d found distinct object short name is of =
    let named = name_at keys found.0 d object.name in
    let k = named.key in
    let alike : digest_of (string_bytes k) ≡ digest_of name = named.is ∙ of in
    let long : d.length ≡ min (length name) 255 = ap (λ (x : Digest). x.length) of in
    let same : string_bytes k ≡ name = same_name name (string_bytes k) is (IsUtf8-string_bytes k) (omega arith)
    (ap (λ (x : Digest). x.length) alike) (ap (λ (x : Digest). x.ending) alike) in
    place_of_key name keys found.0 k distinct (lt-ltb _ _ (slice_get_within keys found.0 k named.here))
    (get_or_from_slice_get keys found.0 k k named.here) ((bytes_eq-Decides (string_bytes k) name).1 same)

-- ---- outlines

-- the outline of the object at a place is right
pub outline_right : (keys : List (String Global)) (objects : State) (place : ℕ) (k : String Global) (v : Value) (o : Outline)
    → slice_get keys place ≡ Some k → slice_get objects place ≡ Some v → digest_in o ≡ digest_of (string_bytes k)
    → o.kind ≡ kind_of_value v → o.end ≡ place + 1 → IsRight (texts_of keys) (kinds objects) o
outline_right keys objects place k v o key value of kind at = λ end is.
    let here : end ≡ place = omega arith in
    subst (λ i. IsObject (texts_of keys) (kinds objects) (digest_in o) (i, o.kind)) (sym here)
    (record {
      name = ap (option_map digest_of) (slice_get-map string_bytes keys place ∙ ap (option_map string_bytes) key) ∙ ap Some (sym of);
      kind = slice_get-map kind_of_value objects place ∙ ap (option_map kind_of_value) value ∙ ap Some (sym kind);
    })

-- an outline that is right has the place and the kind of its object
pub outline_found : (names : List (List ℕ)) (ks : List Kind) (o : Outline) (d : Digest) (found : ℕ × Kind) → IsRight names ks o
    → digest_in o ≡ d → o.end ≡ found.0 + 1 → o.kind ≡ found.1 → IsObject names ks d found
outline_found names ks o d found right of at kind =
    let object = right found.0 at in
    record { name = object.name ∙ ap Some of; kind = object.kind ∙ ap Some kind }

-- the outlines on a slot are right
pub slot_right : (names : List (List ℕ)) (ks : List Kind) (slots : List (List Outline)) (slot : ℕ) (os : List Outline)
    → slot < length slots → os ≡ get_or slots slot os → AreRight names ks slots → All (IsRight names ks) os
slot_right names ks slots slot os within at all = All-same (IsRight names ks) os (get_or slots slot os) at (all slot os within)
