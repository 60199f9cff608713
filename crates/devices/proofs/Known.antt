-- Known bytes over several calls.
use Rattle.std.proofs.Common.{◌≡◌, ◌+◌, ◌<◌, ◌≤◌, ℕ, min, List, [], ◌∷◌, ◌++◌, Option, Some, None, sym, ap, subst, ◌∙◌, length, get_or}
use Rattle.std.proofs.Common.{take, drop}
use Rattle.std.proofs.Common.{append-nil, append_assoc, arith}
use Rattle.std.specs.Prelude.{string_bytes}
use Rattle.std.specs.List.{flat_map}
use Rattle.std.specs.declared.string.String.{String}
use Rattle.std.specs.declared.alloc.Global.{Global}
use Rattle.std.proofs.Math.Nat.{min-le_right}
use Rattle.std.proofs.lemmas.List.{take_all, take_min, take-append-le, take-append-drop, flat_map_more}
use Rattle.std.proofs.lemmas.List.Concat.{flat_map-append}
use Rattle.std.proofs.lemmas.Grind.{take_at_read}
use Rattle.std.proofs.Math.Seq.{take-add, take-append-add}
use Rattle.std.proofs.KnownBytes.{Appends-trans, Consumes-trans}
use Rattle.std.specs.Io.KnownBytes.{Appends, Consumes, IsAtEnd}
use Rattle.devices.specs.Devices.{ReadsUpTo}

-- one more piece was taken
pub appends_piece : (a b c : Option (List ℕ)) (text piece : List ℕ) (done count : ℕ) → piece ≡ drop done text → Appends a b (take done text)
    → Appends b c (take count piece) → Appends a c (take (done + count) text)
appends_piece a b c text piece done count is first second =
    subst (Appends a c) (ap (λ rest. take done text ++ take count rest) is ∙ sym (take-add done count text))
    (Appends-trans a b c _ _ first second)

-- one more piece was given
pub consumes_piece : (a b c : Option (List ℕ)) (bytes : List ℕ) (filled count : ℕ) → Consumes a b (take filled bytes)
    → Consumes b c (take count (drop filled bytes)) → Consumes a c (take (filled + count) bytes)
consumes_piece a b c bytes filled count first second =
    subst (Consumes a c) (sym (take-add filled count bytes)) (Consumes-trans a b c _ _ first second)

-- no more was given
pub consumes_none : (a b c : Option (List ℕ)) (bytes : List ℕ) (filled count : ℕ) → Consumes a b (take filled bytes)
    → Consumes b c (take count (drop filled bytes)) → count ≡ 0 → Consumes a c (take filled bytes)
consumes_none a b c bytes filled count first second none =
    let same : filled + count ≡ filled = omega (arith, none) in
    subst (λ n. Consumes a c (take n bytes)) same (consumes_piece a b c bytes filled count first second)

-- the source came to its end
pub reads_to_end : (most : ℕ) (old new : Option (List ℕ)) (bytes : List ℕ) → Consumes old new bytes → IsAtEnd new → length bytes ≤ most
    → ReadsUpTo most old new bytes
reads_to_end most None new bytes given end short = (tt, tt)
reads_to_end most (Some input) None bytes given end short = absurd given
reads_to_end most (Some input) (Some rest) bytes given end short =
    let whole : input ≡ bytes = given ∙ ap (λ left. bytes ++ left) end ∙ append-nil bytes in
    (given, sym (ap (take most) whole ∙ take_all most bytes short))

-- as much was given as is read at most
pub reads_most : (most : ℕ) (old new : Option (List ℕ)) (bytes : List ℕ) → Consumes old new bytes → length bytes ≡ most
    → ReadsUpTo most old new bytes
reads_most most None new bytes given full = (tt, tt)
reads_most most (Some input) None bytes given full = absurd given
reads_most most (Some input) (Some rest) bytes given full =
    let front : take most input ≡ take most bytes = ap (take most) given ∙ take-append-le most bytes rest (omega (arith, full)) in
    (given, sym (front ∙ take_all most bytes (omega (arith, full))))

-- the texts before one, it, and those after it
one_of_texts : (texts : List (String Global)) (i : ℕ) (text : String Global) → i < length texts → text ≡ get_or texts i text
    → take (i + 1) texts ≡ take i texts ++ text ∷ []
one_of_texts texts i text lt is = (take_at_read texts i text lt).1 ∙ ap (λ x. take i texts ++ x ∷ []) (sym is)

-- one more text was taken
pub appends_text : (a b c : Option (List ℕ)) (texts : List (String Global)) (i : ℕ) (text : String Global) → i < length texts
    → text ≡ get_or texts i text → Appends a b (flat_map string_bytes (take i texts)) → Appends b c (string_bytes text)
    → Appends a c (flat_map string_bytes (take (i + 1) texts))
appends_text a b c texts i text lt is first second =
    subst (Appends a c) (flat_map_more string_bytes [] (take i texts) text
    ∙ ap (flat_map string_bytes) (sym (one_of_texts texts i text lt is))) (Appends-trans a b c _ _ first second)

-- a beginning of what follows is a beginning of all
beginning_of : (before text after : List ℕ) (count : ℕ)
    → take (length before + min count (length text)) (before ++ (text ++ after)) ≡ before ++ take count text
beginning_of before text after count =
    take-append-add before (text ++ after) (min count (length text))
    ∙ ap (λ rest. before ++ rest) (take-append-le (min count (length text)) text after (min-le_right count (length text))
    ∙ take_min count text)

-- a beginning of one more text was taken
pub appends_beginning : (a b c : Option (List ℕ)) (texts : List (String Global)) (i : ℕ) (text : String Global) → i < length texts
    → text ≡ get_or texts i text → Appends a b (flat_map string_bytes (take i texts))
    → ((count : ℕ) × Appends b c (take count (string_bytes text)))
    → (count : ℕ) × Appends a c (take count (flat_map string_bytes texts))
appends_beginning a b c texts i text lt is first (count, second) =
    let before = flat_map string_bytes (take i texts) in
    let after = flat_map string_bytes (drop (i + 1) texts) in
    let all : flat_map string_bytes texts ≡ before ++ (string_bytes text ++ after) =
    ap (flat_map string_bytes) (sym (take-append-drop (i + 1) texts))
    ∙ flat_map-append string_bytes (take (i + 1) texts) (drop (i + 1) texts)
    ∙ ap (λ front. front ++ after) (ap (flat_map string_bytes) (one_of_texts texts i text lt is)
    ∙ sym (flat_map_more string_bytes [] (take i texts) text))
    ∙ append_assoc before (string_bytes text) after in
    let n = length before + min count (length (string_bytes text)) in (
      n,
      subst (Appends a c) (sym (ap (take n) all ∙ beginning_of before (string_bytes text) after count))
          (Appends-trans a b c _ _ first second),
    )
