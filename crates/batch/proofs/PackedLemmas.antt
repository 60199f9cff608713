-- The parts of a text that lie one after the other: each by its place.
use Rattle.std.proofs.Common.{◌≡◌, ◌∙◌, ◌<◌, ◌≤◌, ◌⊎◌, inl, inr, ℕ, ◌-◌, List, [], ◌∷◌, ◌++◌, zero, suc, ap, ap₂, arith, drop, get_or}
use Rattle.std.proofs.Common.{length, length-append, length-drop, refl, subst}
use Rattle.std.proofs.Math.Seq.{drop-append_seam}
use Rattle.std.proofs.lemmas.List.{drop-append-le, take-append-le, take_all}
use Rattle.std.proofs.Math.ListN.{get_or-append}
use Rattle.std.proofs.lemmas.Bool.{cases_lt}
use Rattle.std.proofs.lemmas.Str.{IsCharBoundary-at_seam, IsCharBoundary-end}
use Rattle.std.specs.Prelude.{Option, Some, slice_get, slice_range}
use Rattle.std.specs.Str.{IsCharBoundary, IsUtf8}
use Rattle.batch.specs.Packed.{AreEnds, parts_from}

-- there are as many parts as ends
pub length-parts_from : (text : List ℕ) (start : ℕ) (ends : List ℕ) → length (parts_from text start ends) ≡ length ends
length-parts_from text start [] = refl
length-parts_from text start (first ∷ ends) = ap suc (length-parts_from text first ends)

-- a part that was found lies from here to there, where the text may be cut
pub record IsPart (text : List ℕ) (from to : ℕ) (found : Option (List ℕ)) : Type 0 where
  pub ordered : from ≤ to
  pub begins : 0 < from → IsCharBoundary text from
  pub ends : IsCharBoundary text to
  pub is : found ≡ Some (slice_range text from to)

-- each part lies between the end before it and its own
pub part_at : (text : List ℕ) (start : ℕ) (ends : List ℕ) (k : ℕ) → AreEnds text start ends
    → (0 < start → IsCharBoundary text start) → k < length ends
    → IsPart text (get_or (start ∷ ends) k 0) (get_or ends k 0) (slice_get (parts_from text start ends) k)
part_at text start [] k are b lt = absurd (omega arith)
part_at text start (first ∷ ends) zero are b lt = record { ordered = are.0; begins = b; ends = are.1; is = refl }
part_at text start (first ∷ ends) (suc k) are b lt = part_at text first ends k are.2 (λ _. are.1) (omega arith)

-- a longer text may be cut wherever its beginning may be
boundary_more : (text more : List ℕ) (i : ℕ) → IsUtf8 more → IsCharBoundary text i → IsCharBoundary (text ++ more) i
boundary_more text more i u b = by_place (cases_lt i (length text)) where
  by_place : (i < length text) ⊎ (length text ≤ i) → IsCharBoundary (text ++ more) i
  by_place (inl lt) = (omega (arith, length-append text more), λ _. rw (get_or-append text more 0 i lt) (b.1 lt))
  by_place (inr le) =
      let same : length text ≡ i = omega (arith, b.0) in
      subst (IsCharBoundary (text ++ more)) same (IsCharBoundary-at_seam (text ++ more) text more refl u)

-- a longer text has the parts of its beginning
earlier_part : (text more : List ℕ) (from to : ℕ) → from ≤ to → to ≤ length text
    → slice_range (text ++ more) from to ≡ slice_range text from to
earlier_part text more from to le within =
    let begins : from ≤ length text = omega arith in
    let fits : to - from ≤ length (drop from text) = omega (arith, length-drop from text) in
    rw (drop-append-le from text more, take-append-le (to - from) (drop from text) more) refl

-- what a text is longer by is its last part
last_part : (text more : List ℕ) → slice_range (text ++ more) (length text) (length (text ++ more)) ≡ more
last_part text more = rw (drop-append_seam text more) (take_all _ more (omega (arith, length-append text more)))

-- a text has these parts, which end at these places
pub record Holds (text : List ℕ) (start : ℕ) (ends : List ℕ) (parts : List (List ℕ)) : Type 0 where
  pub are_ends : AreEnds text start ends
  pub are_parts : parts_from text start ends ≡ parts

-- a text that is longer by one more part
pub one_more : (text more : List ℕ) (start : ℕ) (ends : List ℕ) (parts : List (List ℕ)) → IsUtf8 more → Holds text start ends parts
    → Holds (text ++ more) start (ends ++ length (text ++ more) ∷ []) (parts ++ more ∷ [])
one_more text more start [] parts u h = record {
  are_ends = (omega (arith, h.are_ends, length-append text more), IsCharBoundary-end (text ++ more), refl);
  are_parts = rw h.are_ends (ap (λ t. t ∷ []) (last_part text more)) ∙ ap (λ ts. ts ++ more ∷ []) h.are_parts;
}
one_more text more start (first ∷ ends) parts u h =
    let rest = one_more text more first ends (parts_from text first ends) u (record { are_ends = h.are_ends.2; are_parts = refl }) in
    let earlier = earlier_part text more start first h.are_ends.0 h.are_ends.1.0 in
    record {
      are_ends = (h.are_ends.0, boundary_more text more first u h.are_ends.1, rest.are_ends);
      are_parts = ap₂ ◌∷◌ earlier rest.are_parts ∙ ap (λ ts. ts ++ more ∷ []) h.are_parts;
    }
