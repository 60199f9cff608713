-- The parts of a report: where they are cut, and that they follow one another.
use Rattle.std.proofs.Common.{◌≡◌, ℕ, ◌+◌, ◌-◌, ◌<◌, List, [], ◌∷◌, ◌++◌, length, get_or, map, refl, sym, ap, ◌∙◌, subst}
use Rattle.std.proofs.Common.{append_assoc, append-nil, add-one, arith, inl, inr}
use Rattle.std.specs.Prelude.{Result, Ok, IfOk, string_bytes}
use Rattle.std.specs.List.{flat_map}
use Rattle.std.specs.declared.string.String.{String}
use Rattle.std.specs.declared.alloc.Global.{Global}
use Rattle.std.proofs.Math.Nat.{le_trans}
use Rattle.std.proofs.Math.ListN.{get_or-map}
use Rattle.std.proofs.lemmas.Bool.{cases_lt}
use Rattle.std.proofs.lemmas.List.{get_or_append_left, get_or_push, length-append, length-map}
use Rattle.report.specs.declared.cuts.Cut.{Cut}
use Rattle.report.specs.Parts.{AreCuts, IsBefore, IsPartBetween, start}

pub before_same : (cut : Cut) → IsBefore cut cut
before_same cut = record { entry = omega arith; line = λ same. omega arith }

pub before_trans : (a b c : Cut) → IsBefore a b → IsBefore b c → IsBefore a c
before_trans a b c first second =
    let one = first.entry in
    let two = second.entry in
    record {
      entry = omega (arith, one, two);
      line = λ same. le_trans (first.line (omega (arith, one, two, same))) (second.line (omega (arith, one, two, same)));
    }

-- the cuts up to one
pub record AreBegun (cut : Cut) (cuts : List Cut) : Type 0 where
  pub some : 0 < length cuts
  pub first : get_or cuts 0 start ≡ start
  pub rise : (i : ℕ) → i + 1 < length cuts → IsBefore (get_or cuts i start) (get_or cuts (i + 1) start)
  pub within : (i : ℕ) → i < length cuts → IsBefore (get_or cuts i start) cut

pub begun : AreBegun start (start ∷ [])
begun = record {
  some = omega arith;
  first = refl;
  rise = λ i lt. absurd (omega (arith, lt));
  within = λ i lt. let none : i ≡ 0 = omega (arith, lt) in rw none (before_same start);
}

pub one_more : (cut next : Cut) (cuts : List Cut) → AreBegun cut cuts → IsBefore cut next → AreBegun next (cuts ++ next ∷ [])
one_more cut next cuts is on =
    let longer : length (cuts ++ next ∷ []) ≡ length cuts + 1 = length-append cuts (next ∷ []) in
    let some = is.some in
    let before : (i : ℕ) → i < length cuts → get_or (cuts ++ next ∷ []) i start ≡ get_or cuts i start =
    λ i lt. get_or_append_left cuts (next ∷ []) start i lt in
    let at : (i : ℕ) → length cuts ≡ i → get_or (cuts ++ next ∷ []) i start ≡ next = λ i eq. get_or_push cuts next start i eq in
    record {
      some = omega (arith, longer);
      first = before 0 some ∙ is.first;
      rise = λ i lt. elim (cases_lt (i + 1) (length cuts)) [
        | inl below ↦ rw (before i (omega (arith, below)), before (i + 1) below) (is.rise i below)
        | inr above ↦ rw (before i (omega (arith, lt, longer)), at (i + 1) (omega (arith, lt, longer, above)))
            (before_trans (get_or cuts i start) cut next (is.within i (omega (arith, lt, longer))) on)
      ];
      within = λ i lt. elim (cases_lt i (length cuts)) [
        | inl below ↦ rw (before i below) (before_trans (get_or cuts i start) cut next (is.within i below) on)
        | inr above ↦ rw (at i (omega (arith, lt, longer, above))) (before_same next)
      ];
    }

pub all_cut : (cut end_cut : Cut) (cuts : List Cut) → AreBegun cut cuts → IsBefore cut end_cut → AreCuts end_cut (cuts ++ end_cut ∷ [])
all_cut cut end_cut cuts is on =
    let more = one_more cut end_cut cuts is on in
    let longer : length (cuts ++ end_cut ∷ []) ≡ length cuts + 1 = length-append cuts (end_cut ∷ []) in
    let some = is.some in
    record {
      some = omega (arith, longer, some);
      first = more.first;
      rise = more.rise;
      within = more.within;
      last = get_or_push cuts end_cut start (length (cuts ++ end_cut ∷ []) - 1) (omega (arith, longer));
    }

-- parts follow one another
pub followed : (lines : Cut → List ℕ) (cut : ℕ → Cut) (texts : List (String Global))
    → ((i : ℕ) (d : String Global) → i < length texts → string_bytes (get_or texts i d) ++ lines (cut (i + 1)) ≡ lines (cut i))
    → flat_map string_bytes texts ++ lines (cut (length texts)) ≡ lines (cut 0)
followed lines cut [] each = refl
followed lines cut (text ∷ texts) each =
    let later : (i : ℕ) (d : String Global) → get_or (text ∷ texts) (i + 1) d ≡ get_or texts i d = λ i d. rw add-one refl in
    let longer : length (text ∷ texts) ≡ length texts + 1 = rw add-one refl in
    ap (λ n. flat_map string_bytes (text ∷ texts) ++ lines (cut n)) longer
    ∙ append_assoc (string_bytes text) (flat_map string_bytes texts) (lines (cut (length texts + 1)))
    ∙ ap (λ rest. string_bytes text ++ rest)
    (followed lines (λ i. cut (i + 1)) texts (λ i d lt. ap (λ t. string_bytes t ++ lines (cut (i + 1 + 1))) (sym (later i d))
    ∙ each (i + 1) d (omega (arith, lt))))
    ∙ each 0 text (omega arith)

-- the text of all parts, where each was made
pub all_parts : {E : Type 0} (lines : Cut → List ℕ) (end_cut : Cut) (cuts : List Cut) (made : List (Result (String Global) E))
    (texts : List (String Global))
    → AreCuts end_cut cuts → lines end_cut ≡ [] → length made + 1 ≡ length cuts → map Ok texts ≡ made
    → ((i : ℕ) (d : Result (String Global) E) → i < length made → IfOk (get_or made i d) (λ t. IsPartBetween lines cuts i (string_bytes t)))
    → flat_map string_bytes texts ≡ lines start
all_parts {E} lines end_cut cuts made texts are none long is each =
    let same : length texts ≡ length made = sym (length-map texts Ok) ∙ ap (λ l. length l) is in
    let at : (i : ℕ) (d : String Global) → i < length texts → IsPartBetween lines cuts i (string_bytes (get_or texts i d)) = λ i d lt.
    subst (λ r. IfOk r (λ t. IsPartBetween lines cuts i (string_bytes t)))
    (ap (λ l. get_or l i (Ok d)) (sym is) ∙ get_or-map Ok texts i d) (each i (Ok d) (omega (arith, lt, same))) in
    let end : lines (get_or cuts (length texts) start) ≡ [] =
    ap (λ i. lines (get_or cuts i start)) (omega (arith, same, long)) ∙ ap lines are.last ∙ none in
    sym (append-nil (flat_map string_bytes texts)) ∙ ap (λ rest. flat_map string_bytes texts ++ rest) (sym end)
    ∙ followed lines (λ i. get_or cuts i start) texts at ∙ ap lines are.first
