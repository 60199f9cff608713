-- The line of a fault and its place, as it is put together.
use Rattle.std.proofs.Common.{◌≡◌, ℕ, List, ◌++◌, codes, sym, ap, ◌∙◌, append_assoc}
use Rattle.std.specs.Fmt.{decimal}
use Rattle.faults.specs.Faults.{code_number}
use Rattle.faults.specs.declared.fault.Fault.{Fault}
use Rattle.lang.specs.declared.places.Place.{Place}
use Rattle.ordtx.specs.Answers.{place_line, place_text}

-- four parts, whatever is put together first
pub four_parts : (a b c d : List ℕ) → a ++ b ++ c ++ d ≡ a ++ (b ++ (c ++ d))
four_parts a b c d = append_assoc (a ++ b) c d ∙ append_assoc a b (c ++ d)

-- the parts of the line
pub placed_text : (text at : List ℕ) (number : ℕ) (fault : Fault) (place : Place)
    → text ≡ codes "fault "
    ++ (decimal number ++ (codes " transaction " ++ (decimal fault.transaction ++ (codes " at" ++ (at ++ codes "\n")))))
    → number ≡ code_number fault.code → at ≡ place_text place → text ≡ place_line fault place
placed_text text at number fault place wrote is_number is_at =
    let a = codes "fault " in let t = codes " transaction " ++ (decimal fault.transaction ++ (codes " at" ++ (at ++ codes "\n"))) in
    wrote
    ∙ ap (λ n. a ++ (decimal n ++ t)) is_number
    ∙ ap (λ x. a ++ (decimal (code_number fault.code)
    ++ (codes " transaction " ++ (decimal fault.transaction ++ (codes " at" ++ (x ++ codes "\n")))))) is_at
    ∙ sym (seven_parts a (decimal (code_number fault.code)) (codes " transaction ") (decimal fault.transaction) (codes " at")
    (place_text place) (codes "\n"))
  where
    seven_parts : (a b c d e f g : List ℕ) → a ++ b ++ c ++ d ++ e ++ f ++ g ≡ a ++ (b ++ (c ++ (d ++ (e ++ (f ++ g)))))
    seven_parts a b c d e f g = four_parts (a ++ b ++ c ++ d) e f g ∙ four_parts (a ++ b) c d (e ++ (f ++ g))
        ∙ append_assoc a b (c ++ (d ++ (e ++ (f ++ g))))
