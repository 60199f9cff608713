-- A pair and an object, as they are written.
use Rattle.std.proofs.Common.{◌≡◌, ℕ, List, ◌++◌, ap, sym, ◌∙◌, append_assoc}
use Rattle.std.specs.Prelude.{codes}
use Rattle.atoms.specs.declared.item.Item.{Item}
use Rattle.meaning.specs.Words.{Naming}
use Rattle.carry.specs.Carried.{item_text, pair_text, quoted}

-- a pair, as it is written
pub pair_parts : (names : Naming) (pair : Item × Item)
    → codes "[\"" ++ (names.item pair.0 ++ (codes "\", \"" ++ (names.item pair.1 ++ codes "\"]"))) ≡ pair_text names pair
pair_parts names pair =
    let key = names.item pair.0 in let item = names.item pair.1 in let quote = codes "\"" in let comma = codes ", "
    in let close = codes "]" in
    sym (ap (λ text. codes "[\"" ++ text) (append_assoc (key ++ quote ++ comma) (item_text names pair.1) close
    ∙ append_assoc (key ++ quote) comma (item_text names pair.1 ++ close)
    ∙ append_assoc key quote (comma ++ (item_text names pair.1 ++ close))
    ∙ ap (λ text. key ++ (codes "\", \"" ++ text)) (append_assoc item quote close)))

-- an object, as it is written
head_parts : (name kind : List ℕ)
    → codes "{\"name\": \"" ++ (name ++ (codes "\", \"kind\": \"" ++ (kind ++ codes "\", \"start\": ")))
    ≡ codes "{\"name\": " ++ quoted name ++ codes ", \"kind\": " ++ quoted kind ++ codes ", \"start\": "
head_parts name kind =
    let quote = codes "\"" in let first = codes "{\"name\": " ++ quoted name in let second = codes ", \"kind\": "
    in let third = codes ", \"start\": " in
    sym (append_assoc (first ++ second) (quoted kind) third ∙ append_assoc first second (quoted kind ++ third)
    ∙ ap (λ text. codes "{\"name\": \"" ++ text) (append_assoc name quote (second ++ (quoted kind ++ third))
    ∙ ap (λ text. name ++ (codes "\", \"kind\": \"" ++ text)) (append_assoc kind quote third)))

pub object_parts : (out mid next new name kind start : List ℕ)
    → mid ≡ out ++ (codes "{\"name\": \"" ++ (name ++ (codes "\", \"kind\": \"" ++ (kind ++ codes "\", \"start\": "))))
    → next ≡ mid ++ start → new ≡ next ++ codes "}"
    → new ≡ out
    ++ (codes "{\"name\": " ++ quoted name ++ codes ", \"kind\": " ++ quoted kind ++ codes ", \"start\": " ++ start ++ codes "}")
object_parts out mid next new name kind start first second third =
    let head = codes "{\"name\": " ++ quoted name ++ codes ", \"kind\": " ++ quoted kind ++ codes ", \"start\": " in
    third ∙ ap (λ text. text ++ codes "}") (second ∙ ap (λ text. text ++ start) (first
    ∙ ap (λ text. out ++ text) (head_parts name kind)) ∙ append_assoc out head start)
    ∙ append_assoc out (head ++ start) (codes "}")
