-- An object's members beside the keys of its map.
use Rattle.std.proofs.Common.{◌≡◌, ℕ, List, [], ◌∷◌, Some, None, string_bytes, refl, ap, String, Global}
use Rattle.std.specs.Prelude.{Option, if◌then◌else◌}
use Rattle.std.specs.Map.{keys_of}
use Rattle.serde_json.specs.View.{members_view}
use Rattle.serde_json.proofs.Views.{Entry}
use Rattle.batch.specs.Names.{is_name}
use Rattle.doc_mistakes.specs.Parts.{first_other, first_unnamed, is_among}

abbrev pub other_key : List (List ℕ) → List (String Global) → Option (List ℕ)
other_key names [] = None
other_key names (k ∷ ks) = if is_among (string_bytes k) names then other_key names ks else Some (string_bytes k)

abbrev pub unnamed_key : ℕ → List (String Global) → Option (List ℕ)
unnamed_key version [] = None
unnamed_key version (k ∷ ks) = if is_name version (string_bytes k) then unnamed_key version ks else Some (string_bytes k)

pub first_other-keys : (names : List (List ℕ)) (es : List Entry) → first_other names (members_view es) ≡ other_key names (keys_of es)
first_other-keys names [] = refl
first_other-keys names (e ∷ es) =
    ap (λ rest. if is_among (string_bytes e.0) names then rest else Some (string_bytes e.0)) (first_other-keys names es)

pub first_unnamed-keys : (version : ℕ) (es : List Entry)
    → first_unnamed version (members_view es) ≡ unnamed_key version (keys_of es)
first_unnamed-keys version [] = refl
first_unnamed-keys version (e ∷ es) =
    ap (λ rest. if is_name version (string_bytes e.0) then rest else Some (string_bytes e.0)) (first_unnamed-keys version es)
