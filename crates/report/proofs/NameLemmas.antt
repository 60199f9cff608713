-- Numbers without a name.
use Rattle.std.proofs.Common.{◌≡◌, ℕ, List, [], get_or, ap, ◌∙◌, None}
use Rattle.std.specs.Prelude.{slice_get, unwrap_or}
use Rattle.std.proofs.lemmas.Option.{unwrap_or-slice_get}

pub no_name : (texts : List (List ℕ)) (number : ℕ) → None ≡ slice_get texts number → [] ≡ get_or texts number []
no_name texts number none = ap (λ text. unwrap_or text []) none ∙ unwrap_or-slice_get texts number []
