-- Names have no byte that is escaped.
use Rattle.std.proofs.Common.{◌≡◌, ℕ, ◌≤◌, true, List, [], ◌∷◌, ◌++◌, refl, ap₂, arith}
use Rattle.std.specs.List.{list_all}
use Rattle.std.proofs.lemmas.Bool.{and_parts}
use Rattle.json.specs.Print.{escape}
use Rattle.json.proofs.Printed.Strings.{escape_byte_plain}
use Rattle.batch.specs.Names.{is_name, is_name_byte}

low_byte : (version x : ℕ) → is_name_byte version x ≡ true → 32 ≤ x
low_byte version x e = grind arith

pub high_byte : (version x : ℕ) → is_name_byte version x ≡ true → x ≤ 122
high_byte version x e = grind arith

no_quote : (version x : ℕ) → is_name_byte version x ≡ true → x ≡ 34 → ⊥
no_quote version x e is = grind arith

no_backslash : (version x : ℕ) → is_name_byte version x ≡ true → x ≡ 92 → ⊥
no_backslash version x e is = grind arith

plain : (version : ℕ) (s : List ℕ) → list_all (is_name_byte version) s ≡ true → escape s ≡ s
plain version [] e = refl
plain version (x ∷ s) e =
    let both = and_parts _ _ e in
    ap₂ (λ (a b : List ℕ). a ++ b) (escape_byte_plain x (no_quote version x both.0) (no_backslash version x both.0)
    (low_byte version x both.0)) (plain version s both.1)

pub name_plain : (version : ℕ) (s : List ℕ) → is_name version s ≡ true → escape s ≡ s
unfolding is_name
name_plain version s e = plain version s (and_parts _ _ e).1
