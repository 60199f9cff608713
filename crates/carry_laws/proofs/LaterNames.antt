-- A name of a version is one of each later version.
use Rattle.std.proofs.Common.{◌≡◌, ℕ, ◌≤◌, ◌&&◌, ◌||◌, Bool, true, false, List, [], ◌∷◌, length, refl, ap₂, arith}
use Rattle.std.specs.Prelude.{nat_le, nat_lt}
use Rattle.std.specs.List.{list_all}
use Rattle.std.proofs.lemmas.Bool.{and_parts, le-leb, leb-true}
use Rattle.meaning.specs.declared.limits.TheConstants.{MAX_NAME}
use Rattle.batch.specs.Names.{AreNames, has_long_names, is_name, is_name_byte, is_plain_byte, is_sign_byte, most_name_bytes}
use Rattle.carry_laws.proofs.LimitsSince.{either_less, since_one}

-- a name has so many bytes at most, by its version, and so many in all versions
pub name_bytes : (version : ℕ) (s : List ℕ) → is_name version s ≡ true → length s ≤ most_name_bytes version
unfolding is_name
name_bytes version s is = leb-true (length s) (most_name_bytes version) (and_parts _ _ (and_parts _ _ is).0).1

pub most_bytes : (version : ℕ) → most_name_bytes version ≤ MAX_NAME
most_bytes version = either_less (has_long_names version) MAX_NAME 32 MAX_NAME (omega arith) (omega arith)

-- where all of a list pass a test, they pass each that follows from it
all_pass : {A : Type 0} (test weaker : A → Bool) → ((x : A) → test x ≡ true → weaker x ≡ true) → (xs : List A) → list_all test xs ≡ true
    → list_all weaker xs ≡ true
all_pass test weaker so [] all = refl
all_pass test weaker so (x ∷ xs) all =
    let both = and_parts (test x) _ all in
    ap₂ (λ a b. a && b) (so x both.0) (all_pass test weaker so xs both.1)

module _ (old new : ℕ) (later : old ≤ new) where
  long_later : has_long_names old ≡ true → has_long_names new ≡ true
  long_later long = let first = leb-true 5 old long in le-leb 5 new (omega (arith, first, later))

  -- signs are in names of later versions, too
  either_later : (plain long long_new sign : Bool) → (long ≡ true → long_new ≡ true) → (plain || (long && sign)) ≡ true
      → (plain || (long_new && sign)) ≡ true
  either_later true long long_new sign so is = refl
  either_later false true long_new sign so is = ap₂ (λ a b. a && b) (so refl) is
  either_later false false long_new sign so is = cc

  byte_later : (x : ℕ) → is_name_byte old x ≡ true → is_name_byte new x ≡ true
  byte_later x is = either_later (is_plain_byte x) (has_long_names old) (has_long_names new) (is_sign_byte x) long_later is

  pub name_later : (s : List ℕ) → is_name old s ≡ true → is_name new s ≡ true
  unfolding is_name
  name_later s is =
      let some = nat_lt 0 (length s) in
      let few = nat_le (length s) (most_name_bytes old) in
      let both = and_parts (some && few) (list_all (is_name_byte old) s) is in
      let sized = and_parts some few both.0 in
      let most = name_bytes old s is in
      let short : most_name_bytes old ≤ most_name_bytes new = since_one old new MAX_NAME 32 later (omega arith) in
      ap₂ (λ a b. a && b)
      (ap₂ (λ a b. a && b) sized.0 (le-leb (length s) (most_name_bytes new) (omega (arith, most, short))))
      (all_pass (is_name_byte old) (is_name_byte new) byte_later s both.1)

  pub names_later : (texts : List (List ℕ)) → AreNames old texts → AreNames new texts
  names_later texts all = all_pass (is_name old) (is_name new) name_later texts all
