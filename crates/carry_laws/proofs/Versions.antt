-- The versions of documents, and those that objects are carried into.
use Rattle.std.proofs.Common.{◌≡◌, ℕ, zero, suc, ◌+◌, ◌*◌, ◌≤◌, ◌&&◌, ℤ, pos, negsuc, Bool, true, false, cond, Option, Some, None, refl}
use Rattle.std.proofs.Common.{arith}
use Rattle.std.specs.Prelude.{codes, nat_le, option_and_then, unwrap_or}
use Rattle.std.proofs.lemmas.Bool.{and_parts, leb-true}
use Rattle.serde_json.specs.Data.{Data}
use Rattle.doc_rules.specs.Limits.{limits_of}
use Rattle.doc_rules.specs.declared.limits.TheConstants.{LAST_VERSION}
use Rattle.doc_tree.specs.Asked.{version_in}
use Rattle.doc_tree.specs.Look.{whole_member, within}
use Rattle.carry.specs.Carried.{carried_version}
use Rattle.carry_laws.specs.Carrying.{IsCarriedVersion}

-- a version is one of those that there are
abbrev pub IsVersion : ℕ → Type 0
IsVersion version = (1 ≤ version) × (version ≤ LAST_VERSION)

known : (o : Option ℤ) → IsVersion (unwrap_or (option_and_then (within 1 LAST_VERSION) o) 1)
known None = (omega arith, omega arith)
known (Some (negsuc n)) = (omega arith, omega arith)
known (Some (pos n)) = by (nat_le 1 n && nat_le n LAST_VERSION) refl
  where
    by : (b : Bool) → (nat_le 1 n && nat_le n LAST_VERSION) ≡ b → IsVersion (unwrap_or (cond b (Some n) None) 1)
    by true e =
        let both = and_parts (nat_le 1 n) (nat_le n LAST_VERSION) e in (leb-true 1 n both.0, leb-true n LAST_VERSION both.1)
    by false e = (omega arith, omega arith)

-- so is that of a value
pub version_known : (d : Data) → IsVersion (version_in d)
version_known d = known (whole_member (codes "ordtx") d)

-- objects are carried from it into one of these versions
pub carried_known : (version : ℕ) → version ≤ LAST_VERSION → IsCarriedVersion (carried_version version)
carried_known version below = (omega arith, omega arith)

-- each of these is one of the versions
pub is_version : (version : ℕ) → IsCarriedVersion version → IsVersion version
is_version version carried = let above = carried.0 in (omega arith, carried.1)

-- what holds of both holds of each
pub each_version : (P : ℕ → Type 0) → P 4 → P 5 → (version : ℕ) → IsCarriedVersion version → P version
each_version P four five zero (above, below) = absurd (omega arith)
each_version P four five (suc zero) (above, below) = absurd (omega arith)
each_version P four five (suc (suc zero)) (above, below) = absurd (omega arith)
each_version P four five (suc (suc (suc zero))) (above, below) = absurd (omega arith)
each_version P four five (suc (suc (suc (suc zero)))) (above, below) = four
each_version P four five (suc (suc (suc (suc (suc zero))))) (above, below) = five
each_version P four five (suc (suc (suc (suc (suc (suc n)))))) (above, below) = absurd (omega arith)

-- the bytes of as many objects with as many entries as may start a document
pub enough_bytes : (version : ℕ) → IsCarriedVersion version
    → 268 * (limits_of version).entries + 218 * (limits_of version).objects + 200 ≤ (limits_of version).bytes
enough_bytes =
    each_version (λ v. 268 * (limits_of v).entries + 218 * (limits_of v).objects + 200 ≤ (limits_of v).bytes) (omega arith) (omega arith)
