-- Demands that are met while few entries are counted.
use Rattle.std.proofs.Common.{◌≡◌, ◌≢◌, ℕ, suc, ◌+◌, ◌<◌, ◌≤◌, ◌||◌, Bool, true, false, cond, List, [], ◌∷◌, ◌++◌, Ok, Err, refl, sym, ap}
use Rattle.std.proofs.Common.{ap₂}
use Rattle.std.proofs.Common.{◌∙◌, arith}
use Rattle.std.specs.List.{AllByRecursion}
use Rattle.std.specs.Str.{bytes_eq}
use Rattle.std.proofs.lemmas.Bool.{false_from_ne_true, lt-ltb, or_parts}
use Rattle.std.proofs.lemmas.Slice.Eq.{bytes_eq-Decides}
use Rattle.doc_rules.specs.declared.rule.CountRule.TheVariants.{Entries}
use Rattle.doc_rules.specs.declared.rule.Rule.{Rule}
use Rattle.doc_tree.specs.Demand.{Demand, and_then, broken_at, check, holds, limited, no_counts, one_more_start}
use Rattle.doc_rules.specs.Limits.{limits_of}
use Rattle.doc_tree.specs.Scope.{Table, is_listed, with_text}

abbrev type_of : {A : Type 0} → A → Type 0
type_of {A} a = A

-- What is counted towards the limits of a document. The type has no name outside its crate, so it is taken from a value.
abbrev pub Counts : Type 0
Counts = type_of no_counts

-- they are met in a document of a version, and count no more entries than this, and nothing else
pub record Meet (version k : ℕ) (ds : List Demand) : Type 0 where
  pub met : (c : Counts) → c.starts + k ≤ (limits_of version).entries
      → (next : Counts) × (check c ds ≡ Ok next) × (next.starts ≤ c.starts + k) × (next.operations ≤ c.operations) × (next.nodes ≤ c.nodes)

pub meet_none : (version : ℕ) → Meet version 0 []
meet_none version = record { met = λ c few. (c, refl, omega arith, omega arith, omega arith) }

pub meet_test : (version k : ℕ) (b : Bool) (rule : Rule) (ds : List Demand) → b ≡ true → Meet version k ds
    → Meet version k (holds b rule ∷ ds)
meet_test version k b rule ds is rest = record {
  met = λ c few. let later = rest.met c few in
      let here = ap (λ t. and_then (cond t (Ok c) (Err (broken_at rule c))) (λ next. check next ds)) is in
      (later.0, here ∙ later.1, later.2, later.3, later.4);
}

pub meet_start : (version k : ℕ) (ds : List Demand) → Meet version k ds → Meet version (suc k) (one_more_start version ∷ ds)
meet_start version k ds rest = record {
  met = λ c few.
      let counted : Counts = record c { starts = c.starts + 1 } in
      let later = rest.met counted (omega arith) in
      let bound = later.2 in
      let within : c.starts < (limits_of version).entries = omega arith in
      let here = ap (λ t. and_then (limited t (Entries version) c counted) (λ next. check next ds)) (lt-ltb _ _ within) in
      (later.0, here ∙ later.1, omega arith, later.3, later.4);
}

pub meet_fewer : (version k l : ℕ) (ds : List Demand) → k ≤ l → Meet version k ds → Meet version l ds
meet_fewer version k l ds le meets = record {
  met = λ c few. let here = meets.met c (omega arith) in let bound = here.2 in (here.0, here.1, omega arith, here.3, here.4);
}

-- ---- texts that are new

listed_not : (text other : List ℕ) (table : Table) → is_listed text table ≡ false → text ≢ other
    → is_listed text (table ++ other ∷ []) ≡ false
listed_not text other [] e ne = ap (λ b. b || false)
    (false_from_ne_true (bytes_eq text other) (λ is. ne ((bytes_eq-Decides text other).0 is)))
listed_not text other (t ∷ table) e ne =
    let both = or_parts (bytes_eq text t) _ e in ap₂ (λ a b. a || b) both.0 (listed_not text other table both.1 ne)

-- none of the texts is in the table
abbrev pub AreNew : Table → List (List ℕ) → Type 0
AreNew table texts = AllByRecursion (λ text. is_listed text table ≡ false) texts

pub new_after : (text : List ℕ) (table : Table) (texts : List (List ℕ)) → AllByRecursion (λ other. text ≢ other) texts → AreNew table texts
    → AreNew (table ++ text ∷ []) texts
new_after text table [] apart new = tt
new_after text table (other ∷ texts) apart new = (
  listed_not other text table new.0 (λ same. apart.0 (sym same)),
  new_after text table texts apart.1 new.1,
)

pub all_new : (texts : List (List ℕ)) → AreNew [] texts
all_new [] = tt
all_new (text ∷ texts) = (refl, all_new texts)

pub with_new : (text : List ℕ) (table : Table) → is_listed text table ≡ false → with_text text table ≡ table ++ text ∷ []
with_new text table new = ap (λ b. cond b table (table ++ text ∷ [])) new
