-- Demands that are all met, and what they count.
use Rattle.std.proofs.Common.{◌≡◌, ℕ, ◌+◌, ◌≤◌, Bool, true, false, List, [], ◌∷◌, ◌++◌, Ok, refl, ap, arith}
use Rattle.std.specs.Prelude.{nat_lt, ⊤}
use Rattle.std.proofs.lemmas.Bool.{ltb-true}
use Rattle.doc_rules.specs.declared.rule.Rule.{Rule}
use Rattle.doc_rules.specs.declared.rule.CountRule.TheVariants.{Entries, Nodes, Operations}
use Rattle.doc_tree.specs.declared.counts.Counts.{Counts}
use Rattle.doc_tree.specs.Demand.{Demand, holds, one_more_start, one_more_operation, one_more_node, in_transaction, check}
use Rattle.doc_tree.specs.Demand.{check_one, and_then, limited}
use Rattle.meaning.specs.declared.limits.TheConstants.{MAX_ENTRIES, MAX_NODES, MAX_OPERATIONS}
use Rattle.doc_rules.specs.Limits.{limits_of}
use Rattle.doc_rules.proofs.LimitLemmas.{limits_within}

-- each test holds
abbrev pub AllMet : List Demand → Type 0
AllMet [] = ⊤
AllMet (holds b rule ∷ ds) = (b ≡ true) × AllMet ds
AllMet (one_more_start version ∷ ds) = AllMet ds
AllMet (one_more_operation version ∷ ds) = AllMet ds
AllMet (one_more_node version ∷ ds) = AllMet ds
AllMet (in_transaction n ∷ ds) = AllMet ds

pub first_met : (xs ys : List Demand) → AllMet (xs ++ ys) → AllMet xs
first_met [] ys met = tt
first_met (holds b rule ∷ xs) ys met = (met.0, first_met xs ys met.1)
first_met (one_more_start version ∷ xs) ys met = first_met xs ys met
first_met (one_more_operation version ∷ xs) ys met = first_met xs ys met
first_met (one_more_node version ∷ xs) ys met = first_met xs ys met
first_met (in_transaction n ∷ xs) ys met = first_met xs ys met

pub rest_met : (xs ys : List Demand) → AllMet (xs ++ ys) → AllMet ys
rest_met [] ys met = met
rest_met (holds b rule ∷ xs) ys met = rest_met xs ys met.1
rest_met (one_more_start version ∷ xs) ys met = rest_met xs ys met
rest_met (one_more_operation version ∷ xs) ys met = rest_met xs ys met
rest_met (one_more_node version ∷ xs) ys met = rest_met xs ys met
rest_met (in_transaction n ∷ xs) ys met = rest_met xs ys met

-- what is counted
pub data What : Type 0 where
  starts : What
  operations : What
  nodes : What

abbrev pub weight : Demand → What → ℕ
weight (holds b rule) x = 0
weight (one_more_start version) starts = 1
weight (one_more_start version) operations = 0
weight (one_more_start version) nodes = 0
weight (one_more_operation version) starts = 0
weight (one_more_operation version) operations = 1
weight (one_more_operation version) nodes = 0
weight (one_more_node version) starts = 0
weight (one_more_node version) operations = 0
weight (one_more_node version) nodes = 1
weight (in_transaction n) x = 0

abbrev pub count : What → List Demand → ℕ
count x [] = 0
count x (d ∷ ds) = weight d x + count x ds

pub count-append : (x : What) (xs ys : List Demand) → count x (xs ++ ys) ≡ count x xs + count x ys
count-append x [] ys = omega arith
count-append x (d ∷ xs) ys = let rest = count-append x xs ys in omega arith

-- what is known where all demands of a list are met from some counts on
pub record Passed (c next : Counts) (ds : List Demand) : Type 0 where
  pub met : AllMet ds
  pub starts : next.starts ≡ c.starts + count What.starts ds
  pub operations : next.operations ≡ c.operations + count What.operations ds
  pub nodes : next.nodes ≡ c.nodes + count What.nodes ds
  pub few_starts : c.starts ≤ MAX_ENTRIES → next.starts ≤ MAX_ENTRIES
  pub few_operations : c.operations ≤ MAX_OPERATIONS → next.operations ≤ MAX_OPERATIONS
  pub few_nodes : c.nodes ≤ MAX_NODES → next.nodes ≤ MAX_NODES

passed_none : (c next : Counts) → check c [] ≡ Ok next → Passed c next []
passed_none c next e =
    let same : c ≡ next = cc in
    let a = ap (λ (n : Counts). n.starts) same in
    let b = ap (λ (n : Counts). n.operations) same in
    let d = ap (λ (n : Counts). n.nodes) same in
    record {
      met = tt;
      starts = omega (arith, a);
      operations = omega (arith, b);
      nodes = omega (arith, d);
      few_starts = λ h. omega (arith, a);
      few_operations = λ h. omega (arith, b);
      few_nodes = λ h. omega (arith, d);
    }

passed_test : (b : Bool) (rule : Rule) (ds : List Demand) (c next : Counts) → ((c' : Counts) → check c' ds ≡ Ok next → Passed c' next ds)
    → and_then (check_one c (holds b rule)) (λ n. check n ds) ≡ Ok next → Passed c next (holds b rule ∷ ds)
passed_test true rule ds c next later e =
    let p = later c e in
    record {
      met = (refl, p.met);
      starts = omega (arith, p.starts);
      operations = omega (arith, p.operations);
      nodes = omega (arith, p.nodes);
      few_starts = p.few_starts;
      few_operations = p.few_operations;
      few_nodes = p.few_nodes;
    }
passed_test false rule ds c next later e = cc

passed_start : (b : Bool) (version : ℕ) (ds : List Demand) (c next : Counts) → nat_lt c.starts (limits_of version).entries ≡ b
    → ((c' : Counts) → check c' ds ≡ Ok next → Passed c' next ds)
    → and_then (limited b (Entries version) c (record c { starts = c.starts + 1 })) (λ n. check n ds) ≡ Ok next
    → Passed c next (one_more_start version ∷ ds)
passed_start true version ds c next lt later e =
    let p = later (record c { starts = c.starts + 1 }) e in
    let below = ltb-true c.starts (limits_of version).entries lt in
    let limit = (limits_within version).entries in
    record {
      met = p.met;
      starts = omega (arith, p.starts);
      operations = omega (arith, p.operations);
      nodes = omega (arith, p.nodes);
      few_starts = λ h. p.few_starts (omega (arith, below, limit));
      few_operations = p.few_operations;
      few_nodes = p.few_nodes;
    }
passed_start false version ds c next lt later e = cc

passed_operation : (b : Bool) (version : ℕ) (ds : List Demand) (c next : Counts) → nat_lt c.operations (limits_of version).operations ≡ b
    → ((c' : Counts) → check c' ds ≡ Ok next → Passed c' next ds)
    → and_then (limited b (Operations version) c (record c { operations = c.operations + 1 })) (λ n. check n ds) ≡ Ok next
    → Passed c next (one_more_operation version ∷ ds)
passed_operation true version ds c next lt later e =
    let p = later (record c { operations = c.operations + 1 }) e in
    let below = ltb-true c.operations (limits_of version).operations lt in
    let limit = (limits_within version).operations in
    record {
      met = p.met;
      starts = omega (arith, p.starts);
      operations = omega (arith, p.operations);
      nodes = omega (arith, p.nodes);
      few_starts = p.few_starts;
      few_operations = λ h. p.few_operations (omega (arith, below, limit));
      few_nodes = p.few_nodes;
    }
passed_operation false version ds c next lt later e = cc

passed_node : (b : Bool) (version : ℕ) (ds : List Demand) (c next : Counts) → nat_lt c.nodes (limits_of version).nodes ≡ b
    → ((c' : Counts) → check c' ds ≡ Ok next → Passed c' next ds)
    → and_then (limited b (Nodes version) c (record c { nodes = c.nodes + 1 })) (λ n. check n ds) ≡ Ok next
    → Passed c next (one_more_node version ∷ ds)
passed_node true version ds c next lt later e =
    let p = later (record c { nodes = c.nodes + 1 }) e in
    let below = ltb-true c.nodes (limits_of version).nodes lt in
    let limit = (limits_within version).nodes in
    record {
      met = p.met;
      starts = omega (arith, p.starts);
      operations = omega (arith, p.operations);
      nodes = omega (arith, p.nodes);
      few_starts = p.few_starts;
      few_operations = p.few_operations;
      few_nodes = λ h. p.few_nodes (omega (arith, below, limit));
    }
passed_node false version ds c next lt later e = cc

passed_on_to : (n : ℕ) (ds : List Demand) (c next : Counts) → Passed (record c { transaction = n }) next ds
    → Passed c next (in_transaction n ∷ ds)
passed_on_to n ds c next p = record {
  met = p.met;
  starts = omega (arith, p.starts);
  operations = omega (arith, p.operations);
  nodes = omega (arith, p.nodes);
  few_starts = p.few_starts;
  few_operations = p.few_operations;
  few_nodes = p.few_nodes;
}

pub passed : (ds : List Demand) (c next : Counts) → check c ds ≡ Ok next → Passed c next ds
passed [] c next e = passed_none c next e
passed (holds b rule ∷ ds) c next e = passed_test b rule ds c next (λ c'. passed ds c' next) e
passed (one_more_start version ∷ ds) c next e = passed_start (nat_lt c.starts (limits_of version).entries) version ds c next refl
    (λ c'. passed ds c' next) e
passed (one_more_operation version ∷ ds) c next e =
    passed_operation (nat_lt c.operations (limits_of version).operations) version ds c next refl (λ c'. passed ds c' next) e
passed (one_more_node version ∷ ds) c next e = passed_node (nat_lt c.nodes (limits_of version).nodes) version ds c next refl
    (λ c'. passed ds c' next) e
passed (in_transaction n ∷ ds) c next e = passed_on_to n ds c next (passed ds (record c { transaction = n }) next e)
