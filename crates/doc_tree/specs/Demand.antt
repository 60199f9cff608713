-- What is asked of a value itself, as a list in reading order, and the first rule of such a list that isn't kept.
use Rattle.std.specs.Prelude.{ℕ, ◌+◌, Bool, List, [], ◌∷◌, Result, Ok, Err, nat_lt, if◌then◌else◌}
use Rattle.doc_rules.specs.declared.failure.Failure.{Failure}
use Rattle.doc_rules.specs.declared.failure.Failure.TheVariants.{Broken}
use Rattle.doc_rules.specs.declared.rule.Rule.{Rule}
use Rattle.doc_rules.specs.declared.rule.CountRule.{CountRule}
use Rattle.doc_rules.specs.declared.rule.CountRule.TheVariants.{Entries, Nodes, Operations}
use Rattle.doc_rules.specs.declared.rule.Rule.TheVariants.{Few}
use Rattle.doc_tree.specs.declared.counts.Counts.{Counts}
use Rattle.doc_rules.specs.Limits.{limits_of}

-- A test with the rule that it is of, or one more of what is counted towards a limit of the document's version.
-- After `in_transaction n` comes what is asked of transaction n.
pub data Demand : Type 0 where
  holds : Bool → Rule → Demand
  one_more_start : ℕ → Demand
  one_more_operation : ℕ → Demand
  one_more_node : ℕ → Demand
  in_transaction : ℕ → Demand

abbrev pub broken_at : Rule → Counts → Failure
broken_at rule c = Broken rule c.transaction

abbrev pub limited : Bool → CountRule → Counts → Counts → Result Counts Failure
limited within counted c next = if within then Ok next else Err (broken_at (Few counted) c)

-- the counts after one demand, or its rule
abbrev pub check_one : Counts → Demand → Result Counts Failure
check_one c (holds b rule) = if b then Ok c else Err (broken_at rule c)
check_one c (one_more_start version) = limited (nat_lt c.starts (limits_of version).entries) (Entries version) c
    (record c { starts = c.starts + 1 })
check_one c (one_more_operation version) = limited (nat_lt c.operations (limits_of version).operations) (Operations version) c
    (record c { operations = c.operations + 1 })
check_one c (one_more_node version) = limited (nat_lt c.nodes (limits_of version).nodes) (Nodes version) c
    (record c { nodes = c.nodes + 1 })
check_one c (in_transaction n) = Ok (record c { transaction = n })

abbrev pub and_then : {A : Type 0} → Result A Failure → (A → Result A Failure) → Result A Failure
and_then (Ok x) f = f x
and_then (Err e) f = Err e

-- the counts after all the demands, or the first rule that isn't kept
abbrev pub check : Counts → List Demand → Result Counts Failure
check c [] = Ok c
check c (d ∷ ds) = and_then (check_one c d) (λ next. check next ds)

-- before anything is read
abbrev pub no_counts : Counts
no_counts = record { transaction = 0; operations = 0; nodes = 0; starts = 0 }
