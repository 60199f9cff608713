-- What is asked of a step before its blocks, and of parts of a start.
use Rattle.std.specs.Prelude.{ℕ, List, [], ◌∷◌, ◌++◌, codes, is_some, not}
use Rattle.serde_json.specs.Data.{Data}
use Rattle.batch.specs.Names.{is_name}
use Rattle.doc_rules.specs.declared.rule.Rule.{Rule}
use Rattle.doc_rules.specs.declared.rule.NameRule.TheVariants as named
use Rattle.doc_rules.specs.declared.rule.Rule.TheVariants.{Name, Start}
use Rattle.doc_rules.specs.declared.rule.StartRule.TheVariants.{Pair, PairItem, PairKey}
use Rattle.doc_tree.specs.Look.{text_item}
use Rattle.doc_tree.specs.Asked.{if_label, if_shape_asked, label_asked, label_in, parallel_shape_asked, seen_asked}
use Rattle.doc_tree.specs.Asked.{sub_shape_asked, subject_of}
use Rattle.doc_tree.specs.Asked.{call_named, has_count, key_of, object_of, operation_shape_asked, part, target_asked, test_asked, value_of}
use Rattle.doc_tree.specs.Demand.{Demand, holds, one_more_node, one_more_operation, one_more_start}
use Rattle.doc_tree.specs.Scope.{Scope, Setting, Table, is_listed}

-- of an operation: its shape, and what it names
unfoldable pub operation_head_asked : Setting → Data → List Demand
operation_head_asked setting d =
    operation_shape_asked setting.version d
    ++ one_more_operation setting.version ∷ []
    ++ target_asked setting (object_of (part (codes "op") d)) (call_named (part (codes "op") d))

-- of an `if`: its shape, its label and its test
unfoldable pub if_head_asked : ℕ → Scope → Data → List Demand
if_head_asked version scope d =
    if_shape_asked d
    ++ one_more_node version ∷ []
    ++ seen_asked scope (if_label d)
    ++ test_asked version (subject_of (if_label d) scope) d

-- of a subaction, or a child whose earlier siblings have these labels: its shape and its label
unfoldable pub sub_head_asked : ℕ → Scope → Scope → Data → List Demand
sub_head_asked version scope earlier d =
    sub_shape_asked version d
    ++ one_more_node version ∷ []
    ++ label_asked version scope earlier (label_in d)

-- of a parallel step: its shape
unfoldable pub parallel_head_asked : ℕ → Data → List Demand
parallel_head_asked version d =
    parallel_shape_asked d
    ++ one_more_node version ∷ []

-- of an item of a set or a key: that it differs from these earlier ones, by this rule
unfoldable pub new_start_asked : ℕ → Rule → Table → List ℕ → List Demand
new_start_asked version rule earlier name = holds (not (is_listed name earlier)) rule ∷ one_more_start version ∷ []

-- of a key and its item: their names
unfoldable pub pair_names_asked : ℕ → Data → List Demand
pair_names_asked version d =
    holds (has_count 2 d) (Start Pair)
    ∷ holds (is_some (text_item 0 d)) (Start PairKey)
    ∷ holds (is_some (text_item 1 d)) (Start PairItem)
    ∷ holds (is_name version (key_of d)) (Name version named.PairKey)
    ∷ holds (is_name version (value_of d)) (Name version named.PairItem)
    ∷ []
