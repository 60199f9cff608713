-- How much the parts of a document count towards its limits: lists of demands in parts, and parts that count nothing.
use Rattle.std.proofs.Common.{◌≡◌, ℕ, ◌+◌, Bool, true, false, cond, List, [], ◌∷◌, ◌++◌, Option, None, Some, refl, arith}
use Rattle.std.specs.Prelude.{codes, is_some}
use Rattle.serde_json.specs.Data.{Data}
use Rattle.doc_rules.specs.Subjects.{fits_item, fits_number}
use Rattle.doc_rules.specs.declared.rule.ArgumentRule.TheVariants.{Amount}
use Rattle.doc_rules.specs.declared.rule.NameRule.{NameRule}
use Rattle.doc_rules.specs.declared.rule.OperandPlace.{OperandPlace}
use Rattle.doc_rules.specs.declared.rule.OperandPlace.TheVariants.{Third, Fourth}
use Rattle.doc_rules.specs.declared.rule.Rule.TheVariants.{Argument}
use Rattle.doc_rules.specs.declared.rule.SourceRule.TheVariants.{Number, Item as HasItem}
use Rattle.vocabulary.specs.declared.verb.Verb.{Verb}
use Rattle.vocabulary.specs.declared.verb.Verb.TheVariants.{OfAmount, OfItem, OfPair, Alone}
use Rattle.doc_rules.specs.declared.subject.Subject.{Subject}
use Rattle.doc_tree.specs.Asked.{amount_asked, amount_item, argument_asked, arguments_asked, holds_item, holds_number, holds_word}
use Rattle.doc_tree.specs.Asked.{if_shape_asked, index_of, is_source, item_asked, label_asked, operation_shape_asked}
use Rattle.doc_tree.specs.Asked.{parallel_shape_asked, reason_asked, seen_asked, source_asked, sub_shape_asked, target_asked, test_asked}
use Rattle.doc_tree.specs.Demand.{Demand, holds}
use Rattle.doc_tree.specs.Look.{has}
use Rattle.doc_tree.specs.Scope.{Scope, Setting}
use Rattle.doc_tree.proofs.MetLemmas.{What, count, count-append}

-- ---- lists of demands in parts

pub count_three : (x : What) (A B C : List Demand) → count x (A ++ B ++ C) ≡ count x A + count x B + count x C
count_three x A B C = simp count-append

pub count_six : (x : What) (A B C D E F : List Demand)
    → count x (A ++ B ++ C ++ D ++ E ++ F) ≡ count x A + count x B + count x C + count x D + count x E + count x F
count_six x A B C D E F = simp count-append

-- ---- parts that count nothing

pub if_shape_counts : (x : What) (d : Data) → count x (if_shape_asked d) ≡ 0
unfolding if_shape_asked
if_shape_counts x d = refl

pub seen_counts : (x : What) (scope : Scope) (name : List ℕ) → count x (seen_asked scope name) ≡ 0
unfolding seen_asked
seen_counts x scope name = refl

one_of_three : (x : What) (a b : Bool) (A B C : List Demand) → count x A ≡ 0 → count x B ≡ 0 → count x C ≡ 0
    → count x (cond a A (cond b B C)) ≡ 0
one_of_three x true b A B C p q r = p
one_of_three x false true A B C p q r = q
one_of_three x false false A B C p q r = r

pub test_counts : (x : What) (version : ℕ) (subject : Subject) (d : Data) → count x (test_asked version subject d) ≡ 0
unfolding test_asked
test_counts x version subject d = one_of_three x (has (codes "is") d) (has (codes "atleast") d) (holds_word subject d)
    (holds_number subject d) (holds_item version subject d) refl refl refl

pub sub_shape_counts : (x : What) (version : ℕ) (d : Data) → count x (sub_shape_asked version d) ≡ 0
unfolding sub_shape_asked
sub_shape_counts x version d = refl

pub label_counts : (x : What) (version : ℕ) (scope earlier : Scope) (o : Option (List ℕ))
    → count x (label_asked version scope earlier o) ≡ 0
unfolding label_asked
label_counts x version scope earlier None = refl
label_counts x version scope earlier (Some name) = refl

pub operation_shape_counts : (x : What) (version : ℕ) (d : Data) → count x (operation_shape_asked version d) ≡ 0
unfolding operation_shape_asked
operation_shape_counts x version d = refl

pub target_counts : (x : What) (setting : Setting) (object call : List ℕ) → count x (target_asked setting object call) ≡ 0
unfolding target_asked
target_counts x setting object call = refl

one_of_two : (x : What) (b : Bool) (A B : List Demand) → count x A ≡ 0 → count x B ≡ 0 → count x (cond b A B) ≡ 0
one_of_two x true A B p q = p
one_of_two x false A B p q = q

argument_counts : (x : What) (version : ℕ) (scope : Scope) (place : OperandPlace) (op : Data)
    → count x (argument_asked version scope place op) ≡ 0
unfolding argument_asked source_asked item_asked
argument_counts x version scope place op =
    one_of_two x (is_source version (index_of place) op) (source_asked scope fits_item HasItem place op) (item_asked version place op)
    refl refl

pub arguments_count : (x : What) (version : ℕ) (scope : Scope) (v : Verb) (op : Data) → count x (arguments_asked version scope v op) ≡ 0
unfolding arguments_asked amount_asked source_asked
arguments_count x version scope (OfAmount v) op =
    let none = one_of_two x (is_source version 2 op) (source_asked scope fits_number Number Third op)
    (holds (is_some (amount_item 2 op)) (Argument Amount) ∷ []) refl refl in
    omega (arith, none)
arguments_count x version scope (OfItem v) op = omega (arith, argument_counts x version scope Third op)
arguments_count x version scope (OfPair v) op =
    let A = argument_asked version scope Third op in
    let B = argument_asked version scope Fourth op in
    omega (arith, count-append x A B, argument_counts x version scope Third op, argument_counts x version scope Fourth op)
arguments_count x version scope (Alone v) op = refl

pub parallel_shape_counts : (x : What) (d : Data) → count x (parallel_shape_asked d) ≡ 0
unfolding parallel_shape_asked
parallel_shape_counts x d = refl

pub reason_counts : (x : What) (version : ℕ) (which : NameRule) (o : Option (List ℕ)) → count x (reason_asked version which o) ≡ 0
unfolding reason_asked
reason_counts x version which None = refl
reason_counts x version which (Some reason) = refl
