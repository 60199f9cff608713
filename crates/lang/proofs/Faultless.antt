-- What a document with no fault spells can be run: labels are bound, tests and calls fit, and what is counted is what is spelled.
use Rattle.std.proofs.Common.{◌≡◌, ℕ, zero, suc, ◌+◌, ◌≤◌, ◌<◌, Bool, true, false, cond, ◌||◌, List, [], ◌∷◌, ◌++◌, length, map, Option}
use Rattle.std.proofs.Common.{None, Some, refl, sym, ap, subst, ◌∙◌, arith}
use Rattle.std.proofs.lemmas.Bool.{not-true, or_parts, or_from}
use Rattle.std.specs.Prelude.{codes, is_some, unwrap_or, option_and_then}
use Rattle.std.proofs.Math.Nat.{max-le}
use Rattle.serde_json.specs.Data.{Data, Items, no_items, item, Members, no_members, member}
use Rattle.serde_json.specs.Find.{get, as_array, as_str}
use Rattle.objects.specs.declared.kind.Kind.{Kind}
use Rattle.meaning.specs.declared.test.Test.{Test}
use Rattle.vocabulary.specs.declared.word.Word.{Word}
use Rattle.meaning.specs.Trees as tree
use Rattle.meaning.specs.Trees.{Handlers, Children, for_reasons, handlers_of}
use Rattle.meaning.specs.WellFormed as well
use Rattle.meaning.specs.Filling.{template_verb}
use Rattle.doc_rules.specs.declared.rule.NameRule.TheVariants as names
use Rattle.meaning.specs.WellFormed.{Label, OfVerb, OfSubaction, VerbFits, IsWellFormed, IsWellFormedStep, AreWellFormed}
use Rattle.meaning.specs.WellFormed.{AreWellFormedHandlers}
use Rattle.meaning.specs.WellFormed.{added_by, added_if, added_by_children}
use Rattle.batch.specs.Limits as limits
use Rattle.batch.specs.Views.{Tried, steps_of, children_of}
use Rattle.doc_rules.specs.declared.subject.Subject.{Subject}
use Rattle.doc_rules.specs.declared.subject.Subject.TheVariants.{Reply, Outcome}
use Rattle.doc_tree.specs.Demand.{Demand, holds, one_more_operation, one_more_node}
use Rattle.doc_rules.specs.declared.rule.Rule.TheVariants.{Depth}
use Rattle.doc_tree.specs.Look.{has, text_member}
use Rattle.doc_tree.specs.Scope.{Numbers, Scope, Setting, is_named, named, with_label, with_labels, with_reason}
use Rattle.doc_rules.specs.Subjects.{fits_word}
use Rattle.vocabulary.specs.Words.{word_of_text}
use Rattle.doc_tree.specs.Asked
use Rattle.doc_tree.specs.Asked.{part, label_in, object_of, call_named, verb_in, target_asked, operation_asked, operation_shape_asked}
use Rattle.doc_tree.specs.Asked.{arguments_asked, else_reason}
use Rattle.doc_tree.specs.Asked.{label_asked}
use Rattle.doc_tree.specs.Spelled.{operation_of, refusal_of, target_of, template_of}
use Rattle.doc_tree.proofs.MetLemmas.{AllMet, What, count, count-append, first_met, rest_met}
use Rattle.doc_tree.proofs.LabelLemmas.{is_named-append}
use Rattle.std.proofs.lemmas.List.{append-nil, map-append, length-append}
use Rattle.std.proofs.Common.{append_assoc}
use Rattle.meaning.specs.Trees.{NoStep, Steps}
use Rattle.doc_tree.specs.declared.steps.Sort.{Sort}
use Rattle.doc_tree.specs.declared.steps.Sort.TheVariants.{Operation as an_operation, If as an_if, Sub as a_sub, Abort as an_abort}
use Rattle.doc_tree.specs.declared.steps.Sort.TheVariants.{Parallel as a_parallel}
use Rattle.doc_tree.specs.Asked.{abort_asked, abort_shape_asked, children_in}
use Rattle.doc_tree.specs.Asked.{handlers_in, holds_item, holds_number, holds_word, if_label, if_shape_asked}
use Rattle.doc_tree.specs.Asked.{labels_of, or_no_items, parallel_shape_asked, reason_asked}
use Rattle.doc_tree.specs.Asked.{scope_after, scope_after_by, seen_asked, sort_of}
use Rattle.doc_tree.specs.Asked.{sub_shape_asked, subject_of, test_asked, tested_word}
use Rattle.doc_tree.specs.Spelled.{abort_of, block_of, block_of_if, children_spelled, handlers_spelled, if_of, member_of, members_of}
use Rattle.doc_tree.specs.Spelled.{or_no_step, parallel_of, step_of, step_of_by, steps_spelled, sub_of, test_of}
use Rattle.lang.proofs.Bound.{AreSeen, arguments_fit, bound, fits, some_of, step_adds, step_fits, subject_of_label, subjects, verb_fits}
use Rattle.lang.proofs.Bound.{verb_is}
use Rattle.doc_tree.proofs.Demands.{array_asked, block_asked, block_asked_if, children_asked, handlers_asked, if_asked, member_asked}
use Rattle.doc_tree.proofs.Demands.{members_asked, parallel_asked, step_asked, step_asked_by, steps_asked, sub_asked}
use Rattle.lang.proofs.PartCounts.{count_three, count_six, if_shape_counts, seen_counts, test_counts, sub_shape_counts, label_counts}
use Rattle.lang.proofs.PartCounts.{operation_shape_counts, target_counts, arguments_count, parallel_shape_counts, reason_counts}

-- ---- what is known of a part: over objects of these kinds, with these labels, within so many levels, and what it counts

pub record GoodBlock (ks : List Kind) (block : tree.Block) (labels : List Label) (levels operations nodes : ℕ) : Type 0 where
  pub fits : IsWellFormed block labels ks
  pub operations_are : well.operations block ≡ operations
  pub nodes_are : limits.nodes block ≡ nodes
  pub shallow : limits.depth block ≤ levels

pub record GoodStep (ks : List Kind) (step : tree.Step) (labels : List Label) (levels operations nodes : ℕ) : Type 0 where
  pub fits : IsWellFormedStep step labels ks
  pub operations_are : well.operations_of_step step ≡ operations
  pub nodes_are : limits.nodes_of_step step ≡ nodes
  pub shallow : limits.depth_of_step step ≤ levels

pub record GoodHandlers (ks : List Kind) (handlers : Handlers) (labels : List Label) (levels operations nodes : ℕ) : Type 0 where
  pub fits : AreWellFormedHandlers handlers labels ks
  pub operations_are : well.operations_of_handlers handlers ≡ operations
  pub nodes_are : limits.nodes_of_handlers handlers ≡ nodes
  pub shallow : limits.depth_of_handlers handlers ≤ levels

pub record GoodChildren (ks : List Kind) (children : Children) (labels : List Label) (levels operations nodes : ℕ) : Type 0 where
  pub fits : AreWellFormed children labels ks
  pub operations_are : well.operations_of_children children ≡ operations
  pub nodes_are : limits.nodes_of_children children ≡ nodes
  pub shallow : limits.depth_of_children children ≤ levels

pub record GoodTried (ks : List Kind) (child : Tried) (labels : List Label) (levels operations nodes : ℕ) : Type 0 where
  pub body_fits : IsWellFormed child.body labels ks
  pub handlers_fit : AreWellFormedHandlers child.handlers labels ks
  pub operations_are : well.operations child.body + well.operations_of_handlers child.handlers ≡ operations
  pub nodes_are : 1 + limits.nodes child.body + limits.nodes_of_handlers child.handlers ≡ nodes
  pub body_shallow : limits.depth child.body ≤ levels
  pub handlers_shallow : limits.depth_of_handlers child.handlers ≤ levels

-- operations and nodes, each of which adds one label at most
abbrev pub counted : List Demand → ℕ
counted ds = count What.operations ds + count What.nodes ds

abbrev pub most_labels : ℕ
most_labels = 4_000_000_000

-- ---- labels after a step

-- a checked label is seen neither here nor among the earlier siblings'
label_is_new : (version : ℕ) (scope earlier : Scope) (name : List ℕ) → AllMet (label_asked version scope earlier (Some name))
    → (is_named name scope ≡ false) × (is_named name earlier ≡ false)
unfolding label_asked
label_is_new version scope earlier name met = or_parts (is_named name scope) (is_named name earlier)
    (not-true (is_named name scope || is_named name earlier) met.1.0)

with_new : (name : List ℕ) (subject : Subject) (scope : Scope) → is_named name scope ≡ false → with_label (Some name) subject scope ≡ scope
    ++ (name, subject) ∷ []
with_new name subject scope new = ap (λ b. cond b scope (scope ++ (name, subject) ∷ [])) new

seen_more : (scope : Scope) (labels : List Label) (name : List ℕ) (subject : Subject) (label : Label) → subject_of_label label ≡ subject
    → AreSeen scope labels → AreSeen (scope ++ (name, subject) ∷ []) (labels ++ label ∷ [])
seen_more scope labels name subject label is seen =
    map-append (λ (l : List ℕ × Subject). l.1) scope ((name, subject) ∷ []) ∙ ap (λ xs. xs ++ subject ∷ []) seen
    ∙ ap (λ s. map subject_of_label labels ++ s ∷ []) (sym is)
    ∙ sym (map-append subject_of_label labels (label ∷ []))

label_seen : (version : ℕ) (scope earlier : Scope) (labels : List Label) (o : Option (List ℕ)) (subject : Subject) (label : Label)
    → subject_of_label label ≡ subject → AllMet (label_asked version scope earlier o) → AreSeen scope labels
    → AreSeen (with_label o subject scope) (labels ++ added_if (is_some o) label)
label_seen version scope earlier labels None subject label is met seen = seen ∙ ap (map subject_of_label) (sym (append-nil labels))
label_seen version scope earlier labels (Some name) subject label is met seen =
    ap subjects (with_new name subject scope (label_is_new version scope earlier name met).0)
    ∙ seen_more scope labels name subject label is seen

grows_by : (o : Option (List ℕ)) (subject : Subject) (scope : Scope) → length (with_label o subject scope) ≤ length scope + 1
grows_by None subject scope = omega arith
grows_by (Some name) subject scope = by (is_named name scope)
  where
    by : (b : Bool) → length (cond b scope (scope ++ (name, subject) ∷ [])) ≤ length scope + 1
    by true = omega arith
    by false = omega (arith, length-append scope ((name, subject) ∷ []))

with_labels-append : (xs ys scope : Scope) → with_labels (xs ++ ys) scope ≡ with_labels ys (with_labels xs scope)
with_labels-append [] ys scope = refl
with_labels-append (x ∷ xs) ys scope = with_labels-append xs ys (with_label (Some x.0) x.1 scope)

-- the earlier siblings' labels, none of which is seen, come after the others
abbrev AreNew : Scope → Scope → Type 0
AreNew scope earlier = with_labels earlier scope ≡ scope ++ earlier

-- a child's label joins its earlier siblings'
new_label : (version : ℕ) (scope earlier : Scope) (o : Option (List ℕ)) → AllMet (label_asked version scope earlier o)
    → AreNew scope earlier → AreNew scope (with_label o Outcome earlier)
new_label version scope earlier None met new = new
new_label version scope earlier (Some name) met new =
    let fresh = label_is_new version scope earlier name met in
    let here = is_named-append name scope earlier ∙ or_from (is_named name scope) (is_named name earlier) fresh.0 fresh.1 in
    ap (λ xs. with_labels xs scope) (with_new name Outcome earlier fresh.1) ∙ with_labels-append earlier ((name, Outcome) ∷ []) scope
    ∙ ap (with_label (Some name) Outcome) new
    ∙ with_new name Outcome (scope ++ earlier) here ∙ append_assoc scope earlier ((name, Outcome) ∷ [])
    ∙ ap (λ xs. scope ++ xs) (sym (with_new name Outcome earlier fresh.1))

earlier_subjects : (version : ℕ) (scope earlier : Scope) (o : Option (List ℕ)) (labels : List Label)
    → AllMet (label_asked version scope earlier o) → subjects earlier ≡ map subject_of_label labels
    → subjects (with_label o Outcome earlier) ≡ map subject_of_label (labels ++ added_if (is_some o) OfSubaction)
unfolding subject_of_label
earlier_subjects version scope earlier None labels met seen = seen ∙ ap (map subject_of_label) (sym (append-nil labels))
earlier_subjects version scope earlier (Some name) labels met seen =
    ap subjects (with_new name Outcome earlier (label_is_new version scope earlier name met).1)
    ∙ seen_more earlier labels name Outcome OfSubaction refl seen

depth_is_positive : (block : tree.Block) → 1 ≤ limits.depth block
depth_is_positive NoStep = omega arith
depth_is_positive (Steps step rest) = omega (arith, depth_is_positive rest)

-- a block that a step may have
GoodIf : List Kind → Option tree.Block → List Label → ℕ → ℕ → ℕ → Type 0
GoodIf ks None labels levels operations nodes = (operations ≡ 0) × (nodes ≡ 0)
GoodIf ks (Some block) labels levels operations nodes = GoodBlock ks block labels levels operations nodes

-- one of three tests, by what is asked of it
pick_test : (P : Test → Type 0) (a b : Bool) (x y z : Test × Numbers) (X Y Z : List Demand) → (AllMet X → P x.0) → (AllMet Y → P y.0)
    → (AllMet Z → P z.0) → AllMet (cond a X (cond b Y Z)) → P (cond a x (cond b y z)).0
pick_test P true b x y z X Y Z first second third met = first met
pick_test P false true x y z X Y Z first second third met = second met
pick_test P false false x y z X Y Z first second third met = third met

-- a word that is asked for fits
fitted : (subject : Subject) (o : Option Word) (w : Word) → option_and_then (Asked.fitting subject) o ≡ Some w → fits_word subject w ≡ true
fitted subject None w e = cc
fitted subject (Some v) w e = by (fits_word subject v) refl e
  where
    by : (b : Bool) → fits_word subject v ≡ b → cond b (Some v) None ≡ Some w → fits_word subject w ≡ true
    by true is e = let same : v ≡ w = cc in subst (λ u. fits_word subject u ≡ true) same is
    by false is e = cc

-- ---- the steps that hold blocks, over blocks that are good

module _ (setting : Setting) (paired : length setting.names ≡ length setting.kinds) (n : ℕ) (asks : Scope → Data → List Demand)
    (block : Scope → Numbers → Data → tree.Block × Numbers)
    (inner : (scope : Scope) (numbers : Numbers) (d : Data) (labels : List Label) → AreSeen scope labels
    → length scope + counted (asks scope d) < most_labels → AllMet (asks scope d)
    → GoodBlock setting.kinds (block scope numbers d).0 labels n (count What.operations (asks scope d)) (count What.nodes (asks scope d)))
  where
    block_if_good : (scope : Scope) (numbers : Numbers) (o : Option Data) (labels : List Label) → AreSeen scope labels
        → length scope + counted (block_asked_if asks scope o) < most_labels → AllMet (block_asked_if asks scope o)
        → GoodIf setting.kinds (block_of_if block scope numbers o).0 labels n (count What.operations (block_asked_if asks scope o))
        (count What.nodes (block_asked_if asks scope o))
    unfolding block_asked_if block_of_if GoodIf
    block_if_good scope numbers None labels seen few met = (refl, refl)
    block_if_good scope numbers (Some d) labels seen few met = inner scope numbers d labels seen few met

    else_good : (o : Option tree.Block) (labels : List Label) (operations nodes : ℕ) → 1 ≤ n
        → GoodIf setting.kinds o labels n operations nodes → GoodBlock setting.kinds (or_no_step o) labels n operations nodes
    unfolding GoodIf
    else_good None labels operations nodes deep good = record {
      fits = tt;
      operations_are = sym good.0;
      nodes_are = sym good.1;
      shallow =
          deep;
    }
    else_good (Some b) labels operations nodes deep good = good

    test_fits_here : (subject : Subject) (numbers : Numbers) (d : Data) → AllMet (test_asked setting.version subject d)
        → fits (test_of subject numbers d).0 subject ≡ true
    unfolding test_asked test_of
    test_fits_here subject numbers d met =
        pick_test (λ test. fits test subject ≡ true) (has (codes "is") d) (has (codes "atleast") d) _ _ _ (holds_word subject d)
        (holds_number subject d) (holds_item setting.version subject d)
        (λ (m : AllMet (holds_word subject d)). let w = some_of (tested_word subject d) m.0 in
        let is = fitted subject (option_and_then word_of_text (text_member (codes "is") d)) w.0 w.1 in rw w.1 is)
        (λ (m : AllMet (holds_number subject d)). m.0) (λ (m : AllMet (holds_item setting.version subject d)). m.0) met

    if_good : (scope : Scope) (numbers : Numbers) (d : Data) (labels : List Label) → AreSeen scope labels
        → length scope + counted (if_asked setting.version asks scope d) < most_labels → AllMet (if_asked setting.version asks scope d)
        → GoodStep setting.kinds (if_of block scope numbers d).0 labels n (count What.operations (if_asked setting.version asks scope d))
        (count What.nodes (if_asked setting.version asks scope d))
    unfolding if_asked if_of seen_asked
    if_good scope numbers d labels seen few met =
        let subject = subject_of (if_label d) scope in
        let test = test_of subject numbers d in
        let first = part (codes "then") d in
        let second = get (codes "else") d in
        let A = if_shape_asked d in
        let B = one_more_node setting.version ∷ [] in
        let C = seen_asked scope (if_label d) in
        let D = test_asked setting.version subject d in
        let E = asks scope first in
        let F = block_asked_if asks scope second in
        let ops = count_six What.operations A B C D E F in
        let nds = count_six What.nodes A B C D E F in
        let a1 = if_shape_counts What.operations d in let a2 = if_shape_counts What.nodes d in
        let c1 = seen_counts What.operations scope (if_label d) in let c2 = seen_counts What.nodes scope (if_label d) in
        let d1 = test_counts What.operations setting.version subject d in let d2 = test_counts What.nodes setting.version subject d in
        let metE = rest_met (A ++ B ++ C ++ D) E (first_met (A ++ B ++ C ++ D ++ E) F met) in
        let metF = rest_met (A ++ B ++ C ++ D ++ E) F met in
        let metD = rest_met (A ++ B ++ C) D (first_met (A ++ B ++ C ++ D) E (first_met (A ++ B ++ C ++ D ++ E) F met)) in
        let metC = rest_met (A ++ B) C
        (first_met (A ++ B ++ C) D (first_met (A ++ B ++ C ++ D) E (first_met (A ++ B ++ C ++ D ++ E) F met))) in
        let here = some_of (named (if_label d) scope) metC.0 in
        let is_subject : named (if_label d) scope ≡ Some subject = here.1 ∙ ap (λ s. Some s) (sym (ap (λ o. unwrap_or o Outcome) here.1)) in
        let good = inner scope test.1 first labels seen (omega (arith, few, ops, nds)) metE in
        let other = block_if_good scope (block scope test.1 first).1 second labels seen (omega (arith, few, ops, nds)) metF in
        let deep = depth_is_positive (block scope test.1 first).0 in
        let good2 = else_good (block_of_if block scope (block scope test.1 first).1 second).0 labels (count What.operations F)
        (count What.nodes F) (omega (arith, deep, good.shallow)) other in
        record {
          fits = (
            bound (if_label d) scope labels test.0 subject seen (omega (arith, few)) is_subject
                (test_fits_here subject numbers d metD),
            good.fits,
            good2.fits,
          );
          operations_are = omega (arith, ops, a1, c1, d1, good.operations_are, good2.operations_are);
          nodes_are = omega (arith, nds, a2, c2, d2, good.nodes_are, good2.nodes_are);
          shallow = max-le good.shallow good2.shallow;
        }

    members_good : (scope : Scope) (numbers : Numbers) (ds : Members) (others : Handlers) (labels : List Label) (operations nodes : ℕ)
        → AreSeen scope labels → length scope + counted (members_asked setting.version asks scope ds) < most_labels
        → AllMet (members_asked setting.version asks scope ds)
        → GoodHandlers setting.kinds others labels n operations nodes
        → GoodHandlers setting.kinds (for_reasons (members_of block scope numbers ds).0 others) labels n
        (count What.operations (members_asked setting.version asks scope ds) + operations)
        (count What.nodes (members_asked setting.version asks scope ds) + nodes)
    members_good scope numbers no_members others labels operations nodes seen few met good =
        record {
          fits = good.fits;
          operations_are = omega (arith, good.operations_are);
          nodes_are = omega (arith, good.nodes_are);
          shallow =
              good.shallow;
        }
    members_good scope numbers (member reason d ds) others labels operations nodes seen few met good =
        let A = member_asked setting.version asks scope reason d in
        let B = members_asked setting.version asks scope ds in
        let ops = count-append What.operations A B in
        let nds = count-append What.nodes A B in
        let here = inner scope (with_reason reason numbers) d labels seen (omega (arith, few, ops, nds)) (first_met A B met).1 in
        let rest = members_good scope (member_of block scope numbers reason d).1 ds others labels operations nodes seen
        (omega (arith, few, ops, nds)) (rest_met A B met) good in
        record {
          fits = (here.fits, rest.fits);
          operations_are = omega (arith, ops, here.operations_are, rest.operations_are);
          nodes_are = omega (arith, nds, here.nodes_are, rest.nodes_are);
          shallow = max-le here.shallow rest.shallow;
        }

    last_good : (h : Option tree.Block) (labels : List Label) (operations nodes : ℕ) → GoodIf setting.kinds h labels n operations nodes
        → GoodHandlers setting.kinds (handlers_of None h) labels n operations nodes
    unfolding GoodIf
    last_good None labels operations nodes good = record {
      fits = tt;
      operations_are = sym good.0;
      nodes_are = sym good.1;
      shallow =
          omega arith;
    }
    last_good (Some b) labels operations nodes good = record {
      fits = good.fits;
      operations_are = good.operations_are;
      nodes_are =
          good.nodes_are;
      shallow = good.shallow;
    }

    pass_good : (h : Option tree.Block) (labels : List Label) (operations nodes : ℕ) → GoodIf setting.kinds h labels n operations nodes
        → GoodHandlers setting.kinds (handlers_of (Some []) h) labels n operations nodes
    unfolding GoodIf
    pass_good None labels operations nodes good = record {
      fits = tt;
      operations_are = sym good.0;
      nodes_are = sym good.1;
      shallow =
          omega arith;
    }
    pass_good (Some b) labels operations nodes good = record {
      fits = good.fits;
      operations_are = good.operations_are;
      nodes_are =
          good.nodes_are;
      shallow = good.shallow;
    }

    by_reason : (list : List (ℕ × tree.Block)) (h : Option tree.Block) → handlers_of (Some list) h ≡ for_reasons list
        (handlers_of (Some []) h)
    by_reason list None = refl
    by_reason list (Some b) = refl

    handlers_good : (scope : Scope) (numbers : Numbers) (o : Option Members) (h : Option tree.Block) (labels : List Label)
        (operations nodes : ℕ) → AreSeen scope labels → length scope + counted (handlers_asked setting.version asks scope o) < most_labels
        → AllMet (handlers_asked setting.version asks scope o)
        → GoodIf setting.kinds h labels n operations nodes
        → GoodHandlers setting.kinds (handlers_of (handlers_spelled block scope numbers o).0 h) labels n
        (count What.operations (handlers_asked setting.version asks scope o) + operations)
        (count What.nodes (handlers_asked setting.version asks scope o) + nodes)
    unfolding handlers_asked handlers_spelled
    handlers_good scope numbers None h labels operations nodes seen few met good =
        let last = last_good h labels operations nodes good in
        record {
          fits = last.fits;
          operations_are = omega (arith, last.operations_are);
          nodes_are = omega (arith, last.nodes_are);
          shallow =
              last.shallow;
        }
    handlers_good scope numbers (Some ds) h labels operations nodes seen few met good =
        rw (by_reason (members_of block scope numbers ds).0 h)
        (members_good scope numbers ds (handlers_of (Some []) h) labels operations nodes seen few met
        (pass_good h labels operations nodes good))

    sub_good : (scope earlier : Scope) (numbers : Numbers) (d : Data) (labels : List Label) → AreSeen scope labels
        → length scope + counted (sub_asked setting.version asks scope earlier d) < most_labels
        → AllMet (sub_asked setting.version asks scope earlier d)
        → GoodTried setting.kinds (sub_of block scope numbers d).0 labels n
        (count What.operations (sub_asked setting.version asks scope earlier d))
        (count What.nodes (sub_asked setting.version asks scope earlier d))
    unfolding sub_asked sub_of
    sub_good scope earlier numbers d labels seen few met =
        let body = part (codes "sub") d in
        let by_reasons = handlers_in d in
        let last = get (codes "handler") d in
        let A = sub_shape_asked setting.version d in
        let B = one_more_node setting.version ∷ [] in
        let C = label_asked setting.version scope earlier (label_in d) in
        let D = asks scope body in
        let E = handlers_asked setting.version asks scope by_reasons in
        let F = block_asked_if asks scope last in
        let ops = count_six What.operations A B C D E F in
        let nds = count_six What.nodes A B C D E F in
        let a1 = sub_shape_counts What.operations setting.version d in let a2 = sub_shape_counts What.nodes setting.version d in
        let c1 = label_counts What.operations setting.version scope earlier (label_in d) in
        let c2 = label_counts What.nodes setting.version scope earlier (label_in d) in
        let metF = rest_met (A ++ B ++ C ++ D ++ E) F met in
        let metE = rest_met (A ++ B ++ C ++ D) E (first_met (A ++ B ++ C ++ D ++ E) F met) in
        let metD = rest_met (A ++ B ++ C) D (first_met (A ++ B ++ C ++ D) E (first_met (A ++ B ++ C ++ D ++ E) F met)) in
        let after = (block scope numbers body).1 in
        let later = (handlers_spelled block scope after by_reasons).1 in
        let good = inner scope numbers body labels seen (omega (arith, few, ops, nds)) metD in
        let other = block_if_good scope later last labels seen (omega (arith, few, ops, nds)) metF in
        let handlers = handlers_good scope after by_reasons (block_of_if block scope later last).0 labels (count What.operations F)
        (count What.nodes F) seen (omega (arith, few, ops, nds)) metE other in
        record {
          body_fits = good.fits;
          handlers_fit = handlers.fits;
          operations_are = omega (arith, ops, a1, c1, good.operations_are, handlers.operations_are);
          nodes_are = omega (arith, nds, a2, c2, good.nodes_are, handlers.nodes_are);
          body_shallow = good.shallow;
          handlers_shallow = handlers.shallow;
        }

    -- the label of a subaction was checked, and it counts for one node at least
    sub_label : (scope earlier : Scope) (d : Data) → AllMet (sub_asked setting.version asks scope earlier d)
        → AllMet (label_asked setting.version scope earlier (label_in d))
    unfolding sub_asked
    sub_label scope earlier d met =
        let A = sub_shape_asked setting.version d in
        let B = one_more_node setting.version ∷ [] in
        let C = label_asked setting.version scope earlier (label_in d) in
        let D = asks scope (part (codes "sub") d) in
        let E = handlers_asked setting.version asks scope (handlers_in d) in
        let F = block_asked_if asks scope (get (codes "handler") d) in
        rest_met (A ++ B) C (first_met (A ++ B ++ C) D (first_met (A ++ B ++ C ++ D) E (first_met (A ++ B ++ C ++ D ++ E) F met)))

    sub_is_node : (scope earlier : Scope) (d : Data) → 1 ≤ count What.nodes (sub_asked setting.version asks scope earlier d)
    unfolding sub_asked
    sub_is_node scope earlier d =
        omega (
          arith,
          count_six What.nodes (sub_shape_asked setting.version d) (one_more_node setting.version ∷ [])
              (label_asked setting.version scope earlier (label_in d)) (asks scope (part (codes "sub") d))
              (handlers_asked setting.version asks scope (handlers_in d))
              (block_asked_if asks scope (get (codes "handler") d)),
        )

    sub_labelled : (scope : Scope) (numbers : Numbers) (d : Data) → (sub_of block scope numbers d).0.labelled ≡ is_some (label_in d)
    unfolding sub_of
    sub_labelled scope numbers d = refl

    children_good : (scope earlier : Scope) (numbers : Numbers) (ds : Items) (labels : List Label) → AreSeen scope labels
        → length scope + counted (children_asked setting.version asks scope earlier ds) < most_labels
        → AllMet (children_asked setting.version asks scope earlier ds)
        → GoodChildren setting.kinds (children_of (children_spelled block scope numbers ds).0) labels n
        (count What.operations (children_asked setting.version asks scope earlier ds))
        (count What.nodes (children_asked setting.version asks scope earlier ds))
    children_good scope earlier numbers no_items labels seen few met = record {
      fits = tt;
      operations_are = refl;
      nodes_are = refl;
      shallow =
          omega arith;
    }
    children_good scope earlier numbers (item d ds) labels seen few met =
        let A = sub_asked setting.version asks scope earlier d in
        let next = with_label (label_in d) Outcome earlier in
        let B = children_asked setting.version asks scope next ds in
        let ops = count-append What.operations A B in
        let nds = count-append What.nodes A B in
        let here = sub_good scope earlier numbers d labels seen (omega (arith, few, ops, nds)) (first_met A B met) in
        let rest = children_good scope next (sub_of block scope numbers d).1 ds labels seen (omega (arith, few, ops, nds))
        (rest_met A B met) in
        record {
          fits = (here.body_fits, here.handlers_fit, rest.fits);
          operations_are = omega (arith, ops, here.operations_are, rest.operations_are);
          nodes_are = omega (arith, nds, here.nodes_are, rest.nodes_are);
          shallow = max-le (max-le here.body_shallow here.handlers_shallow) rest.shallow;
        }

    -- the children's labels: new, those of the spelled children, and not more than the children
    children_labels : (scope earlier : Scope) (numbers : Numbers) (ds : Items) (labels : List Label)
        → AllMet (children_asked setting.version asks scope earlier ds) → AreNew scope earlier
        → subjects earlier ≡ map subject_of_label labels
        → AreNew scope (labels_of earlier ds)
        × (subjects (labels_of earlier ds) ≡ map subject_of_label
        (labels ++ added_by_children (children_of (children_spelled block scope numbers ds).0)))
        × (length (labels_of earlier ds) ≤ length earlier + count What.nodes (children_asked setting.version asks scope earlier ds))
    children_labels scope earlier numbers no_items labels met new seen = (
      new,
      seen ∙ ap (map subject_of_label) (sym (append-nil labels)),
      omega arith,
    )
    children_labels scope earlier numbers (item d ds) labels met new seen =
        let A = sub_asked setting.version asks scope earlier d in
        let next = with_label (label_in d) Outcome earlier in
        let B = children_asked setting.version asks scope next ds in
        let checked = sub_label scope earlier d (first_met A B met) in
        let one = added_if (is_some (label_in d)) OfSubaction in
        let rest = children_labels scope next (sub_of block scope numbers d).1 ds (labels ++ one) (rest_met A B met)
        (new_label setting.version scope earlier (label_in d) checked new)
        (earlier_subjects setting.version scope earlier (label_in d) labels checked seen) in
        let later = added_by_children (children_of (children_spelled block scope (sub_of block scope numbers d).1 ds).0) in (
          rest.0,
          rest.1 ∙ ap (map subject_of_label) (append_assoc labels one later ∙ ap (λ b. labels ++ (added_if b OfSubaction ++ later))
              (sym (sub_labelled scope numbers d))),
          omega (arith, rest.2, grows_by (label_in d) Outcome earlier, count-append What.nodes A B, sub_is_node scope earlier d),
        )

    -- ---- any step

    operation_good : (scope : Scope) (numbers : Numbers) (d : Data) (labels : List Label) → AreSeen scope labels
        → length scope < most_labels → AllMet (operation_asked setting scope d)
        → GoodStep setting.kinds (operation_of setting scope numbers d).0 labels n (count What.operations (operation_asked setting scope d))
        (count What.nodes (operation_asked setting scope d))
    unfolding operation_asked operation_of
    operation_good scope numbers d labels seen few met =
        let op = part (codes "op") d in
        let verb = verb_in setting op in
        let A = operation_shape_asked setting.version d in
        let B = one_more_operation setting.version ∷ [] in
        let C = target_asked setting (object_of op) (call_named op) in
        let D = arguments_asked setting.version scope verb op in
        let E = reason_asked setting.version names.Else (else_reason d) in
        let F = label_asked setting.version scope [] (label_in d) in
        let metD = first_met (A ++ B ++ C ++ D) E (first_met (A ++ B ++ C ++ D ++ E) F met) in
        let metC = rest_met (A ++ B) C (first_met (A ++ B ++ C) D metD) in
        let made = template_of setting.version scope verb numbers op in
        let object = target_of setting (object_of op) in
        let refusal = (refusal_of made.1 d).0 in
        let is = step_adds object made.0 (is_some (label_in d)) refusal in
        let is_verb = verb_is setting.version scope verb numbers op in
        record {
          fits = step_fits setting.kinds object made.0 (is_some (label_in d)) refusal labels
              (subst (VerbFits setting.kinds object) (sym is_verb) (verb_fits setting op paired metC))
              (arguments_fit scope labels seen (omega (arith, few)) setting.version verb numbers op (rest_met (A ++ B ++ C) D metD));
          operations_are = omega (
            arith,
            is.1,
            count_six What.operations A B C D E F,
            operation_shape_counts What.operations setting.version d,
            target_counts What.operations setting (object_of op) (call_named op),
            arguments_count What.operations setting.version scope verb op,
            reason_counts What.operations setting.version names.Else (else_reason d),
            label_counts What.operations setting.version scope [] (label_in d),
          );
          nodes_are = omega (
            arith,
            is.2,
            count_six What.nodes A B C D E F,
            operation_shape_counts What.nodes setting.version d,
            target_counts What.nodes setting (object_of op) (call_named op),
            arguments_count What.nodes setting.version scope verb op,
            reason_counts What.nodes setting.version names.Else (else_reason d),
            label_counts What.nodes setting.version scope [] (label_in d),
          );
          shallow = omega (arith, is.3);
        }

    abort_good : (scope : Scope) (numbers : Numbers) (d : Data) (labels : List Label)
        → GoodStep setting.kinds (abort_of numbers d).0 labels n (count What.operations (abort_asked setting.version d))
        (count What.nodes (abort_asked setting.version d))
    unfolding abort_asked abort_shape_asked abort_of
    abort_good scope numbers d labels =
        let A = abort_shape_asked setting.version d in
        let reason = as_str (part (codes "abort") d) in
        let B = reason_asked setting.version names.Reason reason in
        record {
          fits = tt;
          operations_are = omega (
            arith,
            count-append What.operations A B,
            reason_counts What.operations setting.version names.Reason reason,
          );
          nodes_are = omega (arith, count-append What.nodes A B, reason_counts What.nodes setting.version names.Reason reason);
          shallow = omega arith;
        }

    parallel_good : (scope : Scope) (numbers : Numbers) (d : Data) (labels : List Label) → AreSeen scope labels
        → length scope + counted (parallel_asked setting.version asks scope d) < most_labels
        → AllMet (parallel_asked setting.version asks scope d)
        → GoodStep setting.kinds (parallel_of block scope numbers d).0 labels n
        (count What.operations (parallel_asked setting.version asks scope d))
        (count What.nodes (parallel_asked setting.version asks scope d))
    unfolding parallel_asked parallel_of
    parallel_good scope numbers d labels seen few met =
        let A = parallel_shape_asked d in
        let B = one_more_node setting.version ∷ [] in
        let C = children_asked setting.version asks scope [] (children_in d) in
        let ops = count_three What.operations A B C in
        let nds = count_three What.nodes A B C in
        let a1 = parallel_shape_counts What.operations d in let a2 = parallel_shape_counts What.nodes d in
        let good = children_good scope [] numbers (children_in d) labels seen (omega (arith, few, ops, nds)) (rest_met (A ++ B) C met) in
        record {
          fits = good.fits;
          operations_are = omega (arith, ops, a1, good.operations_are);
          nodes_are = omega (arith, nds, a2, good.nodes_are);
          shallow = good.shallow;
        }

    parallel_labels : (scope : Scope) (numbers : Numbers) (d : Data) (labels : List Label) → AreSeen scope labels
        → AllMet (parallel_asked setting.version asks scope d)
        → AreSeen (with_labels (labels_of [] (children_in d)) scope) (labels ++ added_by (parallel_of block scope numbers d).0)
        × (length (with_labels (labels_of [] (children_in d)) scope) ≤ length scope + counted (parallel_asked setting.version asks scope d))
    unfolding parallel_asked parallel_of
    parallel_labels scope numbers d labels seen met =
        let A = parallel_shape_asked d in
        let B = one_more_node setting.version ∷ [] in
        let C = children_asked setting.version asks scope [] (children_in d) in
        let earlier = labels_of [] (children_in d) in
        let added = added_by_children (children_of (children_spelled block scope numbers (children_in d)).0) in
        let here = children_labels scope [] numbers (children_in d) [] (rest_met (A ++ B) C met) (sym (append-nil scope)) refl in
        let is : with_labels earlier scope ≡ scope ++ earlier = here.0 in (
          ap subjects is ∙ map-append (λ (l : List ℕ × Subject). l.1) scope earlier ∙ ap (λ xs. xs ++ subjects earlier) seen
              ∙ ap (λ xs. map subject_of_label labels ++ xs) here.1 ∙ sym (map-append subject_of_label labels added),
          omega (arith, ap length is, length-append scope earlier, here.2, count_three What.nodes A B C),
        )

    operation_labels : (scope : Scope) (numbers : Numbers) (d : Data) (labels : List Label) → AreSeen scope labels
        → AllMet (operation_asked setting scope d)
        → AreSeen (with_label (label_in d) (Reply (verb_in setting (part (codes "op") d))) scope)
        (labels ++ added_by (operation_of setting scope numbers d).0)
        × (length (with_label (label_in d) (Reply (verb_in setting (part (codes "op") d))) scope) ≤ length scope + counted
        (operation_asked setting scope d))
    unfolding operation_asked operation_of subject_of_label
    operation_labels scope numbers d labels seen met =
        let op = part (codes "op") d in
        let verb = verb_in setting op in
        let A = operation_shape_asked setting.version d in
        let B = one_more_operation setting.version ∷ [] in
        let C = target_asked setting (object_of op) (call_named op) in
        let D = arguments_asked setting.version scope verb op in
        let E = reason_asked setting.version names.Else (else_reason d) in
        let F = label_asked setting.version scope [] (label_in d) in
        let made = template_of setting.version scope verb numbers op in
        let is = step_adds (target_of setting (object_of op)) made.0 (is_some (label_in d)) (refusal_of made.1 d).0 in (
          subst (λ more. AreSeen (with_label (label_in d) (Reply verb) scope) (labels ++ more)) (sym is.0)
              (label_seen setting.version scope [] labels (label_in d) (Reply verb) (OfVerb (template_verb made.0))
              (ap (λ v. Reply v) (verb_is setting.version scope verb numbers op)) (rest_met (A ++ B ++ C ++ D ++ E) F met) seen),
          omega (arith, grows_by (label_in d) (Reply verb) scope, count_six What.operations A B C D E F),
        )

    nothing_added : (scope : Scope) (labels : List Label) → AreSeen scope labels → AreSeen scope (labels ++ [])
    nothing_added scope labels seen = seen ∙ ap (map subject_of_label) (sym (append-nil labels))

    outcome_is : subject_of_label OfSubaction ≡ Outcome
    unfolding subject_of_label
    outcome_is = refl

    if_adds_none : (scope : Scope) (numbers : Numbers) (d : Data) (labels : List Label) → AreSeen scope labels
        → AreSeen scope (labels ++ added_by (if_of block scope numbers d).0)
    unfolding if_of
    if_adds_none scope numbers d labels seen = nothing_added scope labels seen

    abort_adds_none : (scope : Scope) (numbers : Numbers) (d : Data) (labels : List Label) → AreSeen scope labels
        → AreSeen scope (labels ++ added_by (abort_of numbers d).0)
    unfolding abort_of
    abort_adds_none scope numbers d labels seen = nothing_added scope labels seen

    by_sort : (sort : Option Sort) (scope : Scope) (numbers : Numbers) (d : Data) (labels : List Label) → AreSeen scope labels
        → length scope + counted (step_asked_by sort asks setting scope d) < most_labels → AllMet (step_asked_by sort asks setting scope d)
        → GoodStep setting.kinds (step_of_by sort block setting scope numbers d).0 labels n
        (count What.operations (step_asked_by sort asks setting scope d)) (count What.nodes (step_asked_by sort asks setting scope d))
        × AreSeen (scope_after_by sort setting scope d) (labels ++ added_by (step_of_by sort block setting scope numbers d).0)
        × (length (scope_after_by sort setting scope d) ≤ length scope + counted (step_asked_by sort asks setting scope d))
    by_sort None scope numbers d labels seen few met = cc
    by_sort (Some an_operation) scope numbers d labels seen few met =
        let behind = operation_labels scope numbers d labels seen met in
        (operation_good scope numbers d labels seen (omega (arith, few)) met, behind.0, behind.1)
    by_sort (Some an_if) scope numbers d labels seen few met =
        (if_good scope numbers d labels seen few met, if_adds_none scope numbers d labels seen, omega arith)
    by_sort (Some a_sub) scope numbers d labels seen few met =
        let good = sub_good scope [] numbers d labels seen few met in
        let child = (sub_of block scope numbers d).0 in (
          record {
            fits = (good.body_fits, good.handlers_fit);
            operations_are = good.operations_are;
            nodes_are = good.nodes_are;
            shallow =
                max-le good.body_shallow good.handlers_shallow;
          },
          label_seen setting.version scope [] labels (label_in d) Outcome OfSubaction outcome_is (sub_label scope [] d met) seen
              ∙ ap (λ b. map subject_of_label (labels ++ added_if b OfSubaction)) (sym (sub_labelled scope numbers d)),
          omega (arith, grows_by (label_in d) Outcome scope, sub_is_node scope [] d),
        )
    by_sort (Some an_abort) scope numbers d labels seen few met =
        (abort_good scope numbers d labels, abort_adds_none scope numbers d labels seen, omega arith)
    by_sort (Some a_parallel) scope numbers d labels seen few met =
        let behind = parallel_labels scope numbers d labels seen met in
        (parallel_good scope numbers d labels seen few met, behind.0, behind.1)

    steps_good : (scope : Scope) (numbers : Numbers) (ds : Items) (labels : List Label) → AreSeen scope labels
        → length scope + counted (steps_asked asks setting scope ds) < most_labels → AllMet (steps_asked asks setting scope ds)
        → GoodBlock setting.kinds (steps_of (steps_spelled block setting scope numbers ds).0) labels (suc n)
        (count What.operations (steps_asked asks setting scope ds)) (count What.nodes (steps_asked asks setting scope ds))
    unfolding step_asked step_of scope_after
    steps_good scope numbers no_items labels seen few met = record {
      fits = tt;
      operations_are = refl;
      nodes_are = refl;
      shallow =
          omega arith;
    }
    steps_good scope numbers (item d ds) labels seen few met =
        let A = step_asked asks setting scope d in
        let next = scope_after setting scope d in
        let B = steps_asked asks setting next ds in
        let ops = count-append What.operations A B in
        let nds = count-append What.nodes A B in
        let here = by_sort (sort_of d) scope numbers d labels seen (omega (arith, few, ops, nds)) (first_met A B met) in
        let step = step_of block setting scope numbers d in
        let rest = steps_good next step.1 ds (labels ++ added_by step.0) here.1 (omega (arith, few, here.2, ops, nds)) (rest_met A B met) in
        record {
          fits = (here.0.fits, rest.fits);
          operations_are = omega (arith, ops, here.0.operations_are, rest.operations_are);
          nodes_are = omega (arith, nds, here.0.nodes_are, rest.nodes_are);
          shallow = max-le (omega (arith, here.0.shallow)) rest.shallow;
        }

    array_good : (scope : Scope) (numbers : Numbers) (o : Option Items) (labels : List Label) → AreSeen scope labels
        → length scope + counted (array_asked (steps_asked asks setting scope) o) < most_labels
        → AllMet (array_asked (steps_asked asks setting scope) o)
        → GoodBlock setting.kinds (steps_of (steps_spelled block setting scope numbers (or_no_items o)).0) labels (suc n)
        (count What.operations (array_asked (steps_asked asks setting scope) o))
        (count What.nodes (array_asked (steps_asked asks setting scope) o))
    array_good scope numbers None labels seen few met = cc
    array_good scope numbers (Some ds) labels seen few met = steps_good scope numbers ds labels seen few met

-- ---- blocks

pub block_good : (setting : Setting) → length setting.names ≡ length setting.kinds → (n : ℕ) (scope : Scope) (numbers : Numbers) (d : Data)
    (labels : List Label) → AreSeen scope labels → length scope + counted (block_asked setting n scope d) < most_labels
    → AllMet (block_asked setting n scope d)
    → GoodBlock setting.kinds (block_of setting n scope numbers d).0 labels n (count What.operations (block_asked setting n scope d))
    (count What.nodes (block_asked setting n scope d))
unfolding block_asked block_of
block_good setting paired zero scope numbers d labels seen few met = too_deep (as_array d) met
  where
    too_deep : (o : Option Items) → AllMet (array_asked (λ ds. holds false Depth ∷ []) o) → GoodBlock setting.kinds NoStep labels zero
        (count What.operations (array_asked (λ ds. holds false Depth ∷ []) o))
        (count What.nodes (array_asked (λ ds. holds false Depth ∷ []) o))
    too_deep None met = cc
    too_deep (Some ds) met = cc
block_good setting paired (suc n) scope numbers d labels seen few met = array_good setting paired n (block_asked setting n)
    (block_of setting n) (block_good setting paired n) scope numbers (as_array d) labels seen few met
