-- What is asked of a step, before its blocks and of them.
use Rattle.std.specs.Prelude.{codes, is_some}
use Rattle.std.proofs.Common.{◌≡◌, ℕ, List, [], ◌∷◌, ◌++◌, Option, Ok, Err, refl, ap, ◌∙◌}
use Rattle.serde_json.specs.Data.{Data}
use Rattle.serde_json.specs.Find.{get}
use Rattle.meaning.specs.Trees as tree
use Rattle.meaning.specs.declared.test.Test.{Test}
use Rattle.doc_tree.specs.declared.counts.Counts.{Counts}
use Rattle.doc_rules.specs.declared.failure.Failure.{Failure}
use Rattle.doc_rules.specs.declared.rule.NameRule.TheVariants as named_rule
use Rattle.doc_rules.specs.declared.rule.Rule.TheVariants.{Start}
use Rattle.doc_rules.specs.declared.rule.StartRule.TheVariants.{NewKey}
use Rattle.doc_tree.specs.Asked.{arguments_asked, call_named, children_in, else_reason, handlers_in, if_label, if_shape_asked}
use Rattle.doc_tree.specs.Asked.{key_of, label_asked, label_in, object_of, operation_asked, operation_shape_asked, pair_asked}
use Rattle.doc_tree.specs.Asked.{parallel_shape_asked, part, reason_asked, seen_asked, sub_shape_asked, subject_of, target_asked}
use Rattle.doc_tree.specs.Asked.{test_asked, verb_in}
use Rattle.doc_tree.specs.Demand.{Demand, check, one_more_node, one_more_operation}
use Rattle.doc_tree.specs.Heads.{if_head_asked, new_start_asked, operation_head_asked, pair_names_asked}
use Rattle.doc_tree.specs.Heads.{parallel_head_asked, sub_head_asked}
use Rattle.doc_tree.specs.Places.{Found, Placed, Places, block_placed_if, children_placed, found_here, handlers_placed, if_placed, inside}
use Rattle.doc_tree.specs.Places.{itself, member_named, nothing, parallel_placed, seek, sub_placed}
use Rattle.doc_tree.specs.Scope.{Numbers, Scope, Setting, Table, label_number}
use Rattle.doc_tree.specs.Spelled.{Spelling, block_of_if, handlers_spelled, if_of, or_no_step, sub_of, test_of, tried}
use Rattle.doc_tree.proofs.Checks.{check-append, check-after, check_failed, check_met, failed-before}
use Rattle.doc_tree.proofs.PlaceLemmas.{inside_met, inside_unmet, own_both, own_first, own_unmet}

if_placed-is : (version : ℕ) (places : Places) (scope : Scope) (d : Data) (c : Counts) → seek c (if_placed version places scope d)
    ≡ seek c (itself (if_head_asked version scope d) (inside (member_named (codes "then")) (places scope (part (codes "then") d))
    (inside (member_named (codes "else")) (block_placed_if places scope (get (codes "else") d)) nothing)))
unfolding if_placed if_head_asked
if_placed-is version places scope d c =
    let branches = inside (member_named (codes "then")) (places scope (part (codes "then") d))
    (inside (member_named (codes "else")) (block_placed_if places scope (get (codes "else") d)) nothing) in
    let shape = if_shape_asked d in
    let node = one_more_node version ∷ [] in
    let named = seen_asked scope (if_label d) in
    let tested = test_asked version (subject_of (if_label d) scope) d in
    own_both c shape node (itself named (itself tested branches))
    ∙ own_both c (shape ++ node) named (itself tested branches)
    ∙ own_both c (shape ++ node ++ named) tested branches

sub_placed-is : (version : ℕ) (places : Places) (scope earlier : Scope) (d : Data) (c : Counts)
    → seek c (sub_placed version places scope earlier d)
    ≡ seek c (itself (sub_head_asked version scope earlier d) (inside (member_named (codes "sub")) (places scope (part (codes "sub") d))
    (inside (member_named (codes "handlers")) (handlers_placed version places scope (handlers_in d))
    (inside (member_named (codes "handler")) (block_placed_if places scope (get (codes "handler") d)) nothing))))
unfolding sub_placed sub_head_asked
sub_placed-is version places scope earlier d c =
    let blocks = inside (member_named (codes "sub")) (places scope (part (codes "sub") d))
    (inside (member_named (codes "handlers")) (handlers_placed version places scope (handlers_in d))
    (inside (member_named (codes "handler")) (block_placed_if places scope (get (codes "handler") d)) nothing)) in
    let shape = sub_shape_asked version d in
    let node = one_more_node version ∷ [] in
    let named = label_asked version scope earlier (label_in d) in
    own_both c shape node (itself named blocks) ∙ own_both c (shape ++ node) named blocks

parallel_placed-is : (version : ℕ) (places : Places) (scope : Scope) (d : Data) (c : Counts)
    → seek c (parallel_placed version places scope d)
    ≡ seek c (itself (parallel_head_asked version d) (inside (member_named (codes "parallel"))
    (children_placed version places scope [] 0 (children_in d)) nothing))
unfolding parallel_placed parallel_head_asked
parallel_placed-is version places scope d c = own_both c (parallel_shape_asked d) (one_more_node version ∷ [])
    (inside (member_named (codes "parallel")) (children_placed version places scope [] 0 (children_in d)) nothing)

pub operation_asked-is : (setting : Setting) (scope : Scope) (d : Data) → operation_asked setting scope d
    ≡ operation_head_asked setting d
    ++ arguments_asked setting.version scope (verb_in setting (part (codes "op") d)) (part (codes "op") d)
    ++ reason_asked setting.version named_rule.Else (else_reason d)
    ++ label_asked setting.version scope [] (label_in d)
unfolding operation_asked operation_head_asked
operation_asked-is setting scope d = refl

-- for the function that reads an operation
pub ruleset operations = (operation_asked-is, check-append, check-after, failed-before)

-- ---- demands in two parts

second_failed : (c next : Counts) (e : Failure) (xs ys : List Demand) → check c xs ≡ Ok next → check next ys ≡ Err e
    → check c (xs ++ ys) ≡ Err e
second_failed c next e xs ys met failed = check_met c next xs ys met ∙ failed

both_met : (c next last : Counts) (xs ys : List Demand) → check c xs ≡ Ok next → check next ys ≡ Ok last → check c (xs ++ ys) ≡ Ok last
both_met c next last xs ys met rest = check_met c next xs ys met ∙ rest

-- ---- an operation

module _ (setting : Setting) (scope : Scope) (d : Data) (start : Counts) where
  abbrev operation_head : List Demand
  operation_head = operation_head_asked setting d

  abbrev arguments : List Demand
  arguments = arguments_asked setting.version scope (verb_in setting (part (codes "op") d)) (part (codes "op") d)

  abbrev refusal : List Demand
  refusal = reason_asked setting.version named_rule.Else (else_reason d)

  abbrev operation_label : List Demand
  operation_label = label_asked setting.version scope [] (label_in d)

  -- the first rule that isn't kept is before the arguments
  pub operation_head_failed : (e : Failure) → check start operation_head ≡ Err e → check start (operation_asked setting scope d) ≡ Err e
  operation_head_failed e failed = ap (check start) (operation_asked-is setting scope d)
      ∙ check_failed start e (operation_head ++ arguments ++ refusal) operation_label
      (check_failed start e (operation_head ++ arguments) refusal (check_failed start e operation_head arguments failed))

  -- it is in the arguments
  pub arguments_failed : (next : Counts) (e : Failure) → check start operation_head ≡ Ok next → check next arguments ≡ Err e
      → check start (operation_asked setting scope d) ≡ Err e
  arguments_failed next e met failed = ap (check start) (operation_asked-is setting scope d)
      ∙ check_failed start e (operation_head ++ arguments ++ refusal) operation_label
      (check_failed start e (operation_head ++ arguments) refusal
      (second_failed start next e operation_head arguments met failed))

  -- it is in the reason of `else`
  pub refusal_failed : (next after : Counts) (e : Failure) → check start operation_head ≡ Ok next
      → check next arguments ≡ Ok after → check after refusal ≡ Err e → check start (operation_asked setting scope d) ≡ Err e
  refusal_failed next after e met also failed = ap (check start) (operation_asked-is setting scope d)
      ∙ check_failed start e (operation_head ++ arguments ++ refusal) operation_label
      (second_failed start after e (operation_head ++ arguments) refusal
      (both_met start next after operation_head arguments met also) failed)

  before_label : (next after then : Counts) → check start operation_head ≡ Ok next → check next arguments ≡ Ok after
      → check after refusal ≡ Ok then → check start (operation_head ++ arguments ++ refusal) ≡ Ok then
  before_label next after then met also named = both_met start after then (operation_head ++ arguments) refusal
      (both_met start next after operation_head arguments met also) named

  -- it is in the label
  pub operation_label_failed : (next after then : Counts) (e : Failure) → check start operation_head ≡ Ok next
      → check next arguments ≡ Ok after → check after refusal ≡ Ok then → check then operation_label ≡ Err e
      → check start (operation_asked setting scope d) ≡ Err e
  operation_label_failed next after then e met also named failed = ap (check start) (operation_asked-is setting scope d)
      ∙ second_failed start then e (operation_head ++ arguments ++ refusal) operation_label
      (before_label next after then met also named) failed

  -- there is none
  pub operation_parts_met : (next after then last : Counts) → check start operation_head ≡ Ok next → check next arguments ≡ Ok after
      → check after refusal ≡ Ok then → check then operation_label ≡ Ok last → check start (operation_asked setting scope d) ≡ Ok last
  operation_parts_met next after then last met also named rest = ap (check start) (operation_asked-is setting scope d)
      ∙ both_met start then last (operation_head ++ arguments ++ refusal) operation_label
      (before_label next after then met also named) rest

-- ---- an `if`

module _ (version : ℕ) (places : Places) (scope : Scope) (d : Data) (start : Counts) where
  abbrev head : List Demand
  head = if_head_asked version scope d

  abbrev first : Placed → Placed
  first = inside (member_named (codes "then")) (places scope (part (codes "then") d))

  abbrev second : Placed
  second = inside (member_named (codes "else")) (block_placed_if places scope (get (codes "else") d)) nothing

  -- the first rule that isn't kept is before the branches
  pub if_head_failed : (e : Failure) → check start head ≡ Err e → seek start (if_placed version places scope d) ≡ Err (found_here e)
  if_head_failed e failed = if_placed-is version places scope d start ∙ own_unmet start e head (first second) failed

  -- they decide
  if_after_head : (next : Counts) → check start head ≡ Ok next → seek start (if_placed version places scope d) ≡ seek next (first second)
  if_after_head next met = if_placed-is version places scope d start ∙ own_first start next head (first second) met

  -- it is in the first branch
  pub if_then_failed : (next : Counts) (found : Found) → check start head ≡ Ok next → seek next (first nothing) ≡ Err found
      → seek start (if_placed version places scope d) ≡ Err found
  if_then_failed next found met failed = if_after_head next met
      ∙ inside_unmet next found (member_named (codes "then")) (places scope (part (codes "then") d)) second failed

  -- it is in the second
  if_after_then : (next after : Counts) → check start head ≡ Ok next → seek next (first nothing) ≡ Ok after
      → seek start (if_placed version places scope d) ≡ seek after second
  if_after_then next after met also = if_after_head next met
      ∙ inside_met next after (member_named (codes "then")) (places scope (part (codes "then") d)) second also

  pub if_else_failed : (next after : Counts) (found : Found) → check start head ≡ Ok next → seek next (first nothing) ≡ Ok after
      → seek after second ≡ Err found → seek start (if_placed version places scope d) ≡ Err found
  if_else_failed next after found met also failed = if_after_then next after met also ∙ failed

  -- there is none
  pub if_parts_met : (next after last : Counts) → check start head ≡ Ok next → seek next (first nothing) ≡ Ok after
      → seek after second ≡ Ok last → seek start (if_placed version places scope d) ≡ Ok last
  if_parts_met next after last met also rest = if_after_then next after met also ∙ rest

-- what the parts of an `if` spell is what it spells
pub if_read : (block : Spelling) (scope : Scope) (d : Data) (numbers tested after last : Numbers) (n : ℕ) (test : Test) (a : tree.Block)
    (b : Option tree.Block) → n ≡ label_number (if_label d) scope → (test, tested) ≡ test_of (subject_of (if_label d) scope) numbers d
    → (a, after) ≡ block scope tested (part (codes "then") d) → (b, last) ≡ block_of_if block scope after (get (codes "else") d)
    → (tree.If n test a (or_no_step b), last) ≡ if_of block scope numbers d
unfolding if_of
if_read block scope d numbers tested after last n test a b is e f g = rw (is, ← e, ← f, ← g) refl

-- ---- a subaction

module _ (version : ℕ) (places : Places) (scope earlier : Scope) (d : Data) (start : Counts) where
  abbrev sub_head : List Demand
  sub_head = sub_head_asked version scope earlier d

  abbrev body : Placed → Placed
  body = inside (member_named (codes "sub")) (places scope (part (codes "sub") d))

  abbrev handlers : Placed → Placed
  handlers = inside (member_named (codes "handlers")) (handlers_placed version places scope (handlers_in d))

  abbrev handler : Placed
  handler = inside (member_named (codes "handler")) (block_placed_if places scope (get (codes "handler") d)) nothing

  -- the first rule that isn't kept is before the blocks
  pub sub_head_failed : (e : Failure) → check start sub_head ≡ Err e → seek start (sub_placed version places scope earlier d)
      ≡ Err (found_here e)
  sub_head_failed e failed = sub_placed-is version places scope earlier d start
      ∙ own_unmet start e sub_head (body (handlers handler)) failed

  -- they decide
  sub_after_head : (next : Counts) → check start sub_head ≡ Ok next → seek start (sub_placed version places scope earlier d)
      ≡ seek next (body (handlers handler))
  sub_after_head next met = sub_placed-is version places scope earlier d start ∙ own_first start next sub_head (body (handlers handler)) met

  -- it is in the body
  pub sub_body_failed : (next : Counts) (found : Found) → check start sub_head ≡ Ok next → seek next (body nothing) ≡ Err found
      → seek start (sub_placed version places scope earlier d) ≡ Err found
  sub_body_failed next found met failed = sub_after_head next met
      ∙ inside_unmet next found (member_named (codes "sub")) (places scope (part (codes "sub") d)) (handlers handler) failed

  -- the handlers decide
  sub_after_body : (next after : Counts) → check start sub_head ≡ Ok next → seek next (body nothing) ≡ Ok after
      → seek start (sub_placed version places scope earlier d) ≡ seek after (handlers handler)
  sub_after_body next after met also = sub_after_head next met
      ∙ inside_met next after (member_named (codes "sub")) (places scope (part (codes "sub") d)) (handlers handler) also

  -- it is in the handlers by reason
  pub sub_handlers_failed : (next after : Counts) (found : Found) → check start sub_head ≡ Ok next → seek next (body nothing) ≡ Ok after
      → seek after (handlers nothing) ≡ Err found → seek start (sub_placed version places scope earlier d) ≡ Err found
  sub_handlers_failed next after found met also failed = sub_after_body next after met also
      ∙ inside_unmet after found (member_named (codes "handlers")) (handlers_placed version places scope (handlers_in d)) handler failed

  -- the handler decides
  sub_after_handlers : (next after last : Counts) → check start sub_head ≡ Ok next → seek next (body nothing) ≡ Ok after
      → seek after (handlers nothing) ≡ Ok last → seek start (sub_placed version places scope earlier d) ≡ seek last handler
  sub_after_handlers next after last met also taken = sub_after_body next after met also
      ∙ inside_met after last (member_named (codes "handlers")) (handlers_placed version places scope (handlers_in d)) handler taken

  -- it is in the handler
  pub sub_handler_failed : (next after last : Counts) (found : Found) → check start sub_head ≡ Ok next → seek next (body nothing) ≡ Ok after
      → seek after (handlers nothing) ≡ Ok last → seek last handler ≡ Err found
      → seek start (sub_placed version places scope earlier d) ≡ Err found
  sub_handler_failed next after last found met also taken failed = sub_after_handlers next after last met also taken ∙ failed

  -- there is none
  pub sub_parts_met : (next after last end_counts : Counts) → check start sub_head ≡ Ok next → seek next (body nothing) ≡ Ok after
      → seek after (handlers nothing) ≡ Ok last → seek last handler ≡ Ok end_counts
      → seek start (sub_placed version places scope earlier d) ≡ Ok end_counts
  sub_parts_met next after last end_counts met also taken rest = sub_after_handlers next after last met also taken ∙ rest

-- what the parts of a subaction spell is what it spells
pub sub_read : (block : Spelling) (scope : Scope) (d : Data) (numbers after between last : Numbers) (b : tree.Block)
    (hs : Option (List (ℕ × tree.Block))) (h : Option tree.Block) → (b, after) ≡ block scope numbers (part (codes "sub") d)
    → (hs, between) ≡ handlers_spelled block scope after (handlers_in d)
    → (h, last) ≡ block_of_if block scope between (get (codes "handler") d)
    → (tried b hs h (is_some (label_in d)), last) ≡ sub_of block scope numbers d
unfolding sub_of
sub_read block scope d numbers after between last b hs h e f g = rw (← e, ← f, ← g) refl

-- ---- a parallel step

module _ (version : ℕ) (places : Places) (scope : Scope) (d : Data) (start : Counts) where
  abbrev list : List Demand
  list = parallel_head_asked version d

  abbrev children : Placed
  children = inside (member_named (codes "parallel")) (children_placed version places scope [] 0 (children_in d)) nothing

  -- the first rule that isn't kept is before the children
  pub parallel_head_failed : (e : Failure) → check start list ≡ Err e → seek start (parallel_placed version places scope d)
      ≡ Err (found_here e)
  parallel_head_failed e failed = parallel_placed-is version places scope d start ∙ own_unmet start e list children failed

  -- they decide
  pub parallel_after_head : (next : Counts) → check start list ≡ Ok next → seek start (parallel_placed version places scope d)
      ≡ seek next children
  parallel_after_head next met = parallel_placed-is version places scope d start ∙ own_first start next list children met

-- ---- before the blocks

module _ (setting : Setting) (d : Data) (start : Counts) where
  abbrev operation_shape : List Demand
  operation_shape = operation_shape_asked setting.version d

  abbrev counted : List Demand
  counted = one_more_operation setting.version ∷ []

  abbrev target : List Demand
  target = target_asked setting (object_of (part (codes "op") d)) (call_named (part (codes "op") d))

  -- there are too many operations
  pub operation_count_failed : (e : Failure) → check start operation_shape ≡ Ok start → check start counted ≡ Err e
      → check start (operation_head_asked setting d) ≡ Err e
  unfolding operation_head_asked
  operation_count_failed e right failed = check_failed start e (operation_shape ++ counted) target
      (second_failed start start e operation_shape counted right failed)

module _ (version : ℕ) (scope : Scope) (d : Data) (start : Counts) where
  abbrev shape : List Demand
  shape = if_shape_asked d

  abbrev node : List Demand
  node = one_more_node version ∷ []

  abbrev named : List Demand
  named = seen_asked scope (if_label d)

  abbrev tested : List Demand
  tested = test_asked version (subject_of (if_label d) scope) d

  -- the shape of an `if` is wrong
  pub if_shape_failed : (e : Failure) → check start shape ≡ Err e → check start (if_head_asked version scope d) ≡ Err e
  unfolding if_head_asked
  if_shape_failed e failed = check_failed start e (shape ++ node ++ named) tested
      (check_failed start e (shape ++ node) named (check_failed start e shape node failed))

  -- there are too many steps
  pub if_node_failed : (e : Failure) → check start shape ≡ Ok start → check start node ≡ Err e
      → check start (if_head_asked version scope d) ≡ Err e
  unfolding if_head_asked
  if_node_failed e right failed = check_failed start e (shape ++ node ++ named) tested
      (check_failed start e (shape ++ node) named (second_failed start start e shape node right failed))

  -- its label is not seen
  pub if_label_failed : (counted : Counts) (e : Failure) → check start shape ≡ Ok start → check start node ≡ Ok counted
      → check counted named ≡ Err e → check start (if_head_asked version scope d) ≡ Err e
  unfolding if_head_asked
  if_label_failed counted e right one failed = check_failed start e (shape ++ node ++ named) tested
      (second_failed start counted e (shape ++ node) named (both_met start start counted shape node right one) failed)

  -- its test doesn't fit
  pub if_test_failed : (counted : Counts) (e : Failure) → check start shape ≡ Ok start → check start node ≡ Ok counted
      → check counted named ≡ Ok counted → check counted tested ≡ Err e → check start (if_head_asked version scope d) ≡ Err e
  unfolding if_head_asked
  if_test_failed counted e right one seen failed = second_failed start counted e (shape ++ node ++ named) tested
      (both_met start counted counted (shape ++ node) named (both_met start start counted shape node right one) seen) failed

  -- all of it is met
  pub if_head_met : (counted : Counts) → check start shape ≡ Ok start → check start node ≡ Ok counted
      → check counted named ≡ Ok counted → check counted tested ≡ Ok counted → check start (if_head_asked version scope d) ≡ Ok counted
  unfolding if_head_asked
  if_head_met counted right one seen fits = both_met start counted counted (shape ++ node ++ named) tested
      (both_met start counted counted (shape ++ node) named (both_met start start counted shape node right one) seen) fits

module _ (version : ℕ) (scope earlier : Scope) (d : Data) (start : Counts) where
  abbrev sub_shape : List Demand
  sub_shape = sub_shape_asked version d

  abbrev sub_node : List Demand
  sub_node = one_more_node version ∷ []

  abbrev sub_named : List Demand
  sub_named = label_asked version scope earlier (label_in d)

  -- the shape of a subaction is wrong
  pub sub_shape_failed : (e : Failure) → check start sub_shape ≡ Err e → check start (sub_head_asked version scope earlier d) ≡ Err e
  unfolding sub_head_asked
  sub_shape_failed e failed = check_failed start e (sub_shape ++ sub_node) sub_named (check_failed start e sub_shape sub_node failed)

  -- there are too many steps
  pub sub_node_failed : (e : Failure) → check start sub_shape ≡ Ok start → check start sub_node ≡ Err e
      → check start (sub_head_asked version scope earlier d) ≡ Err e
  unfolding sub_head_asked
  sub_node_failed e right failed = check_failed start e (sub_shape ++ sub_node) sub_named
      (second_failed start start e sub_shape sub_node right failed)

  -- its label is no new name
  pub sub_label_failed : (counted : Counts) (e : Failure) → check start sub_shape ≡ Ok start → check start sub_node ≡ Ok counted
      → check counted sub_named ≡ Err e → check start (sub_head_asked version scope earlier d) ≡ Err e
  unfolding sub_head_asked
  sub_label_failed counted e right one failed = second_failed start counted e (sub_shape ++ sub_node) sub_named
      (both_met start start counted sub_shape sub_node right one) failed

  -- all of it is met
  pub sub_head_met : (counted : Counts) → check start sub_shape ≡ Ok start → check start sub_node ≡ Ok counted
      → check counted sub_named ≡ Ok counted → check start (sub_head_asked version scope earlier d) ≡ Ok counted
  unfolding sub_head_asked
  sub_head_met counted right one new = both_met start counted counted (sub_shape ++ sub_node) sub_named
      (both_met start start counted sub_shape sub_node right one) new

-- ---- a key and its item

-- the first rule that isn't kept is one on the names
pub pair_names_failed : (version : ℕ) (earlier : Table) (d : Data) (start : Counts) (e : Failure)
    → check start (pair_names_asked version d) ≡ Err e → check start (pair_asked version earlier d) ≡ Err e
unfolding pair_asked pair_names_asked new_start_asked
pair_names_failed version earlier d start e failed =
    check_failed start e (pair_names_asked version d) (new_start_asked version (Start NewKey) earlier (key_of d)) failed
