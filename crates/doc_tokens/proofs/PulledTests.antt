-- Conditions and aborts that were pulled from tokens.
use Rattle.std.proofs.Common.{◌≡◌, ℕ, true, ℤ, List, [], ◌∷◌, ◌++◌, Option, None, Some, refl, ap, ◌∙◌}
use Rattle.std.specs.Prelude.{codes}
use Rattle.serde_json.specs.Data.{Data, Num, number, string}
use Rattle.serde_json.specs.Find.{as_i64, as_str, get}
use Rattle.meaning.specs.declared.test.Test.{Test}
use Rattle.meaning.specs.declared.test.Test.TheVariants.{Is, AtLeast, IsItem}
use Rattle.vocabulary.specs.declared.word.Word.{Word}
use Rattle.meaning.specs.Trees as tree
use Rattle.atoms.specs.declared.item.Item.{Item}
use Rattle.doc_tree.specs.declared.counts.Counts.{Counts}
use Rattle.doc_tree.specs.declared.steps.Sort.TheVariants.{If, Abort}
use Rattle.doc_rules.specs.declared.rule.NameRule.TheVariants.{Reason}
use Rattle.doc_rules.specs.declared.subject.Subject.{Subject}
use Rattle.doc_tree.specs.Answer.{AreMet, IsMet}
use Rattle.doc_tree.specs.Asked.{abort_asked, abort_shape_asked, if_label, if_shape_asked, is_abort, part}
use Rattle.doc_tree.specs.Asked.{reason_asked, scope_after, seen_asked, sort_of, subject_of, test_asked}
use Rattle.doc_tree.specs.Demand.{one_more_node}
use Rattle.doc_tokens.specs.Pulled.{TestKey, abort_step, if_step}
use Rattle.doc_tokens.specs.Pulled.TestKey.{word, least, entry}
use Rattle.doc_tree.specs.Scope.{Numbers, Scope, Setting, label_number, with_item}
use Rattle.doc_tree.specs.Spelled.{Spelling, abort_of, block_of_if, if_of, item_of, or_no_step, reason_of, spelled_map, step_of, test_of}
use Rattle.batch.specs.Names.{is_name}
use Rattle.doc_rules.specs.Subjects.{fits_item, fits_number, fits_word}
use Rattle.vocabulary.specs.Words.{word_of_text}
use Rattle.doc_tree.proofs.Checks.{check_met}
use Rattle.doc_tree.specs.Places.{Places, block_placed_if, if_placed, inside, itself, member_named, nothing, step_placed}
use Rattle.doc_tree.proofs.PlaceLemmas.{own_first, own_met, part_met}

-- ---- the test

module _ (subject : Subject) (label : List ℕ) (first : Data) where
  -- a word that fits is as asked
  pub word_met : (version : ℕ) (s : List ℕ) (w : Word) (second : Option Data) (counts : Counts) → word_of_text s ≡ Some w
      → fits_word subject w ≡ true
      → IsMet counts (test_asked version subject (if_step label word (string s) first second)) counts
  unfolding test_asked
  word_met version s w None counts e fits = rw (e, fits) refl
  word_met version s w (Some d) counts e fits = rw (e, fits) refl

  -- and is the test
  pub word_spelled : (s : List ℕ) (w : Word) (second : Option Data) (numbers : Numbers) → word_of_text s ≡ Some w
      → fits_word subject w ≡ true → (Is w, numbers) ≡ test_of subject numbers (if_step label word (string s) first second)
  unfolding test_of
  word_spelled s w None numbers e fits = rw (e, fits) refl
  word_spelled s w (Some d) numbers e fits = rw (e, fits) refl

  -- a number, where one fits, is as asked
  pub least_met : (version : ℕ) (x : Num) (n : ℤ) (second : Option Data) (counts : Counts) → as_i64 x ≡ Some n
      → fits_number subject ≡ true
      → IsMet counts (test_asked version subject (if_step label least (number x) first second)) counts
  unfolding test_asked
  least_met version x n None counts e fits = rw (e, fits) refl
  least_met version x n (Some d) counts e fits = rw (e, fits) refl

  -- and is the test
  pub least_spelled : (x : Num) (n : ℤ) (second : Option Data) (numbers : Numbers) → as_i64 x ≡ Some n
      → (AtLeast n, numbers) ≡ test_of subject numbers (if_step label least (number x) first second)
  unfolding test_of
  least_spelled x n None numbers e = rw e refl
  least_spelled x n (Some d) numbers e = rw e refl

  -- an item, where one fits, is as asked
  pub entry_met : (version : ℕ) (s : List ℕ) (second : Option Data) (counts : Counts) → is_name version s ≡ true
      → fits_item subject ≡ true
      → IsMet counts (test_asked version subject (if_step label entry (string s) first second)) counts
  unfolding test_asked
  entry_met version s None counts e fits = rw (e, fits) refl
  entry_met version s (Some d) counts e fits = rw (e, fits) refl

  -- and is the test
  pub entry_spelled : (s : List ℕ) (x : Item) (second : Option Data) (numbers after : Numbers) → x ≡ item_of s numbers
      → after ≡ with_item s numbers
      → (IsItem x, after) ≡ test_of subject numbers (if_step label entry (string s) first second)
  unfolding test_of
  entry_spelled s x None numbers after e f = rw (e, f) refl
  entry_spelled s x (Some d) numbers after e f = rw (e, f) refl

-- ---- the condition

module _ (label : List ℕ) (v first : Data) where
  -- such a step is a condition
  if_sort : (key : TestKey) (second : Option Data) → sort_of (if_step label key v first second) ≡ Some If
  unfolding sort_of
  if_sort word None = refl
  if_sort word (Some d) = refl
  if_sort least None = refl
  if_sort least (Some d) = refl
  if_sort entry None = refl
  if_sort entry (Some d) = refl

  -- its shape is as asked
  if_shape : (key : TestKey) (second : Option Data) (counts : Counts)
      → IsMet counts (if_shape_asked (if_step label key v first second)) counts
  unfolding if_shape_asked
  if_shape word None counts = refl
  if_shape word (Some d) counts = refl
  if_shape least None counts = refl
  if_shape least (Some d) counts = refl
  if_shape entry None counts = refl
  if_shape entry (Some d) counts = refl

  -- its parts are found at their keys
  if_name : (key : TestKey) (second : Option Data) → if_label (if_step label key v first second) ≡ label
  if_name word None = refl
  if_name word (Some d) = refl
  if_name least None = refl
  if_name least (Some d) = refl
  if_name entry None = refl
  if_name entry (Some d) = refl

  -- the first branch
  if_first : (key : TestKey) (second : Option Data) → part (codes "then") (if_step label key v first second) ≡ first
  if_first word None = refl
  if_first word (Some d) = refl
  if_first least None = refl
  if_first least (Some d) = refl
  if_first entry None = refl
  if_first entry (Some d) = refl

  -- the second branch
  if_second : (key : TestKey) (second : Option Data) → get (codes "else") (if_step label key v first second) ≡ second
  if_second word None = refl
  if_second word (Some d) = refl
  if_second least None = refl
  if_second least (Some d) = refl
  if_second entry None = refl
  if_second entry (Some d) = refl

module _ (setting : Setting) (scope : Scope) (label : List ℕ) (key : TestKey) (v first : Data) (second : Option Data) where
  abbrev whole : Data
  whole = if_step label key v first second

  -- what is asked of the parts is what is asked of the whole
  pub if_met : (places : Places) (start counted inside_counts next : Counts) → IsMet start (one_more_node setting.version ∷ []) counted
      → IsMet counted (seen_asked scope label) counted → IsMet counted (test_asked setting.version (subject_of label scope) whole) counted
      → AreMet counted (places scope first) inside_counts → AreMet inside_counts (block_placed_if places scope second) next
      → AreMet start (step_placed places setting scope whole) next
  unfolding step_placed if_placed
  if_met places start counted inside_counts next one seen test met later =
      let last = inside (member_named (codes "else")) (block_placed_if places scope second) nothing in
      let branches = inside (member_named (codes "then")) (places scope first) last in
      let named = seen_asked scope label in
      let tested = test_asked setting.version (subject_of label scope) whole in
      rw (
        if_sort label v first key second,
        if_name label v first key second,
        if_first label v first key second,
        if_second label v first key second,
      )
      (own_first start start (if_shape_asked whole) (itself (one_more_node setting.version ∷ []) (itself named (itself tested branches)))
      (if_shape label v first key second start)
      ∙ own_first start counted (one_more_node setting.version ∷ []) (itself named (itself tested branches)) one
      ∙ own_first counted counted named (itself tested branches) seen
      ∙ own_first counted counted tested branches test
      ∙ part_met counted inside_counts (member_named (codes "then")) (places scope first) last met
      ∙ part_met inside_counts next (member_named (codes "else")) (block_placed_if places scope second) nothing later)

  -- what the parts spell is what the whole spells
  pub if_spelled : (block : Spelling) (numbers tested after last : Numbers) (test : Test) (a b : tree.Block)
      → (test, tested) ≡ test_of (subject_of label scope) numbers whole → (a, after) ≡ block scope tested first
      → (b, last) ≡ spelled_map or_no_step (block_of_if block scope after second)
      → (tree.If (label_number label scope) test a b, last) ≡ step_of block setting scope numbers whole
  unfolding step_of if_of
  if_spelled block numbers tested after last test a b e f g =
      rw (
        if_sort label v first key second,
        if_name label v first key second,
        if_first label v first key second,
        if_second label v first key second,
        ← e,
        ← f,
      )
      (ap (spelled_map (tree.If (label_number label scope) test a)) g)

  -- the same labels are seen after it
  pub if_scope : scope_after setting scope whole ≡ scope
  unfolding scope_after
  if_scope = rw (if_sort label v first key second) refl

-- ---- aborts

-- such a step is an abort
abort_sort : (reason : Option (List ℕ)) → sort_of (abort_step reason) ≡ Some Abort
unfolding sort_of
abort_sort None = refl
abort_sort (Some r) = refl

-- its reason is found
abort_reason : (reason : Option (List ℕ)) → as_str (part (codes "abort") (abort_step reason)) ≡ reason
abort_reason None = refl
abort_reason (Some r) = refl

-- its shape is as asked, where the version has reasons
abort_shape : (reason : Option (List ℕ)) (version : ℕ) (start counted : Counts)
    → is_abort version (part (codes "abort") (abort_step reason)) ≡ true
    → IsMet start (one_more_node version ∷ []) counted → IsMet start (abort_shape_asked version (abort_step reason)) counted
unfolding abort_shape_asked
abort_shape None version start counted may one = one
abort_shape (Some r) version start counted may one = rw may one

module _ (setting : Setting) (scope : Scope) (reason : Option (List ℕ)) where
  -- what is asked of an abort
  pub abort_met : (places : Places) (start counted next : Counts)
      → is_abort setting.version (part (codes "abort") (abort_step reason)) ≡ true
      → IsMet start (one_more_node setting.version ∷ []) counted → IsMet counted (reason_asked setting.version Reason reason) next
      → AreMet start (step_placed places setting scope (abort_step reason)) next
  unfolding step_placed abort_asked
  abort_met places start counted next may one met =
      let shape = abort_shape_asked setting.version (abort_step reason) in
      let named = reason_asked setting.version Reason reason in
      rw (abort_sort reason, abort_reason reason) (own_met start next (shape ++ named)
      (check_met start counted shape named (abort_shape reason setting.version start counted may one) ∙ met))

  -- what an abort spells
  pub abort_spelled : (block : Spelling) (numbers after : Numbers) (n : Option ℕ) → (n, after) ≡ reason_of numbers reason
      → (tree.Abort n, after) ≡ step_of block setting scope numbers (abort_step reason)
  unfolding step_of abort_of
  abort_spelled block numbers after n e = rw (abort_sort reason, abort_reason reason) (ap (spelled_map tree.Abort) e)

  -- the same labels are seen after it
  pub abort_scope : scope_after setting scope (abort_step reason) ≡ scope
  unfolding scope_after
  abort_scope = rw (abort_sort reason) refl
