-- How the words of a reading say what demands with their places say.
use Rattle.std.proofs.Common.{◌≡◌, ℕ, ◌+◌, List, ◌∷◌, Bool, true, false, Option, None, Some, Result, Ok, Err, refl, ap, ◌∙◌}
use Rattle.std.specs.Result.{result_map_both}
use Rattle.serde_json.specs.Data.{Data, Items, no_items, item}
use Rattle.doc_rules.specs.declared.failure.Failure.{Failure}
use Rattle.doc_rules.specs.declared.rule.Rule.{Rule}
use Rattle.doc_tree.specs.declared.counts.Counts.{Counts}
use Rattle.doc_tree.specs.Demand.{Demand, check_one}
use Rattle.doc_tree.specs.Places.{Found, PathStep, below, found_here, found_inside, go_on, here, item_at}
use Rattle.doc_tree.specs.Scope.{Numbers}
use Rattle.doc_language.specs.Reading.{Reading, Seen, after, asks, counted, each, breaks, inside, needs, then_read}

-- these counts and numbers
abbrev pub seen_of : Counts → Numbers → Seen
seen_of c n = record { counts = c; numbers = n }

-- what was found, and what is spelled where that is no fault
abbrev pub answer : {A : Type 0} → Result Counts Found → A → Numbers → Result (A × Seen) Found
answer (Ok c) x n = Ok (x, seen_of c n)
answer (Err found) x n = Err found

-- in either case of a test
pub by_test : {X : Type 0} (b : Bool) → (b ≡ true → X) → (b ≡ false → X) → X
by_test true yes_case no_case = yes_case refl
by_test false yes_case no_case = no_case refl

-- A word and the rest say what is right, where they do in each case of what the word looks at.
module _ {A : Type 0} {right : Result (A × Seen) Found} where
  -- a test
  pub asks_is : {rule : Rule} {seen : Seen} (b : Bool) (rest : Reading A) → (b ≡ false → breaks rule seen ≡ right)
      → (b ≡ true → rest seen ≡ right) → asks b rule rest seen ≡ right
  asks_is true rest unmet met = met refl
  asks_is false rest unmet met = unmet refl

  -- what has to be there
  pub needs_is : {B : Type 0} {rule : Rule} {seen : Seen} (o : Option B) (rest : B → Reading A) → (o ≡ None → breaks rule seen ≡ right)
      → ((x : B) → o ≡ Some x → rest x seen ≡ right) → needs o rule rest seen ≡ right
  needs_is None rest absent there = absent refl
  needs_is (Some x) rest absent there = there x refl

  -- by what the count gives
  count_is : (r : Result Counts Failure) (rest : Reading A) (seen : Seen) → ((e : Failure) → r ≡ Err e → Err (found_here e) ≡ right)
      → ((c : Counts) → r ≡ Ok c → rest (seen_of c seen.numbers) ≡ right)
      → then_read (here r) (λ c. rest (seen_of c seen.numbers)) ≡ right
  count_is (Ok c) rest seen over within = within c refl
  count_is (Err e) rest seen over within = over e refl

  -- one more of what is counted
  pub counted_is : (demand : Demand) (rest : Reading A) (seen : Seen)
      → ((e : Failure) → check_one seen.counts demand ≡ Err e → Err (found_here e) ≡ right)
      → ((c : Counts) → check_one seen.counts demand ≡ Ok c → rest (seen_of c seen.numbers) ≡ right) → counted demand rest seen ≡ right
  unfolding counted
  counted_is demand rest seen over within = count_is (check_one seen.counts demand) rest seen over within

  -- by what a part gives
  read_is : {B : Type 0} (r : Result Counts Found) (x : B) (n : Numbers) (rest : B → Reading A)
      → ((found : Found) → r ≡ Err found → Err found ≡ right) → ((c : Counts) → r ≡ Ok c → rest x (seen_of c n) ≡ right)
      → then_read (answer r x n) (λ read. rest read.0 read.1) ≡ right
  read_is (Ok c) x n rest failed met = met c refl
  read_is (Err found) x n rest failed met = failed found refl

  -- a part that gives this answer
  pub after_is : {B : Type 0} (part : Reading B) (rest : B → Reading A) {seen : Seen} (r : Result Counts Found) {x : B} {n : Numbers}
      → part seen ≡ answer r x n → ((found : Found) → r ≡ Err found → Err found ≡ right)
      → ((c : Counts) → r ≡ Ok c → rest x (seen_of c n) ≡ right) → after part rest seen ≡ right
  after_is part rest r {x} {n} gives failed met =
      ap (λ p. then_read p (λ read. rest read.0 read.1)) gives ∙ read_is r x n rest failed met

  -- by what the demands on the value itself give
  check_after : {B : Type 0} (r : Result Counts Failure) (x : B) (n : Numbers) (rest : B → Reading A)
      → ((e : Failure) → r ≡ Err e → Err (found_here e) ≡ right) → ((c : Counts) → r ≡ Ok c → rest x (seen_of c n) ≡ right)
      → then_read (answer (here r) x n) (λ read. rest read.0 read.1) ≡ right
  check_after (Ok c) x n rest failed met = met c refl
  check_after (Err e) x n rest failed met = failed e refl

  -- the same of a part that asks no more than demands on the value itself
  pub check_is : {B : Type 0} (part : Reading B) (rest : B → Reading A) {seen : Seen} (r : Result Counts Failure) {x : B} {n : Numbers}
      → part seen ≡ answer (here r) x n → ((e : Failure) → r ≡ Err e → Err (found_here e) ≡ right)
      → ((c : Counts) → r ≡ Ok c → rest x (seen_of c n) ≡ right) → after part rest seen ≡ right
  check_is part rest r {x} {n} gives failed met =
      ap (λ p. then_read p (λ read. rest read.0 read.1)) gives ∙ check_after r x n rest failed met

  -- by what a part in its place gives
  inside_after : {B : Type 0} (token : PathStep) (r : Result Counts Found) (x : B) (n : Numbers) (rest : B → Reading A)
      → ((found : Found) → r ≡ Err found → Err (found_inside token found) ≡ right)
      → ((c : Counts) → r ≡ Ok c → rest x (seen_of c n) ≡ right)
      → then_read (result_map_both (λ read. read) (found_inside token) (answer r x n)) (λ read. rest read.0 read.1) ≡ right
  inside_after token (Ok c) x n rest failed met = met c refl
  inside_after token (Err found) x n rest failed met = failed found refl

  -- a part in its place that gives this answer
  pub inside_is : {B : Type 0} (token : PathStep) (part : Reading B) (rest : B → Reading A) {seen : Seen} (r : Result Counts Found) {x : B}
      {n : Numbers} → part seen ≡ answer r x n → ((found : Found) → r ≡ Err found → Err (found_inside token found) ≡ right)
      → ((c : Counts) → r ≡ Ok c → rest x (seen_of c n) ≡ right) → inside token part rest seen ≡ right
  inside_is token part rest r {x} {n} gives failed met =
      ap (λ p. then_read (result_map_both (λ read. read) (found_inside token) p) (λ read. rest read.0 read.1)) gives
      ∙ inside_after token r x n rest failed met

-- what the items of an array leave
abbrev pub left_by : {S : Type 0} → (S → Data → S) → S → Items → S
left_by next s no_items = s
left_by next s (item d ds) = left_by next (next s d) ds

-- an item of an array, and those after it
pub each_is : {A S : Type 0} (part : S → Data → Reading (A × S)) (i : ℕ) (s : S) (d : Data) (ds : Items) (seen : Seen)
    (one : Result Counts Found) (rest : Counts → Result Counts Found) (x : A × S) (n : Numbers) (xs : List A × S) (m : Numbers)
    → part s d seen ≡ answer one x n → ((c : Counts) → each part (i + 1) x.1 ds (seen_of c n) ≡ answer (rest c) xs m)
    → each part i s (item d ds) seen ≡ answer (go_on (below (item_at i) one) rest) (x.0 ∷ xs.0, xs.1) m
each_is part i s d ds seen one rest x n xs m gives later =
    inside_is (item_at i) (part s d) _ one gives (λ found failed. rw failed) (λ c met. rw met (
    after_is (each part (i + 1) x.1 ds) _ (rest c) (later c) (λ found failed. rw failed) (λ c met. rw met)))
