-- Demands with their places, a place at a time.
use Rattle.std.specs.Result.{IfErr, IsErrAnd}
use Rattle.std.proofs.Common.{◌≡◌, ◌≢◌, ℕ, List, [], ◌∷◌, ◌++◌, None, Result, Ok, Err, sym, ap, ap₂, ◌∙◌}
use Rattle.batch.specs.Names.{is_name}
use Rattle.serde_json.specs.Data.{Data}
use Rattle.doc_rules.specs.declared.failure.Failure.{Failure}
use Rattle.doc_rules.specs.declared.failure.Failure.TheVariants.{NoMemory}
use Rattle.doc_rules.specs.declared.rule.NameRule.TheVariants.{Handlers}
use Rattle.doc_rules.specs.declared.rule.Rule.TheVariants.{Name}
use Rattle.doc_tree.specs.declared.counts.Counts.{Counts}
use Rattle.doc_tree.specs.declared.unmet.Unmet.{Unmet}
use Rattle.doc_tree.specs.Answer.{IsFirst, IsFound, found_of, pointer_text}
use Rattle.doc_tree.specs.Demand.{Demand, check, holds}
use Rattle.doc_tree.specs.Places.{Found, Placed, Places, PathStep, below, found_here, found_inside, go_on, here, inside, item_at, itself}
use Rattle.doc_tree.specs.Places.{member_named, member_placed, nothing, seek}
use Rattle.doc_tree.specs.Scope.{Scope}
use Rattle.doc_tree.proofs.Checks.{and_check, check-after, check-append, failed-before}

-- the demands on the value itself are all
pub own_met : (c next : Counts) (ds : List Demand) → check c ds ≡ Ok next → seek c (itself ds nothing) ≡ Ok next
own_met c next ds met = ap (λ r. go_on (here r) (λ n. Ok n)) met

pub own_unmet : (c : Counts) (e : Failure) (ds : List Demand) (rest : Placed) → check c ds ≡ Err e
    → seek c (itself ds rest) ≡ Err (found_here e)
own_unmet c e ds rest failed = ap (λ r. go_on (here r) (λ n. seek n rest)) failed

-- where those on the value itself are met, the rest decides
pub own_first : (c next : Counts) (ds : List Demand) (rest : Placed) → check c ds ≡ Ok next → seek c (itself ds rest) ≡ seek next rest
own_first c next ds rest met = ap (λ r. go_on (here r) (λ n. seek n rest)) met

own_rest : (r : Result Counts Failure) (ys : List Demand) (rest : Placed) → go_on (here r) (λ next. seek next (itself ys rest))
    ≡ go_on (here (and_check r ys)) (λ next. seek next rest)
own_rest (Ok c) ys rest = ap (λ r. go_on (here r) (λ next. seek next rest)) (sym (check-after c ys))
own_rest (Err e) ys rest = ap (λ r. go_on (here r) (λ next. seek next rest)) (sym (failed-before e ys))

-- two lists of demands on a value are one
pub own_both : (c : Counts) (xs ys : List Demand) (rest : Placed)
    → seek c (itself xs (itself ys rest)) ≡ seek c (itself (xs ++ ys) rest)
own_both c xs ys rest = own_rest (check c xs) ys rest ∙ ap (λ r. go_on (here r) (λ next. seek next rest)) (sym (check-append c xs ys))

-- where those on the first part are met, the rest decides
pub part_met : (c next : Counts) (token : PathStep) (part rest : Placed) → seek c part ≡ Ok next → seek c (inside token part rest)
    ≡ seek next rest
part_met c next token part rest met = ap (λ r. go_on (below token r) (λ n. seek n rest)) met

-- where one on the first part is not met, it is the first of all
pub part_unmet : (c : Counts) (found : Found) (token : PathStep) (part rest : Placed) → seek c part ≡ Err found
    → seek c (inside token part rest) ≡ Err (found_inside token found)
part_unmet c found token part rest failed = ap (λ r. go_on (below token r) (λ n. seek n rest)) failed

ended : (r : Result Counts Found) (next : Counts) (f : Counts → Result Counts Found) → go_on r (λ n. Ok n) ≡ Ok next → go_on r f ≡ f next
ended (Ok c) next f is = let same : c ≡ next = cc in ap f same
ended (Err found) next f is = cc

stopped : (r : Result Counts Found) (found : Found) (f : Counts → Result Counts Found) → go_on r (λ n. Ok n) ≡ Err found
    → go_on r f ≡ Err found
stopped (Ok c) found f is = cc
stopped (Err other) found f is = is

-- the same where the part is looked at in its place
pub inside_met : (c next : Counts) (token : PathStep) (part rest : Placed) → seek c (inside token part nothing) ≡ Ok next
    → seek c (inside token part rest) ≡ seek next rest
inside_met c next token part rest met = ended (below token (seek c part)) next (λ n. seek n rest) met

pub inside_unmet : (c : Counts) (found : Found) (token : PathStep) (part rest : Placed) → seek c (inside token part nothing) ≡ Err found
    → seek c (inside token part rest) ≡ Err found
inside_unmet c found token part rest failed = stopped (below token (seek c part)) found (λ n. seek n rest) failed

over_met : (r : Result Counts Failure) (next : Counts) (token : PathStep) (part rest : Placed)
    → go_on (here r) (λ n. seek n (inside token part nothing)) ≡ Ok next → go_on (here r) (λ n. seek n (inside token part rest))
    ≡ seek next rest
over_met (Ok n) next token part rest met = inside_met n next token part rest met
over_met (Err e) next token part rest met = cc

over_unmet : (r : Result Counts Failure) (found : Found) (token : PathStep) (part rest : Placed)
    → go_on (here r) (λ n. seek n (inside token part nothing)) ≡ Err found → go_on (here r) (λ n. seek n (inside token part rest))
    ≡ Err found
over_unmet (Ok n) found token part rest failed = inside_unmet n found token part rest failed
over_unmet (Err e) found token part rest failed = failed

-- the same of a handler by reason
module _ (c : Counts) (version : ℕ) (places : Places) (scope : Scope) (reason : List ℕ) (d : Data) (rest : Placed) where
  pub member_met : (next : Counts) → seek c (member_placed version places scope reason d nothing) ≡ Ok next
      → seek c (member_placed version places scope reason d rest) ≡ seek next rest
  member_met next met =
      over_met (check c (holds (is_name version reason) (Name version Handlers) ∷ [])) next (member_named reason) (places scope d) rest met

  pub member_unmet : (found : Found) → seek c (member_placed version places scope reason d nothing) ≡ Err found
      → seek c (member_placed version places scope reason d rest) ≡ Err found
  member_unmet found failed =
      over_unmet (check c (holds (is_name version reason) (Name version Handlers) ∷ [])) found (member_named reason) (places scope d)
      rest failed

-- ---- what is returned of a demand that is not met

-- what is found at a value itself has no pointer
pub found_plain : (u : Unmet) (e : Failure) → u.failure ≡ e → u.pointer ≡ None → found_here e ≡ found_of u
found_plain u e at none =
    let make : Failure → List ℕ → Found = λ f p. record { failure = f; pointer = p } in
    ap₂ make (sym at) (sym (ap pointer_text none))

-- the first demand of a part is the first of the value that it is in
pub found_in : (c : Counts) (token : PathStep) (part rest : Placed) (unmet outer : Unmet)
    → (outer.failure ≢ NoMemory → (unmet.failure ≢ NoMemory) × (found_of outer ≡ found_inside token (found_of unmet)))
    → IsFound c part unmet → IsFound c (inside token part rest) outer
found_in c token part rest unmet outer told found other =
    part_unmet c (found_of unmet) token part rest (found (told other).0) ∙ ap (λ e. Err e) (sym (told other).1)

-- the same of an entry that is asked as a whole
pub entry_unmet : (c : Counts) (i : ℕ) (asked : List Demand) (rest : Placed) (failure : Failure) (unmet outer : Unmet)
    → (unmet.failure ≡ failure) × (unmet.pointer ≡ None)
    → (outer.failure ≢ NoMemory → (unmet.failure ≢ NoMemory) × (found_of outer ≡ found_inside (item_at i) (found_of unmet)))
    → IsFirst c asked failure → IsFound c (inside (item_at i) (itself asked nothing) rest) outer
entry_unmet c i asked rest failure unmet outer from told first =
    found_in c (item_at i) (itself asked nothing) rest unmet outer told (λ other.
    own_unmet c failure asked nothing (first (λ same. other (from.0 ∙ same)))
    ∙ ap (λ e. Err e) (found_plain unmet failure from.0 from.1))

-- the failure of a value itself, as a `?` makes a demand of it
pub raised : {T : Type 0} (r : Result T Unmet) (c : Counts) (asked : Placed) (failure : Failure)
    → IsErrAnd r (λ unmet. (unmet.failure ≡ failure) × (unmet.pointer ≡ None))
    → (failure ≢ NoMemory → seek c asked ≡ Err (found_here failure)) → IfErr r (IsFound c asked)
raised (Ok x) c asked failure from first = tt
raised (Err unmet) c asked failure from first = λ other. first (λ same. other (from.0 ∙ same))
    ∙ ap (λ e. Err e) (found_plain unmet failure from.0 from.1)

-- a call that may only be refused memory
pub refused : {T : Type 0} (r : Result T Unmet) (c : Counts) (asked : Placed) → IsErrAnd r (λ unmet. unmet.failure ≡ NoMemory)
    → IfErr r (IsFound c asked)
refused (Ok x) c asked none = tt
refused (Err unmet) c asked none = λ other. absurd (other none)
