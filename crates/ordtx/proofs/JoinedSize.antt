-- How many objects a next document has with those that are carried into it.
use Rattle.std.proofs.Common.{◌≡◌, ℕ, ◌+◌, ◌≤◌, Bool, true, false, cond, List, [], ◌∷◌, length, arith}
use Rattle.std.proofs.lemmas.List.{length-append}
use Rattle.batch.specs.Names.{names_of}
use Rattle.objects.specs.Entries.{State}
use Rattle.doc_tree.specs.Scope.{Table, is_listed}
use Rattle.carry.specs.Joined.{Named, StartOf, added, joined, own, start_of}

own_length : (first next : Named) (n : ℕ) (values : State) → length (own first next n values) ≡ length values
own_length first next n [] = omega arith
own_length first next n (v ∷ values) = omega (arith, own_length first next (n + 1) values)

unless_listed : (b : Bool) (s : StartOf) (rest : List StartOf) (n : ℕ) → length rest ≤ n → length (cond b rest (s ∷ rest)) ≤ n + 1
unless_listed true s rest n few = omega (arith, few)
unless_listed false s rest n few = omega (arith, few)

added_length : (first : Named) (known : Table) (n : ℕ) (values : State) → length (added first known n values) ≤ length values
added_length first known n [] = omega arith
added_length first known n (v ∷ values) =
    let fewer = unless_listed (is_listed ((names_of first.texts).object n) known) (start_of first n v) (added first known (n + 1) values)
    (length values) (added_length first known (n + 1) values) in
    omega (arith, fewer)

pub joined_length : (first next : Named) → length (joined first next) ≤ length next.values + length first.values
joined_length first next = omega (
  arith,
  length-append (own first next 0 next.values) (added first next.texts.objects 0 first.values),
  own_length first next 0 next.values,
  added_length first next.texts.objects 0 first.values,
)
