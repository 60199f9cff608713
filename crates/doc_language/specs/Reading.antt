-- What reading a part of a document is: what is asked of it and what it spells, said together and in the order in which faults
-- are found.
use Rattle.std.specs.Prelude.{ℕ, ◌+◌, Bool, true, false, List, [], ◌∷◌, Option, Some, None, Result, Ok, Err}
use Rattle.std.specs.Result.{result_map_both}
use Rattle.serde_json.specs.Data.{Data, Items, no_items, item}
use Rattle.atoms.specs.declared.item.Item.{Item}
use Rattle.batch.specs.Names.{is_name}
use Rattle.doc_rules.specs.declared.rule.NameRule.{NameRule}
use Rattle.doc_rules.specs.declared.rule.Rule.{Rule}
use Rattle.doc_rules.specs.declared.rule.Rule.TheVariants.{Name}
use Rattle.doc_tree.specs.declared.counts.Counts.{Counts}
use Rattle.doc_tree.specs.Demand.{Demand, broken_at, check_one, no_counts}
use Rattle.doc_tree.specs.Places.{Found, PathStep, found_here, found_inside, here, item_at}
use Rattle.doc_tree.specs.Scope.{Numbers, no_numbers, number_of, with_item, with_reason}

-- what was counted, and the texts that are numbered
pub record Seen : Type 0 where
  pub counts : Counts
  pub numbers : Numbers

abbrev pub nothing_seen : Seen
nothing_seen = record { counts = no_counts; numbers = no_numbers }

-- After what was seen before, a part spells something, and more is seen. Or there is a first rule that isn't kept, at a place in
-- the part.
abbrev pub Reading : Type 0 → Type 0
Reading A = Seen → Result (A × Seen) Found

-- a part that spells this, after which no more is seen than before
abbrev pub spells : {A : Type 0} → A → Reading A
spells x seen = Ok (x, seen)

-- a rule that the part itself doesn't keep
abbrev pub breaks : {A : Type 0} → Rule → Reading A
breaks rule seen = Err (found_here (broken_at rule seen.counts))

-- a test, before the rest
abbrev pub asks : {A : Type 0} → Bool → Rule → Reading A → Reading A
asks true rule rest = rest
asks false rule rest = breaks rule

-- what has to be there, for the rest
abbrev pub needs : {A B : Type 0} → Option B → Rule → (B → Reading A) → Reading A
needs None rule rest = breaks rule
needs (Some x) rule rest = rest x

-- what a result has, for the rest; or what was found
abbrev pub then_read : {A B : Type 0} → Result B Found → (B → Result A Found) → Result A Found
then_read (Ok x) rest = rest x
then_read (Err found) rest = Err found

-- one more of what is counted towards a limit, or the mark where a transaction begins; and then the rest
unfoldable pub counted : {A : Type 0} → Demand → Reading A → Reading A
counted demand rest seen = then_read (here (check_one seen.counts demand)) (λ counts. rest (record seen { counts = counts }))

-- a part, and then the rest
abbrev pub after : {A B : Type 0} → Reading B → (B → Reading A) → Reading A
after part rest seen = then_read (part seen) (λ read. rest read.0 read.1)

-- a part at this place, and then the rest
abbrev pub inside : {A B : Type 0} → PathStep → Reading B → (B → Reading A) → Reading A
inside token part rest = after (λ seen. result_map_both (λ read. read) (found_inside token) (part seen)) rest

-- a part that may be absent
abbrev pub if_there : {A B : Type 0} → (B → Reading A) → Option B → Reading (Option A)
if_there part None = spells None
if_there part (Some x) = after (part x) (λ read. spells (Some read))

-- The items of an array from an index on. What the earlier ones leave is handed to each.
abbrev pub each : {A S : Type 0} → (S → Data → Reading (A × S)) → ℕ → S → Items → Reading (List A × S)
each part i s no_items = spells ([], s)
each part i s (item d ds) =
    inside (item_at i) (part s d) (λ one.
    after (each part (i + 1) one.1 ds) (λ rest.
    spells (one.0 ∷ rest.0, rest.1)))

-- The number of a reason, by first appearance. The reason has to be a name of the version, by this rule.
abbrev pub reason_in : ℕ → NameRule → List ℕ → Reading ℕ
reason_in version which name = asks (is_name version name) (Name version which) (λ seen.
    spells (number_of name seen.numbers.reasons) (record seen { numbers = with_reason name seen.numbers }))

-- an item, which has the number of its name by first appearance
abbrev pub item_named : {A : Type 0} → List ℕ → (Item → Reading A) → Reading A
item_named name rest seen =
    rest (record { 0 = number_of name seen.numbers.items }) (record seen { numbers = with_item name seen.numbers })

-- an item whose name has to be there and be one of the version, by these rules
abbrev pub needs_item : {A : Type 0} → ℕ → Option (List ℕ) → Rule → NameRule → (Item → Reading A) → Reading A
needs_item version text there which rest =
    needs text there (λ name. asks (is_name version name) (Name version which) (item_named name rest))
