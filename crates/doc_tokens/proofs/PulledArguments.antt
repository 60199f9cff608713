-- Arguments that were pulled from tokens, as what is asked and spelled of their data.
use Rattle.std.proofs.Common.{◌≡◌, ◌<◌, ℕ, arith, lt-ltb, le-leb, true, List, [], ◌∷◌, None, Some, option_and_then, refl, sym, ap, ◌∙◌}
use Rattle.std.specs.Prelude.{codes}
use Rattle.json.specs.Token.{Token}
use Rattle.json.specs.Json.{after_end_array}
use Rattle.json.proofs.Grammar.{value_is}
use Rattle.serde_json.specs.Data.{Data, item, member, no_items, no_members, number, object, string, unsigned}
use Rattle.serde_json.specs.Find.{at}
use Rattle.serde_json.specs.Read.{converted, of_json}
use Rattle.atoms.specs.declared.amount.Amount.{Amount}
use Rattle.atoms.specs.declared.item.Item.{Item}
use Rattle.vocabulary.specs.declared.verb.AmountVerb.{AmountVerb}
use Rattle.vocabulary.specs.declared.verb.ItemVerb.{ItemVerb}
use Rattle.vocabulary.specs.declared.verb.PairVerb.{PairVerb}
use Rattle.vocabulary.specs.declared.verb.LoneVerb.{LoneVerb}
use Rattle.vocabulary.specs.declared.verb.Verb.TheVariants.{OfAmount, OfItem, OfPair, Alone}
use Rattle.vocabulary.specs.Words.{amount_call, lone_call}
use Rattle.batch.specs.Names.{is_name}
use Rattle.meaning.specs.WellFormed.{largest_amount}
use Rattle.meaning.specs.declared.template.Argument.{Argument}
use Rattle.meaning.specs.declared.template.Argument.TheVariants as argument
use Rattle.meaning.specs.declared.template.Template.TheVariants as template
use Rattle.meaning.specs.declared.template.Template.TheVariants.{Given}
use Rattle.doc_rules.specs.Subjects.{fits_item, fits_number}
use Rattle.doc_rules.specs.declared.rule.OperandPlace.{OperandPlace}
use Rattle.doc_rules.specs.declared.rule.OperandPlace.TheVariants.{Third, Fourth}
use Rattle.doc_tree.specs.declared.counts.Counts.{Counts}
use Rattle.doc_tree.specs.Answer.{IsMet}
use Rattle.doc_tree.specs.Asked.{amount_asked, argument_asked, arguments_asked, has_fills, index_of, item_asked, source_asked, subject_of}
use Rattle.doc_tree.specs.Look.{whole, within}
use Rattle.doc_tree.specs.Scope.{Numbers, Scope, is_named, label_number, with_item}
use Rattle.doc_tree.specs.Spelled.{argument_of, item_of, item_template, or_zero, pair_template, spelled_map, template_of}
use Rattle.doc_tree.proofs.AmountLemmas.{amount_of-value}
use Rattle.doc_tree.proofs.Checks.{check_met}
use Rattle.doc_tokens.specs.Pulled.{ReadsValue, op_array}
use Rattle.doc_tokens.proofs.PulledLemmas.{reads_member, reads_no_members, reads_object, reads_string}

-- an object of the one member that says which label gives an argument
abbrev pub source_object : List ℕ → Data
source_object name = object (member (codes "from") (string name) no_members)

-- its tokens read it
pub reads_source : (name : List ℕ) (new : List Token)
    → ReadsValue 1 (Token.begin_object ∷ Token.key (codes "from") ∷ Token.string name ∷ Token.end_object ∷ new) (source_object name) new
reads_source name new =
    let found = member (codes "from") (string name) no_members in
    reads_object 0 _ found new
    (reads_member 0 no_members (codes "from") _ _ (Token.end_object ∷ new) new (string name) found refl (omega arith)
    (reads_string 0 name _) (reads_no_members 0 found _ new refl))

-- nothing is no value
not_some : {A B : Type 0} (x : A) → None ≡ Some x → B
not_some x e = absurd (cc)

-- an array goes on where a value comes next
pub going_on : (k : ℕ) (old : List Token) (d : Data) (new : List Token) → ReadsValue k old d new → after_end_array old ≡ None
going_on k [] d new reads = refl
going_on k (Token.begin_object ∷ ts) d new reads = refl
going_on k (Token.end_object ∷ ts) d new reads = refl
going_on k (Token.begin_array ∷ ts) d new reads = refl
going_on k (Token.end_array ∷ ts) d new reads =
    not_some (d, new) (sym (ap (converted of_json) (value_is k (Token.end_array ∷ ts))) ∙ reads k (omega arith))
going_on k (Token.key s ∷ ts) d new reads = refl
going_on k (Token.string s ∷ ts) d new reads = refl
going_on k (Token.number s ∷ ts) d new reads = refl
going_on k (Token.boolean b ∷ ts) d new reads = refl
going_on k (Token.null ∷ ts) d new reads = refl
going_on k (Token.bad ∷ ts) d new reads = refl

-- an amount's number is within its bounds
amount_in : (a : Amount) → option_and_then (within 1 largest_amount) (whole (number (unsigned a.value))) ≡ Some a.value
amount_in a =
    let small : a.value < 9223372036854775808 = omega (arith, a.in_range.1) in
    rw (lt-ltb _ _ small, le-leb _ _ a.in_range.0, le-leb _ _ a.in_range.1) refl

module _ (version : ℕ) (scope : Scope) (op : Data) where
  -- ---- an amount

  -- an amount is as asked
  pub amount_met : (a : Amount) (counts : Counts) → at 2 op ≡ Some (number (unsigned a.value))
      → IsMet counts (amount_asked version scope op) counts
  unfolding amount_asked
  amount_met a counts e = rw (e, amount_in a) refl

  -- and is the call's
  pub amount_spelled : (v : AmountVerb) (a : Amount) (numbers : Numbers) → at 2 op ≡ Some (number (unsigned a.value))
      → (Given (amount_call v a), numbers) ≡ template_of version scope (OfAmount v) numbers op
  unfolding template_of
  amount_spelled v a numbers e = rw e
      (ap (λ x. (Given (amount_call v x), numbers)) (amount_of-value a _ (ap or_zero (sym (amount_in a)))))

  -- a label that is seen, and is of a number, is as asked
  pub amount_source_met : (name : List ℕ) (counts : Counts) → at 2 op ≡ Some (source_object name) → has_fills version ≡ true
      → is_named name scope ≡ true → fits_number (subject_of name scope) ≡ true → IsMet counts (amount_asked version scope op) counts
  unfolding amount_asked source_asked
  amount_source_met name counts e fills seen fits = rw (e, fills, seen, fits) refl

  -- and gives the amount
  pub amount_source_spelled : (v : AmountVerb) (name : List ℕ) (label : ℕ) (numbers : Numbers) → at 2 op ≡ Some (source_object name)
      → has_fills version ≡ true → label ≡ label_number name scope
      → (template.OfAmount v label, numbers) ≡ template_of version scope (OfAmount v) numbers op
  unfolding template_of
  amount_source_spelled v name label numbers e fills same = rw (e, fills, same) refl

  -- ---- an item

  -- a name is as asked
  pub name_met : (s : List ℕ) (place : OperandPlace) (counts : Counts) → at (index_of place) op ≡ Some (string s) → is_name version s ≡ true
      → IsMet counts (argument_asked version scope place op) counts
  unfolding argument_asked item_asked
  name_met s place counts e named = rw (e, named) refl

  -- and is of the item
  pub name_spelled : (s : List ℕ) (x : Item) (place : OperandPlace) (numbers after : Numbers) → at (index_of place) op ≡ Some (string s)
      → x ≡ item_of s numbers → after ≡ with_item s numbers
      → (argument.Is x, after) ≡ argument_of version scope (index_of place) numbers op
  name_spelled s x place numbers after e same numbered = rw (e, same, numbered) refl

  -- a label that is seen, and is of an item, is as asked
  pub item_source_met : (name : List ℕ) (place : OperandPlace) (counts : Counts) → at (index_of place) op ≡ Some (source_object name)
      → has_fills version ≡ true → is_named name scope ≡ true → fits_item (subject_of name scope) ≡ true
      → IsMet counts (argument_asked version scope place op) counts
  unfolding argument_asked source_asked
  item_source_met name place counts e fills seen fits = rw (e, fills, seen, fits) refl

  -- and gives the item
  pub item_source_spelled : (name : List ℕ) (label : ℕ) (place : OperandPlace) (numbers : Numbers)
      → at (index_of place) op ≡ Some (source_object name) → has_fills version ≡ true → label ≡ label_number name scope
      → (argument.From label, numbers) ≡ argument_of version scope (index_of place) numbers op
  item_source_spelled name label place numbers e fills same = rw (e, fills, same) refl

  -- ---- the arguments of a call

  -- an item, or what gives it, makes the call
  pub one_spelled : (v : ItemVerb) (x : Argument) (numbers after : Numbers) → (x, after) ≡ argument_of version scope 2 numbers op
      → (item_template v x, after) ≡ template_of version scope (OfItem v) numbers op
  unfolding template_of
  one_spelled v x numbers after e = ap (spelled_map (item_template v)) e

  -- so do a key and an item
  pub pair_spelled : (v : PairVerb) (key x : Argument) (numbers mid after : Numbers) → (key, mid) ≡ argument_of version scope 2 numbers op
      → (x, after) ≡ argument_of version scope 3 mid op → (pair_template v key x, after) ≡ template_of version scope (OfPair v) numbers op
  unfolding template_of
  pair_spelled v key x numbers mid after first second = ap (spelled_map (pair_template v key)) second
      ∙ ap (λ p. spelled_map (pair_template v p.0) (argument_of version scope 3 p.1 op)) first

module _ (version : ℕ) (scope : Scope) (o c : List ℕ) where
  -- what is asked of a call is asked of its amount
  pub one_amount_met : (v : AmountVerb) (d : Data) (counts : Counts)
      → IsMet counts (amount_asked version scope (op_array o c (item d no_items))) counts
      → IsMet counts (arguments_asked version scope (OfAmount v) (op_array o c (item d no_items))) counts
  unfolding arguments_asked
  one_amount_met v d counts met = met

  -- of its item
  pub one_met : (v : ItemVerb) (d : Data) (counts : Counts)
      → IsMet counts (argument_asked version scope Third (op_array o c (item d no_items))) counts
      → IsMet counts (arguments_asked version scope (OfItem v) (op_array o c (item d no_items))) counts
  unfolding arguments_asked
  one_met v d counts met = met

  -- of its key and its item
  pub pair_met : (v : PairVerb) (k d : Data) (counts : Counts)
      → IsMet counts (argument_asked version scope Third (op_array o c (item k (item d no_items)))) counts
      → IsMet counts (argument_asked version scope Fourth (op_array o c (item k (item d no_items)))) counts
      → IsMet counts (arguments_asked version scope (OfPair v) (op_array o c (item k (item d no_items)))) counts
  unfolding arguments_asked
  pair_met v k d counts first second =
      let op = op_array o c (item k (item d no_items)) in
      check_met counts counts (argument_asked version scope Third op) (argument_asked version scope Fourth op) first ∙ second

  -- nothing is asked of a call that has no arguments
  pub lone_met : (v : LoneVerb) (counts : Counts) → IsMet counts (arguments_asked version scope (Alone v) (op_array o c no_items)) counts
  unfolding arguments_asked
  lone_met v counts = refl

  -- and it spells the call
  pub lone_spelled : (v : LoneVerb) (numbers : Numbers)
      → (Given (lone_call v), numbers) ≡ template_of version scope (Alone v) numbers (op_array o c no_items)
  unfolding template_of
  lone_spelled v numbers = refl
