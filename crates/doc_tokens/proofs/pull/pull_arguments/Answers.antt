use Rattle.std.proofs.Common.{◌≡◌, ◌∷◌, refl, arith, rules, sym, subst}
use Rattle.json.specs.Token.{Token}
use Rattle.serde_json.specs.Data.{no_items, item}
use Rattle.doc_rules.specs.declared.rule.OperandPlace.TheVariants.{Third, Fourth}
use Rattle.doc_tree.specs.Scope.{numbers_of, scope_of}
use Rattle.doc_tokens.specs.Pulled.{ReadsItems, op_array}
use Rattle.doc_tokens.proofs.PulledLemmas.{reads_item, reads_no_items}
use Rattle.doc_tokens.proofs.PulledArguments.{going_on, lone_met, lone_spelled, one_amount_met, one_met, one_spelled, pair_met}
use Rattle.doc_tokens.proofs.PulledArguments.{pair_spelled}
use Rattle.doc_tokens.proofs.pull.pull_arguments.Goals as goal

pub returns-in_ok-pull_end_array-in-OfAmount : goal.returns-in_ok-pull_end_array-in-OfAmount
returns-in_ok-pull_end_array-in-OfAmount c =
    let version = c.args.version in
    let scope = scope_of c.args.labels.now.entries in
    let old = c.args.reader.now in
    let mid = c.pull_amount_call.new.reader in
    let new = c.pull_end_array.new.reader in
    let v = c.in-OfAmount.verb in
    let given = c.in_ok-template-in-OfAmount.ensures in
    let d = given.0 in
    let rest = item d no_items in
    let close : mid ≡ Token.end_array ∷ new = grind (arith, rules) in
    let last = subst (λ ts. ReadsItems 1 ts no_items new) (sym close) (reads_no_items 1 _ new refl) in (
      rest,
      reads_item 1 old mid new d no_items (going_on 1 old d mid given.1) given.1 last,
      λ o w counts. rw c.in-OfAmount.is (one_amount_met version scope o w v d counts (given.2 (op_array o w rest) counts refl)),
      λ o w. rw c.in-OfAmount.is (given.3 (op_array o w rest) (numbers_of c.args.numbering.now) refl),
    )

pub returns-in_ok-pull_end_array-in-OfItem : goal.returns-in_ok-pull_end_array-in-OfItem
returns-in_ok-pull_end_array-in-OfItem c =
    let version = c.args.version in
    let scope = scope_of c.args.labels.now.entries in
    let old = c.args.reader.now in
    let mid = c.pull_argument.new.reader in
    let new = c.pull_end_array-in-OfItem.new.reader in
    let v = c.in-OfItem.verb in
    let x = c.in_ok-item-in-OfItem.item in
    let start = numbers_of c.args.numbering.now in
    let after = numbers_of c.pull_argument.new.numbering in
    let given = c.in_ok-item-in-OfItem.ensures in
    let d = given.0 in
    let rest = item d no_items in
    let close : mid ≡ Token.end_array ∷ new = grind (arith, rules) in
    let last = subst (λ ts. ReadsItems 1 ts no_items new) (sym close) (reads_no_items 1 _ new refl) in (
      rest,
      reads_item 1 old mid new d no_items (going_on 1 old d mid given.1) given.1 last,
      λ o w counts. rw c.in-OfItem.is (one_met version scope o w v d counts (given.2 Third (op_array o w rest) counts refl)),
      λ o w. rw (c.in-OfItem.is, c.item_template.ensures)
          (one_spelled version scope (op_array o w rest) v x start after (given.3 Third (op_array o w rest) refl)),
    )

pub returns-in_ok-pull_end_array-in-OfPair : goal.returns-in_ok-pull_end_array-in-OfPair
returns-in_ok-pull_end_array-in-OfPair c =
    let version = c.args.version in
    let scope = scope_of c.args.labels.now.entries in
    let old = c.args.reader.now in
    let mid = c.pull_argument-in-OfPair.new.reader in
    let later = c.pull_argument-in-OfPair-2.new.reader in
    let new = c.pull_end_array-in-OfPair.new.reader in
    let v = c.in-OfPair.verb in
    let key = c.in_ok-key-in-OfPair.key in
    let x = c.in_ok-item-in-OfPair.item in
    let start = numbers_of c.args.numbering.now in
    let between = numbers_of c.pull_argument-in-OfPair.new.numbering in
    let after = numbers_of c.pull_argument-in-OfPair-2.new.numbering in
    let first = c.in_ok-key-in-OfPair.ensures in
    let second = c.in_ok-item-in-OfPair.ensures in
    let k = first.0 in
    let d = second.0 in
    let rest = item k (item d no_items) in
    let close : later ≡ Token.end_array ∷ new = grind (arith, rules) in
    let last = subst (λ ts. ReadsItems 1 ts no_items new) (sym close) (reads_no_items 1 _ new refl) in (
      rest,
      reads_item 1 old mid new k (item d no_items) (going_on 1 old k mid first.1) first.1
          (reads_item 1 mid later new d no_items (going_on 1 mid d later second.1) second.1 last),
      λ o w counts. rw c.in-OfPair.is
          (pair_met version scope o w v k d counts (first.2 Third (op_array o w rest) counts refl)
          (second.2 Fourth (op_array o w rest) counts refl)),
      λ o w. rw (c.in-OfPair.is, c.pair_template.ensures)
          (pair_spelled version scope (op_array o w rest) v key x start between after (first.3 Third (op_array o w rest) refl)
          (second.3 Fourth (op_array o w rest) refl)),
    )

pub returns-in_ok-pull_end_array-in-Alone : goal.returns-in_ok-pull_end_array-in-Alone
returns-in_ok-pull_end_array-in-Alone c =
    let version = c.args.version in
    let scope = scope_of c.args.labels.now.entries in
    let new = c.pull_end_array-in-Alone.new.reader in
    let all : c.args.reader.now ≡ Token.end_array ∷ new = grind (arith, rules) in
    let v = c.in-Alone.verb in (
      no_items,
      subst (λ ts. ReadsItems 1 ts no_items new) (sym all) (reads_no_items 1 _ new refl),
      λ o w counts. rw c.in-Alone.is (lone_met version scope o w v counts),
      λ o w. rw (c.in-Alone.is, c.call.ensures) (lone_spelled version scope o w v (numbers_of c.args.numbering.now)),
    )
