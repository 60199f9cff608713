use Rattle.std.proofs.Common.{◌≡◌, ◌∷◌, true, arith, rules, sym, subst, ap, ◌∙◌}
use Rattle.json.specs.Token.{Token}
use Rattle.serde_json.specs.Data.{string}
use Rattle.doc_rules.specs.Subjects.{fits_item}
use Rattle.batch.specs.Names.{is_name}
use Rattle.doc_tree.specs.Scope.{numbers_of, scope_of, with_item}
use Rattle.doc_tree.specs.Spelled.{item_of}
use Rattle.doc_tokens.specs.Pulled.{ReadsValue}
use Rattle.doc_tokens.proofs.PulledLemmas.{reads_string}
use Rattle.doc_tokens.proofs.PulledArguments.{item_source_met, item_source_spelled, name_met, name_spelled, reads_source, source_object}
use Rattle.doc_tokens.proofs.pull.pull_argument.Goals as goal

pub returns-in_ok-item_of-in-Some-String : goal.returns-in_ok-item_of-in-Some-String
returns-in_ok-item_of-in-Some-String c =
    let version = c.args.version in
    let scope = scope_of c.args.labels.now.entries in
    let new = c.next.new.self in
    let s = c.in-Some-String.name.now in
    let x = c.in_ok-item_of-in-Some-String.field-0 in
    let before = numbers_of c.args.numbering.now in
    let after = numbers_of c.item_of.new.numbering in
    let all : c.args.reader.now ≡ Token.string s ∷ new = grind (arith, rules) in
    let named : is_name version s ≡ true = grind (arith, rules) in
    let numbered : (x ≡ item_of s before) × (after ≡ with_item s before) = grind (arith, rules) in (
      string s,
      subst (λ ts. ReadsValue 1 ts (string s) new) (sym all) (reads_string 1 s new),
      λ place op counts e. name_met version scope op s place counts e named,
      λ place op e. name_spelled version scope op s x place before after e numbered.0 numbered.1,
    )

pub returns-then-fits_item : goal.returns-then-fits_item
returns-then-fits_item c =
    let version = c.args.version in
    let scope = scope_of c.args.labels.now.entries in
    let new = c.pull_source.new.reader in
    let given = c.in_ok-label-in-Some-BeginObject.ensures in
    let name = given.0 in
    let label = c.in_ok-label-in-Some-BeginObject.label in
    let begun : c.args.reader.now ≡ Token.begin_object ∷ c.next.new.self = grind (arith, rules) in
    let all = begun ∙ ap (λ ts. Token.begin_object ∷ ts) given.1 in
    let fits : fits_item c.in_ok-label-in-Some-BeginObject.subject ≡ true = grind (arith, rules) in
    let fitting = subst (λ subject. fits_item subject ≡ true) given.5 fits in (
      source_object name,
      subst (λ ts. ReadsValue 1 ts (source_object name) new) (sym all) (reads_source name new),
      λ place op counts e. item_source_met version scope op name place counts e given.2 given.3 fitting,
      λ place op e. item_source_spelled version scope op name label place (numbers_of c.args.numbering.now) e given.2 given.4,
    )
