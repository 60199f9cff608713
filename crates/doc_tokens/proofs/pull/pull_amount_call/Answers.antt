use Rattle.std.proofs.Common.{◌≡◌, ◌∷◌, Some, true, arith, rules, sym, subst, ap, ◌∙◌}
use Rattle.json.specs.Token.{Token}
use Rattle.serde_json.specs.Data.{number, unsigned}
use Rattle.serde_json.specs.Read.{number_of}
use Rattle.doc_rules.specs.Subjects.{fits_number}
use Rattle.doc_tree.specs.Scope.{scope_of}
use Rattle.doc_tokens.specs.Pulled.{ReadsValue}
use Rattle.doc_tokens.proofs.PulledLemmas.{reads_number}
use Rattle.doc_tokens.proofs.PulledArguments.{amount_met, amount_source_met, amount_source_spelled, amount_spelled, reads_source}
use Rattle.doc_tokens.proofs.PulledArguments.{source_object}
use Rattle.doc_tokens.proofs.pull.pull_amount_call.Goals as goal

pub returns-in_ok-amount-in-Some-Number : goal.returns-in_ok-amount-in-Some-Number
returns-in_ok-amount-in-Some-Number c =
    let version = c.args.version in
    let scope = scope_of c.args.labels.now.entries in
    let new = c.next.new.self in
    let s = c.in-Some-Number.text.now in
    let a = c.in_ok-amount-in-Some-Number.amount in
    let all : c.args.reader.now ≡ Token.number s ∷ new = grind (arith, rules) in
    let read : number_of s ≡ Some (unsigned a.value) = grind (arith, rules) in (
      number (unsigned a.value),
      subst (λ ts. ReadsValue 1 ts (number (unsigned a.value)) new) (sym all) (reads_number 1 s (unsigned a.value) new read),
      λ op counts e. amount_met version scope op a counts e,
      λ op numbers e. rw c.call.ensures (amount_spelled version scope op c.args.verb a numbers e),
    )

pub returns-then-fits_number : goal.returns-then-fits_number
returns-then-fits_number c =
    let version = c.args.version in
    let scope = scope_of c.args.labels.now.entries in
    let new = c.pull_source.new.reader in
    let given = c.in_ok-label-in-Some-BeginObject.ensures in
    let name = given.0 in
    let label = c.in_ok-label-in-Some-BeginObject.label in
    let begun : c.args.reader.now ≡ Token.begin_object ∷ c.next.new.self = grind (arith, rules) in
    let all = begun ∙ ap (λ ts. Token.begin_object ∷ ts) given.1 in
    let fits : fits_number c.in_ok-label-in-Some-BeginObject.subject ≡ true = grind (arith, rules) in
    let fitting = subst (λ subject. fits_number subject ≡ true) given.5 fits in (
      source_object name,
      subst (λ ts. ReadsValue 1 ts (source_object name) new) (sym all) (reads_source name new),
      λ op counts e. amount_source_met version scope op name counts e given.2 given.3 fitting,
      λ op numbers e. amount_source_spelled version scope op c.args.verb name label numbers e given.2 given.4,
    )
