use Rattle.std.proofs.Common.{◌≡◌, ◌∷◌, [], None, option_map, refl, arith, rules, sym, subst, ap, ◌∙◌}
use Rattle.json.specs.Json.{read_key}
use Rattle.json.specs.Token.{Token}
use Rattle.json.specs.Reads.{token_of}
use Rattle.batch.specs.Views.{step_view}
use Rattle.doc_tree.specs.Asked.{arguments_asked, label_asked, operation_verb, target_asked}
use Rattle.doc_tree.specs.Answer.{IsMet}
use Rattle.doc_tree.specs.Demand.{one_more_operation}
use Rattle.std.specs.Prelude.{is_some}
use Rattle.meaning.specs.declared.template.Refusal.TheVariants.{GoesOn}
use Rattle.doc_rules.specs.declared.subject.Subject.TheVariants.{Reply}
use Rattle.doc_tree.specs.Spelled.{operation_step, target_of, template_of}
use Rattle.doc_tree.specs.Scope.{numbers_of, scope_of, setting_of, with_label}
use Rattle.doc_tokens.specs.Pulled.{ReadsMembers, labelled, op_array, op_step, with_abort}
use Rattle.doc_tokens.proofs.PulledLemmas.{reads_no_members}
use Rattle.doc_tokens.proofs.PulledSteps.{no_label_met, no_reason_met, plain_shown}
use Rattle.doc_tokens.proofs.PulledSteps.{operation_met, operation_reads, operation_scope, operation_spelled}
use Rattle.doc_tokens.proofs.pull.pull_operation.Goals as goal

pub returns-in-EndObject-Given : goal.returns-in-EndObject-Given
returns-in-EndObject-Given c =
    let setting = setting_of c.args.declared.now in
    let scope = scope_of c.args.state.now.labels.entries in
    let numbers = numbers_of c.args.state.now.numbering in
    let start = c.args.state.now.counts in
    let next = c.one_more_operation.new.self in
    let mid = numbers_of c.pull_arguments.new.numbering in
    let o = c.in_ok-object.object.now in
    let w = c.in_ok-call.call.now in
    let template = c.in_ok-template.template in
    let given = c.in_ok-template.ensures in
    let rest = given.0 in
    let op = op_array o w rest in
    let left = c.pull_arguments.new.reader in
    let new = c.next.new.self in
    let tokens : c.args.reader.now ≡ Token.begin_array ∷ Token.string o ∷ Token.string w ∷ c.pull_text-2.new.reader =
    grind (arith, rules) in
    let ended : left ≡ Token.end_object ∷ new = grind (arith, rules) in
    let verb : c.in_ok-object-2.verb ≡ operation_verb setting o w = grind (arith, rules) in
    let counted : IsMet start (one_more_operation setting.version ∷ []) next = grind (arith, rules) in
    let target : IsMet next (target_asked setting o w) next = grind (arith, rules) in
    let placed : c.in_ok-object-2.object ≡ target_of setting o = grind (arith, rules) in
    let call = c.in-EndObject-Given.call in
    let shown = plain_shown c.in_ok-object-2.object (target_of setting o) call template placed c.in-EndObject-Given.is-1 in record {
      value = op_step None None op;
      reads = operation_reads None None o w rest _ _ left new tokens given.1
          (λ found. reads_no_members 0 found left new (ap read_key ended));
      met = λ places. operation_met setting scope None None o w rest places start next next refl counted target
          (subst (λ v. IsMet next (arguments_asked setting.version scope v op) next) verb (given.2 o w next))
          (no_reason_met setting.version next) (no_label_met setting.version scope next);
      spelled = λ block. operation_spelled setting scope None None o w rest block numbers mid mid template GoesOn _ shown
          (subst (λ v. (template, mid) ≡ template_of setting.version scope v numbers op) verb (given.3 o w)) refl;
      scope = sym (operation_scope setting scope None None o w rest);
    }

pub returns : goal.returns
returns c =
    let setting = setting_of c.args.declared.now in
    let scope = scope_of c.args.state.now.labels.entries in
    let numbers = numbers_of c.args.state.now.numbering in
    let start = c.args.state.now.counts in
    let next = c.one_more_operation.new.self in
    let last = c.refusal_of.new.state.counts in
    let mid = numbers_of c.pull_arguments.new.numbering in
    let after = numbers_of c.refusal_of.new.state.numbering in
    let o = c.in_ok-object.object.now in
    let w = c.in_ok-call.call.now in
    let label = option_map (λ text. text.now) c.in_ok-rest.rest.label in
    let abort = option_map (λ reason. option_map (λ text. text.now) reason) c.in_ok-rest.rest.abort in
    let refusal = c.in_ok-refusal.refusal in
    let told = c.in_ok-refusal.ensures in
    let template = c.in_ok-template.template in
    let given = c.in_ok-template.ensures in
    let rest = given.0 in
    let op = op_array o w rest in
    let left = c.pull_arguments.new.reader in
    let new = c.pull_operation_rest.new.reader in
    let tokens : c.args.reader.now ≡ Token.begin_array ∷ Token.string o ∷ Token.string w ∷ c.pull_text-2.new.reader =
    grind (arith, rules) in
    let after_array : left ≡ token_of c.in-Some.first ∷ c.next.new.self = grind (arith, rules) in
    let verb : c.in_ok-object-2.verb ≡ operation_verb setting o w = grind (arith, rules) in
    let counted : IsMet start (one_more_operation setting.version ∷ []) next = grind (arith, rules) in
    let target : IsMet next (target_asked setting o w) next = grind (arith, rules) in
    let placed : c.in_ok-object-2.object ≡ target_of setting o = grind (arith, rules) in
    let has : c.is_some.result ≡ is_some label = grind (arith, rules) in
    let added : scope_of c.add_new_label.new.labels.entries ≡ with_label label (Reply c.in_ok-object-2.verb) scope = grind (arith, rules) in
    let shown : step_view c.in_ok-operation_step.field-0 ≡ operation_step (target_of setting o) template (is_some label) refusal =
    c.in_ok-operation_step.ensures ∙ rw (placed, has) refl in
    let labels : IsMet last (label_asked setting.version scope [] label) last = grind (arith, rules) in record {
      value = op_step label abort op;
      reads = operation_reads label abort o w rest _ _ left new tokens given.1
          (λ found. subst (λ ts. ReadsMembers 0 found ts (with_abort abort (labelled label found)) new) (sym after_array)
          (c.in_ok-rest.ensures.1 found));
      met = λ places. operation_met setting scope label abort o w rest places start next last c.in_ok-rest.ensures.0 counted target
          (subst (λ v. IsMet next (arguments_asked setting.version scope v op) next) verb (given.2 o w next)) told.0 labels;
      spelled = λ block. operation_spelled setting scope label abort o w rest block numbers mid after template refusal _ shown
          (subst (λ v. (template, mid) ≡ template_of setting.version scope v numbers op) verb (given.3 o w))
          told.1;
      scope = added ∙ ap (λ v. with_label label (Reply v) scope) verb ∙ sym (operation_scope setting scope label abort o w rest);
    }
