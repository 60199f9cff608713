use Rattle.std.proofs.Common.{◌≡◌, [], ◌∷◌, option_map, sym, ap, ◌∙◌, arith, rules}
use Rattle.meaning.specs.Trees as tree
use Rattle.batch.specs.Views.{step_view}
use Rattle.batch.specs.declared.tree.Step.{Abort, the_lemmas}
use Rattle.doc_rules.specs.declared.rule.NameRule.TheVariants.{Reason}
use Rattle.doc_tree.specs.Answer.{IsMet}
use Rattle.doc_tree.specs.Asked.{reason_asked}
use Rattle.doc_tree.specs.Demand.{one_more_node}
use Rattle.doc_tokens.specs.Pulled.{abort_step}
use Rattle.doc_tree.specs.Scope.{numbers_of, scope_of, setting_of}
use Rattle.doc_tree.specs.Spelled.{reason_of}
use Rattle.doc_tokens.proofs.PulledTests.{abort_met, abort_scope, abort_spelled}
use Rattle.doc_tokens.proofs.pull_blocks.pull_abort.Goals as goal

pub returns : goal.returns
returns c =
    let setting = setting_of c.args.declared.now in
    let scope = scope_of c.args.state.now.labels.entries in
    let start = c.args.state.now.counts in
    let counted = c.one_more_node.new.self in
    let next = c.read_reason.new.state.counts in
    let numbers = numbers_of c.args.state.now.numbering in
    let after = numbers_of c.read_reason.new.state.numbering in
    let reason = option_map (λ text. text.now) c.in_ok-reason.reason in
    let done = c.in_ok-reason.ensures in
    let one : IsMet start (one_more_node setting.version ∷ []) counted = grind (arith, rules) in
    let met : IsMet counted (reason_asked setting.version Reason reason) next = grind (arith, rules) in
    let value : (c.in_ok-number.number, after) ≡ reason_of numbers reason = grind (arith, rules) in
    let same : scope_of c.read_reason.new.state.labels.entries ≡ scope = grind (arith, rules) in
    let shown : step_view (Abort c.in_ok-number.number) ≡ tree.Abort c.in_ok-number.number = search (rules, the_lemmas) in record {
      value = abort_step reason;
      reads = done.0;
      met = λ places. abort_met setting scope reason places start counted next done.1 one met;
      spelled = λ block. ap (λ (step : tree.Step). (step, after)) shown
          ∙ abort_spelled setting scope reason block numbers after c.in_ok-number.number value;
      scope = same ∙ sym (abort_scope setting scope reason);
    }
