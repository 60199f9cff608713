use Rattle.std.proofs.Common.{◌-◌}
use Rattle.serde_json.specs.View.{view}
use Rattle.meaning.specs.declared.limits.TheConstants.{MAX_DEPTH}
use Rattle.doc_tree.specs.Places.{block_placed, step_placed}
use Rattle.doc_tree.specs.Scope.{scope_of, setting_of}
use Rattle.lang.proofs.MisreadLemmas.{misread_first}
use Rattle.lang.proofs.singly.one_step.Goals as goal

pub returns-in_ok-misread-in-Err-clause-ok : goal.returns-in_ok-misread-in-Err-clause-ok
returns-in_ok-misread-in-Err-clause-ok c =
    let d = view c.in_ok-value.value in
    let setting = setting_of c.args.declared.now in
    let asked = step_placed (block_placed setting (MAX_DEPTH - 1)) setting (scope_of c.args.state.now.labels.entries) d in
    let told = c.in_ok-misread-in-Err.ensures in (
      d,
      c.in_ok-value.ensures.ok,
      misread_first c.args.state.now.counts asked d c.in-Err.unmet c.in_ok-misread-in-Err.misread
          c.in-Err.ensures.unmet told.other told.found told.part,
    )
