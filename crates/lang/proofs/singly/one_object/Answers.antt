use Rattle.serde_json.specs.View.{view}
use Rattle.batch.specs.Names.{texts_of}
use Rattle.doc_tree.specs.Places.{object_placed}
use Rattle.lang.proofs.MisreadLemmas.{misread_first}
use Rattle.lang.proofs.singly.one_object.Goals as goal

pub returns-in_ok-misread_of-in-Err-clause-ok : goal.returns-in_ok-misread_of-in-Err-clause-ok
returns-in_ok-misread_of-in-Err-clause-ok c =
    let d = view c.in_ok-value.value in
    let asked = object_placed c.args.version (texts_of c.args.names.now.keys) d in
    let told = c.in_ok-misread_of-in-Err.ensures in (
      d,
      c.in_ok-value.ensures.ok,
      misread_first c.args.counts.now asked d c.in-Err.unmet c.in_ok-misread_of-in-Err.field-0
          c.in-Err.ensures.unmet told.other told.found told.part,
    )
