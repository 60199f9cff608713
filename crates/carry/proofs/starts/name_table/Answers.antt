use Rattle.std.proofs.Common.{◌≡◌, ◌<◌, ◌∙◌, [], Some, ap, arith, length, sym}
use Rattle.std.specs.Prelude.{slice_get}
use Rattle.std.proofs.lemmas.Option.{slice_get-get_or}
use Rattle.batch.specs.Names.{texts_of}
use Rattle.doc_tree.specs.Scope.{with_text}
use Rattle.doc_tree.proofs.TableLemmas.{texts_of-insert}
use Rattle.carry.proofs.Adding.{table_grows}
use Rattle.carry.proofs.starts.name_table.Goals as goal

pub loop-place-preserved : goal.loop-place-preserved
loop-place-preserved c =
    let known = c.args.names.now.objects in
    let place = c.loop-place.place in
    let name = c.object_name-name.result.now in
    let within : place < length known = omega (arith, c.loop-place-test.true, c.requires.all) in
    let there : slice_get known place ≡ Some name = slice_get-get_or known place [] within ∙ ap Some (sym c.object_name-name.ensures) in
    ap texts_of c.in_ok-insert.ensures.keys
    ∙ texts_of-insert name c.loop-place.table.keys c.in_ok-from_str.field-0 c.in_ok-from_str.ensures.ok
    ∙ ap (with_text name) c.loop-place.invariant ∙ table_grows known place name c.requires.apart there
