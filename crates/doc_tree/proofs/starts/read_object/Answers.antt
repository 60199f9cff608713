use Rattle.std.specs.Prelude.{codes}
use Rattle.std.proofs.Common.{◌∙◌}
use Rattle.serde_json.specs.View.{view}
use Rattle.batch.specs.Names.{texts_of}
use Rattle.doc_tree.specs.Asked.{kind_in, object_name, object_name_asked, object_shape_asked, part}
use Rattle.doc_tree.specs.Places.{inside, itself, member_named, nothing, object_placed, start_placed}
use Rattle.doc_tree.proofs.PlaceLemmas.{found_in, own_first, own_unmet, part_met, raised}
use Rattle.doc_tree.proofs.starts.read_object.Goals as goal

pub returns-in_err-shape-clause-unmet : goal.returns-in_err-shape-clause-unmet
unfolding object_placed
returns-in_err-shape-clause-unmet c =
    let d = view c.args.value.now in
    let start = c.args.counts.now in
    let names = texts_of c.args.names.now.keys in
    let version = c.args.version in
    let e = c.in_err-shape.field-0.0 in
    let starts = inside (member_named (codes "start")) (start_placed version (kind_in version d) (part (codes "start") d)) nothing in
    raised c.from_residual.result start (object_placed version names d) e c.from_residual.ensures.1
    (λ other. own_unmet start e (object_shape_asked version d) (itself (object_name_asked version names (object_name d)) starts)
    (c.in_err-shape.ensures.first other))

pub returns-in_err-add_name-clause-unmet : goal.returns-in_err-add_name-clause-unmet
unfolding object_placed
returns-in_err-add_name-clause-unmet c =
    let d = view c.args.value.now in
    let start = c.args.counts.now in
    let names = texts_of c.args.names.now.keys in
    let version = c.args.version in
    let shape = c.in_ok-shape.ensures in
    let e = c.in_err-add_name.field-0.0 in
    let starts = inside (member_named (codes "start")) (start_placed version (kind_in version d) (part (codes "start") d)) nothing in
    raised c.from_residual-in_err-add_name.result start (object_placed version names d) e c.from_residual-in_err-add_name.ensures.1
    (λ other. own_first start start (object_shape_asked version d) (itself (object_name_asked version names (object_name d)) starts)
    shape.met
    ∙ own_unmet start e (object_name_asked version names (object_name d)) starts (rw shape.name at (c.in_err-add_name.ensures.first other)))

pub returns-in-Ok-clause-met : goal.returns-in-Ok-clause-met
unfolding object_placed
returns-in-Ok-clause-met c =
    let d = view c.args.value.now in
    let start = c.args.counts.now in
    let names = texts_of c.args.names.now.keys in
    let version = c.args.version in
    let shape = c.in_ok-shape.ensures in
    let started = start_placed version (kind_in version d) (part (codes "start") d) in
    let starts = inside (member_named (codes "start")) started nothing in
    own_first start start (object_shape_asked version d) (itself (object_name_asked version names (object_name d)) starts) shape.met
    ∙ own_first start start (object_name_asked version names (object_name d)) starts (rw shape.name at c.in_ok-add_name.ensures.met)
    ∙ part_met start c.read_start.new.counts (member_named (codes "start")) started nothing
    (rw (shape.kind, shape.start) at c.in-Ok.ensures.met)

pub returns-in-Err-clause-unmet : goal.returns-in-Err-clause-unmet
unfolding object_placed
returns-in-Err-clause-unmet c other =
    let d = view c.args.value.now in
    let start = c.args.counts.now in
    let names = texts_of c.args.names.now.keys in
    let version = c.args.version in
    let shape = c.in_ok-shape.ensures in
    let started = start_placed version (kind_in version d) (part (codes "start") d) in
    let starts = inside (member_named (codes "start")) started nothing in
    own_first start start (object_shape_asked version d) (itself (object_name_asked version names (object_name d)) starts) shape.met
    ∙ own_first start start (object_name_asked version names (object_name d)) starts (rw shape.name at c.in_ok-add_name.ensures.met)
    ∙ found_in start (member_named (codes "start")) started nothing c.in-Err.unmet c.in_member.result c.in_member.ensures
    (rw (shape.kind, shape.start) at c.in-Err.ensures.unmet) other

pub returns-in-Ok-clause-value : goal.returns-in-Ok-clause-value
returns-in-Ok-clause-value c = rw (c.in_ok-shape.ensures.kind, c.in_ok-shape.ensures.start) at c.in-Ok.ensures.value

pub returns-in-Ok-clause-names : goal.returns-in-Ok-clause-names
returns-in-Ok-clause-names c = rw c.in_ok-shape.ensures.name at c.in_ok-add_name.ensures.names
