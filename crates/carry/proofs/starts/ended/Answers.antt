use Rattle.std.proofs.Common.{sym, ap, ◌∙◌}
use Rattle.std.specs.Prelude.{option_and_then}
use Rattle.doc_tree.specs.Scope.{place_of}
use Rattle.doc_tree.proofs.TableLemmas.{place_of-keys}
use Rattle.carry.specs.Joined.{named_view, start_at}
use Rattle.carry.proofs.starts.ended.Goals as goal

pub returns-in-Some : goal.returns-in-Some
returns-in-Some c =
    let name = c.args.name.now in
    let place = ap (place_of name) (sym c.requires.named) ∙ place_of-keys name c.args.first_names.now.keys ∙ sym c.in-Some.ensures.index in
    c.start_at.ensures ∙ ap (option_and_then (start_at (named_view c.args.first))) (sym place)

pub returns-in-None : goal.returns-in-None
returns-in-None c =
    let name = c.args.name.now in
    let place = ap (place_of name) (sym c.requires.named) ∙ place_of-keys name c.args.first_names.now.keys ∙ sym c.in-None.ensures.index in
    ap (option_and_then (start_at (named_view c.args.first))) (sym place)
