use Rattle.std.proofs.Common.{sym, ◌∙◌}
use Rattle.objects.specs.Entries.{kinds}
use Rattle.batch.specs.Names.{texts_of}
use Rattle.doc_tree.proofs.DigestLemmas.{object_named}
use Rattle.doc_tree.proofs.declared.Declared.outlined.Goals as goal
use Rattle.doc_tree.proofs.declared.Declared.outlined.Goals.{then-is_whole, else-is_whole}

pub returns-then-is_at-clause-place : goal.returns-then-is_at-clause-place
returns-then-is_at-clause-place c =
    let declared = c.args.self.now in
    let ks = kinds declared.objects in
    let object = c.in_ok-found.ensures (texts_of declared.names.keys) ks declared.outlined in
    elim c.if-is_whole.branch [
      | then-is_whole w ↦ object_named declared.names.keys ks c.of-digest.result c.in_ok-found.found declared.apart object
          (c.is_whole.ensures w.if-is_whole.true) c.args.name.now c.utf8.name c.of-digest.ensures
      | else-is_whole w ↦ w.is_at.ensures.place (sym w.value-is ∙ c.if-is_at.true)
    ]

pub returns-then-is_at-clause-kind : goal.returns-then-is_at-clause-kind
returns-then-is_at-clause-kind c =
    let declared = c.args.self.now in
    (c.in_ok-found.ensures (texts_of declared.names.keys) (kinds declared.objects) declared.outlined).kind
