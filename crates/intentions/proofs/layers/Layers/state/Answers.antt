use Rattle.std.proofs.Common.{Some, [], ◌∷◌, ◌++◌, take, arith, sym, ap, ◌∙◌, rules}
use Rattle.std.proofs.lemmas.List.{take_more}
use Rattle.intentions.proofs.EntriesLemmas.{get-past, get_or-found}
use Rattle.intentions.proofs.layers.Layers.state.Goals as goal

pub unreachable-requires : goal.unreachable-requires
unreachable-requires c = get-past c.args.self.now.shown c.loop-object.object (omega arith) (sym c.in-None.ensures)

pub loop-object-preserved : goal.loop-object-preserved
loop-object-preserved c =
    let shown = c.args.self.now.shown in
    let value = c.in_ok-whole-in-Some.field-0 in
    let found = get_or-found shown c.loop-object.object value (sym c.in-Some.ensures
    ∙ ap (λ v. Some v) (sym c.in_ok-whole-in-Some.ensures.value)) in
    c.in_ok-push-in-Some.ensures.ok ∙ ap (λ ws. ws ++ value ∷ []) c.loop-object.invariant
    ∙ ap (λ v. take c.loop-object.object shown ++ v ∷ []) (sym found)
    ∙ sym (take_more shown c.loop-object.object value (omega arith))

pub loop-object-init : goal.loop-object-init
loop-object-init c = search rules
