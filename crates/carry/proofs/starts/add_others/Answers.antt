use Rattle.std.proofs.Common.{◌≡◌, ◌∙◌, ◌+◌, ◌++◌, ◌∷◌, ap, drop, map, refl, sym, List, Bool}
use Rattle.std.specs.Option.{option_copied}
use Rattle.std.specs.Prelude.{if◌then◌else◌}
use Rattle.batch.specs.Names.{names_of, texts_of}
use Rattle.doc_tree.specs.Scope.{is_listed}
use Rattle.carry.specs.Joined.{StartOf, added, named_view, start_of, start_view}
use Rattle.carry.proofs.Adding.{pushed}
use Rattle.carry.proofs.Walking.{next_value}
use Rattle.carry.proofs.starts.add_others.Goals as goal
use Rattle.carry.proofs.starts.add_others.Goals.{then-not-is_listed+in_ok-push, else-not-is_listed}

pub loop-place-preserved : goal.loop-place-preserved
loop-place-preserved c =
    let first = named_view c.args.first in
    let known = texts_of c.args.next_names.now.keys in
    let place = c.loop-place.place in
    let old = c.loop-place.starts.items in
    let there = sym c.value.ensures ∙ ap option_copied c.in-Some.is in
    let start : StartOf = start_of first place c.in-Some.value.now in
    let rest : List StartOf = added first known (place + 1) (drop (place + 1) first.values) in
    let listed = c.is_listed.ensures ∙ ap (λ name. is_listed name known) c.object_name.ensures in
    let split : added first known place (drop place first.values)
    ≡ (if is_listed ((names_of first.texts).object place) known then rest else start ∷ rest) =
    ap (added first known place) (next_value first.values place c.in-Some.value.now there) in
    let by : (b : Bool) → c.is_listed.result ≡ b → added first known place (drop place first.values)
    ≡ (if b then rest else start ∷ rest) =
    λ b is. split ∙ ap (λ l. if l then rest else start ∷ rest) (sym listed ∙ is) in
    elim c.if-not-is_listed.branch [
      | then-not-is_listed+in_ok-push w ↦
          pushed start_view old c.if-not-is_listed.starts.items _ start _ rest _ (by _ w.if-not-is_listed.true)
          (ap (λ v. v.items) w.starts-is ∙ w.in_ok-push.ensures.items) refl c.loop-place.invariant
      | else-not-is_listed w ↦
          ap (λ v. map start_view v.items ++ rest) w.starts-is
          ∙ ap (λ l. map start_view old ++ l) (sym (by _ w.if-not-is_listed.false)) ∙ c.loop-place.invariant
    ]
