use Rattle.std.proofs.Common.{◌≡◌, ◌-◌, ◌<◌, [], ◌∷◌, ◌++◌, length, refl, ap, ◌∙◌, subst, arith}
use Rattle.std.proofs.lemmas.List.{get_or_read}
use Rattle.rounds.proofs.Settling.{AreTaken, one_taken, moved}
use Rattle.rounds.proofs.window.Window.settle.Goals as goal

pub loop-place-preserved : goal.loop-place-preserved
loop-place-preserved c =
    let old = c.args.self.now in
    let window = c.loop-place.self in
    let place = c.loop-place.place in
    let run = c.index_mut.result.now in
    let records = c.loop-place.records.items in
    let so_far = c.loop-place.invariant in
    let low = c.requires.from.0 in
    let ordered = c.requires.from.1 in
    let high = c.requires.end in
    let before = c.loop-place-test.true in
    let size = so_far.runs in
    let inside : place < length old.runs.items = omega arith in
    let here : place < length window.runs.items = omega arith in
    one_taken (c.args.from - old.first) place old window _ c.args.records.now.items records c.push.new.self.items run c.take_record.new.self
    c.loop-place.auto.place inside so_far (get_or_read window.runs.items place run here c.index_mut.ensures.value run) refl refl refl
    (c.in_ok-push.ensures.items ∙ ap (λ r. records ++ r ∷ []) c.take_record.ensures)

pub returns-then-count-len : goal.returns-then-count-len
returns-then-count-len c =
    let old = c.args.self.now in
    let so_far = c.loop-place.invariant in
    let low = c.requires.from.0 in
    let ordered = c.requires.from.1 in
    let high = c.requires.end in
    let count = c.args.end - old.first in
    let over = c.loop-place-test.false in
    let within = c.loop-place.auto.place-end in
    let all : c.loop-place.place ≡ count = omega arith in
    moved c.args.from c.args.end (c.args.from - old.first) count old c.loop-place.self c.move_up.new.self _ c.args.records.now
    c.loop-place.records c.requires.flags low ordered high refl refl
    (subst (λ n. AreTaken (c.args.from - old.first) n old c.loop-place.self c.args.records.now.items c.loop-place.records.items) all so_far)
    c.move_up.ensures refl refl refl
