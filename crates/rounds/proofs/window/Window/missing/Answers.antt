use Rattle.std.proofs.Common.{◌≡◌, ◌<◌, ◌-◌, [], ◌∷◌, length, get_or, false, refl, sym, ap, ◌∙◌, subst, arith, append-nil}
use Rattle.rounds.specs.Windows.{AreMissing, still_to_be_made}
use Rattle.rounds.proofs.Times.{times_one, times_none}
use Rattle.rounds.proofs.WindowLemmas.{none_missing, one_missing}
use Rattle.std.proofs.lemmas.List.{get_or_read}
use Rattle.rounds.proofs.window.Window.missing.Goals as goal
use Rattle.rounds.proofs.window.Window.missing.Goals.{then-not-index+in_ok-push, else-not-index}

pub loop-number-init : goal.loop-number-init
loop-number-init c = subst (AreMissing c.args.self.now c.args.from c.args.from) (sym c.new-numbers.ensures.items)
    (none_missing c.args.self.now c.args.from)

pub loop-number-preserved : goal.loop-number-preserved
loop-number-preserved c =
    let window = c.args.self.now in
    let place = c.loop-number.number in
    let so_far = c.loop-number.invariant in
    let flags = c.requires.flags in
    let high = c.requires.end in
    let low = c.requires.from.0 in
    let later = c.loop-number.auto.number in
    let inside : place - window.first < length window.valid.items = let lt = c.loop-number-test.true in omega arith in
    let flag : get_or window.valid.items (place - window.first) false ≡ c.index.result.now =
    sym (get_or_read window.valid.items (place - window.first) c.index.result.now inside c.index.ensures false) in
    elim c.if-not-index.branch [
      | then-not-index+in_ok-push w ↦
          one_missing window c.args.from place c.loop-number.numbers.items (place ∷ []) c.if-not-index.numbers.items
          c.loop-number.auto.number so_far (ap (λ v. v.items) w.numbers-is ∙ w.in_ok-push.ensures.items)
          (λ i other. times_none i place (λ h. other (sym h)))
          (times_one place ∙ ap still_to_be_made (sym (flag ∙ w.if-not-index.true))) (omega arith)
      | else-not-index w ↦
          one_missing window c.args.from place c.loop-number.numbers.items [] c.if-not-index.numbers.items
          c.loop-number.auto.number so_far (ap (λ v. v.items) w.numbers-is ∙ sym (append-nil c.loop-number.numbers.items))
          (λ i other. refl) (ap still_to_be_made (sym (flag ∙ w.if-not-index.false))) (omega arith)
    ]

pub returns : goal.returns
returns c =
    let over = c.loop-number-test.false in
    let from = c.requires.from.1 in
    let within = c.loop-number.auto.number-end (omega arith) in
    let last : c.loop-number.number ≡ c.args.end = omega arith in
    record { missing = subst (λ n. AreMissing c.args.self.now c.args.from n c.loop-number.numbers.items) last c.loop-number.invariant }
