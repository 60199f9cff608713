use Rattle.std.proofs.Common.{◌≡◌, ◌+◌, ◌<◌, ◌≤◌, ◌∷◌, [], List, ℕ, length, get_or, set, take, drop, sym, ap, ◌∙◌, arith}
use Rattle.std.proofs.lemmas.List.{take_all, take_more, take-append-drop, get_or_read, length-set, get_or-set_same, get_or-set_other}
use native.Mathlib.Decide.{ℕ_discrete}
use Rattle.claims.specs.Views.{times}
use Rattle.claims.proofs.Lists.{times-append}
use Rattle.rounds.proofs.Times.{times_one, times_none, times_read}
use Rattle.rounds.proofs.openings.count.Goals as goal

-- a number comes once more with the place at which it is
one_more : (numbers : List ℕ) (k i : ℕ) → k < length numbers
    → times i (take (k + 1) numbers) ≡ times i (take k numbers) + times i (get_or numbers k 0 ∷ [])
one_more numbers k i lt = ap (times i) (take_more numbers k 0 lt) ∙ times-append i (take k numbers) (get_or numbers k 0 ∷ [])

-- it comes no more often among the first than among all
no_more : (numbers : List ℕ) (k i : ℕ) → times i (take k numbers) ≤ times i numbers
no_more numbers k i = omega (arith, ap (times i) (take-append-drop k numbers), times-append i (take k numbers) (drop k numbers))

pub index_mut-requires : goal.index_mut-requires
index_mut-requires c =
    let numbers = c.args.numbers.now in
    let inside = c.requires.within (get_or numbers c.loop-number.number-index 0)
    (times_read numbers c.loop-number.number-index 0 c.loop-number-test.true) in
    let all = c.loop-number.invariant.all in
    omega arith

pub overflow_add-index_mut : goal.overflow_add-index_mut
overflow_add-index_mut c =
    let numbers = c.args.numbers.now in
    let at = c.loop-number.number-index in
    let number = get_or numbers at 0 in
    let inside = c.requires.within number (times_read numbers at 0 c.loop-number-test.true) in
    let all = c.loop-number.invariant.all in
    let counts = c.loop-number.counts.items in
    let place : number < length counts = omega arith in
    let value = get_or_read counts number c.index_mut.result.now place c.index_mut.ensures.value 0 in
    let counted = c.loop-number.invariant.counted number in
    let few = c.requires.few number in
    let one = one_more numbers at number c.loop-number-test.true in
    let low = no_more numbers (at + 1) number in
    let here = times_one number in
    omega arith

pub loop-number-preserved : goal.loop-number-preserved
loop-number-preserved c =
    let numbers = c.args.numbers.now in
    let at = c.loop-number.number-index in
    let number = get_or numbers at 0 in
    let inside = c.requires.within number (times_read numbers at 0 c.loop-number-test.true) in
    let so_far = c.loop-number.invariant in
    let all = so_far.all in
    let counts = c.loop-number.counts.items in
    let more = c.index_mut.result.now + 1 in
    let place : number < length counts = omega arith in
    let value = get_or_read counts number c.index_mut.result.now place c.index_mut.ensures.value 0 in
    record {
      all = length-set counts number more ∙ so_far.all;
      counted = λ i.
          let one = one_more numbers at i c.loop-number-test.true in
          let before = so_far.counted i in
          elim (ℕ_discrete i number) [
            | yes is ↦
                let here : get_or (set counts number more) i 0 ≡ more = ap (λ j. get_or (set counts number more) j 0) is
                ∙ get_or-set_same counts number more 0 place in
                let same : get_or counts i 0 ≡ get_or counts number 0 = ap (λ j. get_or counts j 0) is in
                let once : times i (number ∷ []) ≡ 1 = ap (λ n. times i (n ∷ [])) (sym is) ∙ times_one i in
                omega arith
            | no other ↦
                let same = get_or-set_other counts number i more 0 other in
                let none = times_none i number (λ h. other (sym h)) in
                omega arith
          ];
    }

pub returns-clause-counted : goal.returns-clause-counted
returns-clause-counted c i =
    let over = c.loop-number-test.false in
    let within = c.loop-number.auto.number-index-end in
    let numbers = c.args.numbers.now in
    c.loop-number.invariant.counted i
    ∙ ap (λ ns. get_or c.args.counts.now.items i 0 + times i ns) (take_all c.loop-number.number-index numbers (omega arith))
