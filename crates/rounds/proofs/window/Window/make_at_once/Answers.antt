use Rattle.std.proofs.Common.{◌≡◌, ◌∙◌, ⊎_elim, inl, inr, ◌+◌, ◌-◌, ◌<◌, ◌≤◌, [], ◌∷◌, length, get_or, true, refl, sym, ap, subst, arith}
use Rattle.std.specs.List.{All}
use Rattle.std.proofs.lemmas.Bool.{false≢true}
use native.Mathlib.Decide.{ℕ_discrete}
use Rattle.std.proofs.lemmas.List.{length-set}
use Rattle.objects.specs.Entries.{kinds}
use Rattle.speculate.proofs.Room.{kinds_at}
use Rattle.claims.specs.Views.{times}
use Rattle.rounds.specs.Passes.{CanBeMade}
use Rattle.rounds.specs.PendingRuns.{IsMade, numbers_of}
use Rattle.rounds.specs.Windows.{flag_at, end_of, IsValid}
use Rattle.rounds.specs.declared.make.NumberedRun.{NumberedRun}
use Rattle.rounds.proofs.Room.{made_at}
use Rattle.rounds.proofs.Times.{times_none, times_read}
use Rattle.rounds.proofs.Making.{all_front, times_numbers}
use Rattle.rounds.proofs.Listing.{grown_on, not_grown}
use Rattle.rounds.proofs.WindowLemmas.{flag_set, one_made, put_grown, all_asked, some_made}
use Rattle.rounds.proofs.Passing.{flag_passing}
use Rattle.rounds.proofs.window.Window.make_at_once.Goals as goal

pub make_all-requires-clause-within : goal.make_all-requires-clause-within
make_all-requires-clause-within g c κs lives k d lt =
    let place = c.requires.places k d lt in
    let low = place.0 in
    let below = place.1 in
    let all = c.requires.window.within in
    let number = get_or c.args.numbers.now k d in
    let opening = c.requires.opening in
    let early = opening.low in
    subst (λ s. CanBeMade c.args.job.now.batch.now s number) (sym opening.is)
    (made_at c.args.job.now.batch.now opening.opened opening.within number (omega arith) (omega arith))

pub make_all-requires-clause-same_kinds : goal.make_all-requires-clause-same_kinds
make_all-requires-clause-same_kinds g c κs within =
    ap kinds c.requires.opening.is ∙ kinds_at c.args.job.now.batch.now c.requires.opening.opened c.requires.opening.within

pub putting-init : goal.putting-init
putting-init g c =
    let made = c.in_ok-made.ensures in
    let numbers = c.args.numbers.now in
    record {
      window = c.requires.window;
      grown = not_grown c.args.from c.args.self.now;
      all = refl;
      left = made.each;
      places = all_asked (λ n. (c.args.from ≤ n) × (n < end_of c.args.self.now)) numbers c.in_ok-made.made.items
          c.requires.places made.dealt;
      put = λ i low some. let same = made.dealt i in inr (omega arith);
      flags = c.in_ok-passing.ensures.all ∙ (c.saturating_sub.ensures ∙ ap (λ n. n - c.args.from) c.end.ensures);
      passing = λ i d low set. absurd (false≢true (sym (c.in_ok-passing.ensures.none (i - c.args.from)) ∙ set));
    }

pub put-requires-clause-number : goal.put-requires-clause-number
put-requires-clause-number g c =
    let so_far = c.putting.invariant in
    let Inside : NumberedRun → Type 0 = λ m. (c.args.from ≤ m.number) × (m.number < end_of c.args.self.now) in
    let popped = all_front Inside c.pop.new.self.items c.in-Some.next (subst (All Inside) c.in-Some.ensures.items so_far.places) in
    let below = popped.1.1 in
    let all = so_far.all in
    let begun = so_far.window.begun in
    let first = so_far.grown.first in
    let later = popped.1.0 in
    (omega arith, omega arith)

pub putting-preserved : goal.putting-preserved
putting-preserved g c =
    let batch = c.args.job.now.batch.now in
    let state = c.args.objects.now in
    let from = c.args.from in
    let first = c.args.self.now in
    let old = c.putting.self in
    let new = c.put.new.self in
    let next = c.in-Some.next in
    let rest = c.pop.new.self.items in
    let so_far = c.putting.invariant in
    let Inside : NumberedRun → Type 0 = λ m. (from ≤ m.number) × (m.number < end_of first) in
    let popped = all_front Inside rest next (subst (All Inside) c.in-Some.ensures.items so_far.places) in
    let Made : NumberedRun → Type 0 = IsMade batch state c.args.nets.now in
    let made = all_front Made rest next (subst (All Made) c.in-Some.ensures.items so_far.left) in
    let below = popped.1.1 in
    let all = so_far.all in
    let flags = so_far.window.flags in
    let begun = so_far.window.begun in
    let begins = so_far.grown.first in
    let later = popped.1.0 in
    let run = next.run.value in
    let low : old.first ≤ next.number = omega arith in
    let inside : next.number < end_of old = omega arith in
    let flagged : next.number < old.first + length old.valid.items = omega arith in
    let put = put_grown from old new next.number run later low flagged inside c.put.ensures.first c.put.ensures.runs
    c.put.ensures.valid in
    record {
      window = one_made batch from state old new next.number run so_far.window later inside made.1.0 c.put.ensures.first
          c.put.ensures.runs c.put.ensures.valid;
      grown = grown_on from first old new so_far.grown put;
      all = ap length c.put.ensures.runs ∙ (length-set old.runs.items (next.number - old.first) run ∙ so_far.all);
      left = made.0;
      places = popped.0;
      put = λ i from some. elim (ℕ_discrete i next.number) [
        | yes is ↦ inl (ap (flag_at new) is
            ∙ (flag_set old new next.number true low flagged c.put.ensures.first c.put.ensures.valid).0)
        | no other ↦ ⊎_elim (λ (valid : IsValid old i). inl (put.still i (omega arith) valid))
            (λ (left : 0 < times i (numbers_of c.putting.made.items)).
            let split : times i (numbers_of c.putting.made.items) ≡ times i (numbers_of rest) + times i (next.number ∷ []) =
            ap (λ ms. times i (numbers_of ms)) c.in-Some.ensures.items ∙ times_numbers i rest (next ∷ []) in
            let none = times_none i next.number (λ h. other (sym h)) in
            inr (omega arith))
            (so_far.put i from some)
      ];
      flags = length-set c.putting.passing.items (next.number - from) next.passes ∙ so_far.flags;
      passing = flag_passing c.args.nets.now from old new next.number run next.passes c.putting.passing.items _ low inside later
          (let size = so_far.flags in omega arith) so_far.passing made.1.1 c.put.ensures.first c.put.ensures.runs refl
          so_far.window.begun;
    }

pub returns-clause-valid : goal.returns-clause-valid
returns-clause-valid g c k d lt =
    let number = get_or c.args.numbers.now k d in
    ⊎_elim (λ (valid : IsValid c.putting.self number). valid)
    (λ (left : 0 < times number (numbers_of c.putting.made.items)).
    absurd (false≢true (c.in_default.ensures.variant.1 (let some = some_made number c.putting.made.items left in omega arith))))
    (c.putting.invariant.put number (c.requires.places k d lt).0 (times_read c.args.numbers.now k d lt))
