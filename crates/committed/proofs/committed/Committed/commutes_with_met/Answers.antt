use Rattle.std.proofs.Common.{◌≡◌, ◌<◌, ℕ, List, Bool, true, false, arith, refl, sym, ap, ◌∙◌, subst, get_or, inl, inr}
use Rattle.std.proofs.lemmas.Bool.{cases_lt, false≢true}
use Rattle.std.proofs.lemmas.Nat.Bits.{bit_at-zero}
use Rattle.std.specs.Int.{bit_at}
use Rattle.objects.specs.declared.entry.Entry.{Entry}
use Rattle.conflicts.specs.declared.classes.Class.{Class}
use Rattle.conflicts.specs.Classes.{class_of, class_number}
use Rattle.conflicts.specs.Items.{is_compared}
use Rattle.committed.specs.Headings.{heading_against}
use Rattle.committed.specs.Index.{IsLinked, IsListed}
use Rattle.objects.specs.Entries.{CommuteForward}
use Rattle.conflicts.proofs.EffectLemmas.{elsewhere}
use Rattle.committed.proofs.StandsLemmas.{all_first, each_first, linked_against}
use Rattle.committed.proofs.committed.Committed.commutes_with_met.Goals as goal

pub returns-then-met-eq0 : goal.returns-then-met-eq0
returns-then-met-eq0 c =
    let e = c.args.entry.now in
    let es = c.args.self.now in
    let one : (k : ℕ) → k < c.args.upto → CommuteForward e (get_or es k e) = λ k before. elim (c.requires.met k before) [
      | inl commutes ↦ commutes
      | inr bit ↦ (let n : ℕ = class_number (class_of (get_or es k e).call (get_or es k e).reply) in
          let none : bit_at c.args.met n ≡ 0 = ap (λ s. bit_at s n) c.if-met-eq0.true ∙ bit_at-zero n in
          absurd (omega (arith, bit, none)))
    ] in
    (λ _. all_first e es c.args.upto c.requires.within one, λ _. refl)

pub returns-then-listed-eq0 : goal.returns-then-listed-eq0
returns-then-listed-eq0 c =
    let e = c.args.entry.now in
    let es = c.args.self.now in
    let read : c.deref.result.now ≡ es = c.deref.ensures.value ∙ c.self.view_is in (
      λ h. all_first e es c.args.upto c.requires.within (λ k before.
          subst (λ xs. CommuteForward e (get_or xs k e)) read (c.commutes_past.ensures.0 h k (omega arith) before)),
      λ h. c.commutes_past.ensures.1 (λ k from before.
          subst (λ xs. CommuteForward e (get_or xs k e)) (sym read) (each_first e es c.args.upto c.requires.within h k before)),
    )

pub returns-then-not-commutes : goal.returns-then-not-commutes
returns-then-not-commutes c =
    let e = c.args.entry.now in
    let read : c.deref-in-Some.result.now ≡ c.args.self.now = c.deref-in-Some.ensures.value ∙ c.self.view_is in (
      λ h. absurd (false≢true h),
      λ h. absurd (false≢true (sym c.if-not-commutes.true ∙ c.commutes.ensures.all (λ k before linked.
          subst (λ es. CommuteForward e (get_or es k e)) (sym read)
          (each_first e c.args.self.now c.args.upto c.requires.within h k before)))),
    )

pub loop-class-init : goal.loop-class-init
loop-class-init c k before listed none = elim (c.requires.met k before) [
  | inl commutes ↦ commutes
  | inr bit ↦ absurd (omega (arith, none, bit))
]

pub loop-class-preserved : goal.loop-class-preserved
loop-class-preserved c k before listed gone = elim (c.taken_from-rest.ensures.others class gone) [
  | inl here ↦ by_compared here (is_compared e other) refl
  | inr earlier ↦ c.loop-class.invariant k before listed earlier
]
  where
    e : Entry
    e = c.args.entry.now

    es : List Entry
    es = c.args.self.now

    other : Entry
    other = get_or es k e

    class : Class
    class = class_of other.call other.reply

    inside_listed : IsListed c.self.inside.index k other
    inside_listed = subst (λ xs. IsListed c.self.inside.index k (get_or xs k e)) c.self.view_is
        (c.self.invariant.index.listed k listed e)

    by_compared : class ≡ c.in-Some.class → (b : Bool) → is_compared e other ≡ b → CommuteForward e other
    by_compared here false compared = elsewhere e other compared
    by_compared here true compared =
        let linked : IsLinked c.self.inside.index k c.against-heading.result =
        subst (IsLinked c.self.inside.index k) (ap (heading_against e) here ∙ sym c.against-heading.ensures)
        (linked_against c.self.inside.index e other k compared inside_listed) in
        subst (λ xs. CommuteForward e (get_or xs k e)) (c.deref-in-Some.ensures.value
        ∙ c.self.view_is) (c.commutes.ensures.found c.if-not-commutes.false k before linked)

pub returns : goal.returns
returns c =
    let e = c.args.entry.now in
    let es = c.args.self.now in
    let read : c.deref-2.result.now ≡ es = c.deref-2.ensures.value ∙ c.self.view_is in (
      λ h. all_first e es c.args.upto c.requires.within (λ k before. elim (cases_lt k c.self.inside.index.listed) [
        | inl listed ↦ c.loop-class.invariant k before listed
            (c.in_default.ensures.none refl (class_of (get_or es k e).call (get_or es k e).reply))
        | inr past ↦ subst (λ xs. CommuteForward e (get_or xs k e)) read
            (c.commutes_past-2.ensures.0 h k (omega (arith, past, c.listed-2.ensures)) before)
      ]),
      λ h. c.commutes_past-2.ensures.1 (λ k from before.
          subst (λ xs. CommuteForward e (get_or xs k e)) (sym read) (each_first e es c.args.upto c.requires.within h k before)),
    )
