use Rattle.std.proofs.Common.{◌≡◌, ◌++◌, ◌∷◌, [], None, Some, decimal, length, sym, subst, ap, ◌∙◌, arith, rules}
use Rattle.std.proofs.lemmas.List.{length-append}
use Rattle.json.specs.Json.{after_end_array, value}
use Rattle.serde_json.specs.Events.{items_len}
use Rattle.serde_json.specs.Read.{converted, of_json}
use Rattle.objects.specs.Entries.{State, kinds}
use Rattle.batch.specs.Names.{texts_of}
use Rattle.doc_tree.specs.Scope.{numbers_of, setting_of}
use Rattle.doc_tokens.specs.Pulled.{ReadsValue}
use Rattle.doc_tree.proofs.Checks.{passed_on}
use Rattle.doc_tokens.proofs.PassLemmas.{items_refused, items_split}
use Rattle.doc_tokens.proofs.PulledLemmas.{reads_shorter}
use Rattle.lang.specs.Found.{IsBelow}
use Rattle.lang.proofs.EachObject.{object_fault, objects_begin, objects_done, objects_next}
use Rattle.lang.proofs.SinglyLemmas.{matched_err, matched_ok, only_memory}
use Rattle.lang.proofs.singly.each_object.Goals as goal

pub loop-limits-init : goal.loop-limits-init
loop-limits-init c = (
  objects_begin c.args.version c.args.reader.now c.args.counts.now (numbers_of c.args.numbering.now)
      (texts_of c.with_hasher-names.result.keys) c.new-objects.result (ap texts_of c.with_hasher-names.ensures.empty) c.new-objects.ensures,
  omega (arith, ap length c.new-objects.ensures),
)

pub loop-limits-smaller : goal.loop-limits-smaller
loop-limits-smaller c =
    let same : c.take_end_array.new.self ≡ c.loop-limits.reader = grind arith in
    let done = c.in_ok-start.ensures.ok in
    omega (arith, reads_shorter 125 _ done.0 _ done.1, ap length same)

pub loop-limits-preserved : goal.loop-limits-preserved
loop-limits-preserved c =
    let l = c.loop-limits in
    let answer = c.in_ok-start.ensures.ok in
    let x = c.in-Ok.start in
    let done = matched_ok c.in_ok-start.field-0 x _ _ c.in-Ok.is answer.2 in
    let new = c.one_object.new in
    let going : (after_end_array l.reader ≡ None) × (c.take_end_array.new.self ≡ l.reader) = grind arith in
    let pushed : c.push.new.self ≡ l.objects ++ x ∷ [] = grind (arith, rules) in
    let first = subst (λ ts. ReadsValue 125 ts answer.0 new.reader) going.1 answer.1 in (
      objects_next c.args.version c.args.reader.now c.args.counts.now (numbers_of c.args.numbering.now) l.reader new.reader [] l.counts
          new.counts (numbers_of l.numbering) (numbers_of new.numbering) (texts_of l.names.keys) (texts_of new.names.keys) l.objects
          c.push.new.self answer.0 l.invariant.0 going.0 (first 125 (omega arith)) x done.0 done.1 done.2 pushed,
      omega (
        arith,
        ap length pushed,
        length-append l.objects (x ∷ []),
        c.if-len-limits.false,
        c.len.ensures,
        ap (λ limits. limits.objects) c.of-limits.ensures,
      ),
    )

pub returns-then-len-limits-clause-err : goal.returns-then-len-limits-clause-err
returns-then-len-limits-clause-err c os rest writes few =
    let l = c.loop-limits in
    let going : (after_end_array l.reader ≡ None) × (c.take_end_array.new.self ≡ l.reader) = grind arith in
    let here = l.invariant.0.writes os rest writes in
    let next = items_split 125 l.reader here.0 rest here.2 going.0 in
    let counted = ap items_len here.1 ∙ l.invariant.0.counted here.0 in
    absurd (omega (
      arith,
      few,
      counted,
      ap items_len next.4,
      c.if-len-limits.true,
      c.len.ensures,
      ap (λ limits. limits.objects) c.of-limits.ensures,
    ))

pub returns-in_err-start-clause-err : goal.returns-in_err-start-clause-err
returns-in_err-start-clause-err c =
    let l = c.loop-limits in
    let going : (after_end_array l.reader ≡ None) × (c.take_end_array.new.self ≡ l.reader) = grind arith in
    let e = c.in_err-start.field-0.0 in
    passed_on c.from_residual.result _ e c.from_residual.ensures.1 (λ os rest writes few.
    let here = l.invariant.0.writes os rest writes in
    only_memory e (converted of_json (value 125 c.take_end_array.new.self))
    (λ none. items_refused 125 l.reader here.0 rest here.2 going.0 (ap (λ ts. converted of_json (value 125 ts)) (sym going.1) ∙ none))
    c.in_err-start.ensures.err)

pub returns-in-Err-clause-ok : goal.returns-in-Err-clause-ok
returns-in-Err-clause-ok c os rest writes =
    let l = c.loop-limits in
    let answer = c.in_ok-start.ensures.ok in
    let e = c.in-Err.inner in
    let failed = matched_err c.in_ok-start.field-0 e _ _ c.in-Err.is answer.2 in
    let new = c.one_object.new in
    let going : (after_end_array l.reader ≡ None) × (c.take_end_array.new.self ≡ l.reader) = grind arith in
    let first = subst (λ ts. ReadsValue 125 ts answer.0 new.reader) going.1 answer.1 in
    let counted : c.len-in-Err.result ≡ length l.objects = grind (arith, rules) in
    let misread = c.in_ok-misread-in-Err.misread in
    let seen : IsBelow (decimal (length l.objects)) e misread =
    subst (λ i. IsBelow (decimal i) e misread) counted c.in_ok-misread-in-Err.ensures in
    object_fault c.args.version c.args.reader.now c.args.counts.now (numbers_of c.args.numbering.now) l.reader new.reader [] l.counts
    new.counts (numbers_of l.numbering) (numbers_of new.numbering) (texts_of l.names.keys) (texts_of new.names.keys) l.objects
    l.objects answer.0 l.invariant.0 going.0 (first 125 (omega arith)) os rest e misread writes (omega (arith, counted)) failed seen

pub returns-clause-ok : goal.returns-clause-ok
returns-clause-ok c os rest writes =
    let l = c.loop-limits in
    let after = numbers_of l.numbering in
    let made = c.in_ok-declared.ensures in
    let closed : after_end_array l.reader ≡ Some c.take_end_array.new.self = grind arith in
    let all = objects_done c.args.version c.args.reader.now c.args.counts.now (numbers_of c.args.numbering.now) l.reader
    c.take_end_array.new.self l.counts after (texts_of l.names.keys) l.objects l.invariant.0 closed os rest writes in
    let same : setting_of c.in_ok-declared.declared
    ≡ record { version = c.args.version; names = texts_of l.names.keys; kinds = kinds l.objects } =
    λ i. record { version = made.version i; names = texts_of (made.names i); kinds = kinds (made.objects i) } in (
      all.0,
      same ∙ all.1,
      ap (λ (os : State). (os, after)) made.objects ∙ all.2,
    )
