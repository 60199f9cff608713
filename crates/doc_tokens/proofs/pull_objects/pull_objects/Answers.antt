use Rattle.std.proofs.Common.{◌≡◌, ◌++◌, ◌∷◌, [], None, Some, length, subst, ap, ◌∙◌, arith, rules}
use Rattle.std.proofs.lemmas.List.{length-append}
use Rattle.json.specs.Json.{after_end_array}
use Rattle.objects.specs.Entries.{State, kinds}
use Rattle.batch.specs.Names.{texts_of}
use Rattle.doc_tree.specs.Scope.{numbers_of, setting_of}
use Rattle.doc_tokens.specs.Pulled.{ReadsValue}
use Rattle.doc_tokens.proofs.ObjectLemmas.{no_objects, object_more, objects_whole}
use Rattle.doc_tokens.proofs.PulledLemmas.{reads_shorter}
use Rattle.doc_tokens.proofs.pull_objects.pull_objects.Goals as goal

pub loop-objects-init : goal.loop-objects-init
loop-objects-init c = (
  no_objects c.args.version c.args.reader.now c.args.counts.now (numbers_of c.args.numbering.now)
      (texts_of c.with_hasher-names.result.keys) c.new-objects.result (ap texts_of c.with_hasher-names.ensures.empty) c.new-objects.ensures,
  omega (arith, ap length c.new-objects.ensures),
)

pub loop-objects-smaller : goal.loop-objects-smaller
loop-objects-smaller c =
    let same : c.take_end_array.new.self ≡ c.loop-objects.reader = grind arith in
    let done = c.in_ok-value.ensures in
    omega (arith, reads_shorter 125 _ done.0 _ done.1, ap length same)

pub loop-objects-preserved : goal.loop-objects-preserved
loop-objects-preserved c =
    let l = c.loop-objects in
    let x = c.in_ok-value.value in
    let done = c.in_ok-value.ensures in
    let new = c.pull_declaration.new in
    let going : (after_end_array l.reader ≡ None) × (c.take_end_array.new.self ≡ l.reader) = grind arith in
    let pushed : c.push.new.self ≡ l.objects ++ x ∷ [] = grind (arith, rules) in (
      object_more c.args.version c.args.reader.now c.args.counts.now (numbers_of c.args.numbering.now) l.reader new.reader l.counts
          new.counts (numbers_of l.numbering) (numbers_of new.numbering) (texts_of l.names.keys) (texts_of new.names.keys) l.objects
          c.push.new.self done.0 x l.invariant.0 going.0 (subst (λ ts. ReadsValue 125 ts done.0 new.reader) going.1 done.1) done.2 done.3
          done.4 pushed,
      omega (
        arith,
        ap length pushed,
        length-append l.objects (x ∷ []),
        c.if-len-of.false,
        c.len.ensures,
        ap (λ limits. limits.objects) c.of.ensures,
      ),
    )

pub returns : goal.returns
returns c =
    let l = c.loop-objects in
    let after = numbers_of l.numbering in
    let made = c.in_ok-declared.ensures in
    let closed : after_end_array l.reader ≡ Some c.take_end_array.new.self = grind arith in
    let all = objects_whole c.args.version c.args.reader.now c.args.counts.now (numbers_of c.args.numbering.now) l.reader
    c.take_end_array.new.self l.counts after (texts_of l.names.keys) l.objects l.invariant.0 closed l.invariant.1 in
    let same : setting_of c.in_ok-declared.declared
    ≡ record { version = c.args.version; names = texts_of l.names.keys; kinds = kinds l.objects } =
    λ i. record { version = made.version i; names = texts_of (made.names i); kinds = kinds (made.objects i) } in (
      all.0,
      all.1,
      all.2,
      all.3,
      ap texts_of made.names ∙ all.4,
      same ∙ all.5,
      ap (λ (os : State). (os, after)) made.objects ∙ all.6,
    )
