use Rattle.std.proofs.Common.{◌≡◌, ◌∙◌, [], ap, subst, arith, rules}
use Rattle.json.specs.Lex.{tokens}
use Rattle.doc_tokens.specs.Pulled.{ReadsValue}
use Rattle.std.specs.Prelude.{IfSome}
use Rattle.doc_tokens.specs.Passed.{AreCounted}
use Rattle.lang.proofs.RefusedLemmas.{no_value, value_known}
use Rattle.lang.proofs.SinglyLemmas.{if_some}
use Rattle.lang.proofs.document.notes_of.Goals as goal

pub returns-in_default : goal.returns-in_default
returns-in_default c = no_value c.args.bytes.now c.in_default.ensures

pub returns : goal.returns
returns c =
    let done = c.in-Ok.ensures.ok in
    let d = done.0 in
    let text = c.in-Some.text.now in
    let ended : c.note_value.new.reader ≡ [] = grind (arith, rules) in
    let begun : c.in_ok-reader.reader ≡ tokens text = c.in_ok-reader.ensures.ok in
    let reads = subst (λ ts. ReadsValue 127 ts d []) begun (subst (λ ts. ReadsValue 127 c.in_ok-reader.reader d ts) ended done.1) in
    let counted = subst (λ ts. IfSome c.in-Ok.noted (λ lists. AreCounted lists ts)) (begun ∙ ap tokens c.in-Some.ensures.1)
    c.in-Ok.ensures.counted in (
      d,
      value_known c.args.bytes.now text 127 d (omega arith) c.in-Some.ensures.0 c.in-Some.ensures.1 reads,
      done.2,
      if_some c.in-Ok.noted _ _ counted
          (λ lists noted. (subst (λ t. ReadsValue 127 (tokens t) d []) c.in-Some.ensures.1 reads, noted)),
    )
