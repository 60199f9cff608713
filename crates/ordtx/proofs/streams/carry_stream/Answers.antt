use Rattle.std.proofs.Common.{◌≡◌, Err, ap, rules}
use Rattle.faults.specs.declared.fault.Fault.{Fault}
use Rattle.ordtx.specs.Answers.{IsCarriedOf, IsCarryFaultOf}
use Rattle.ordtx.specs.Streams.{AnswersStream, IsRefusal}
use Rattle.ordtx.specs.declared.carrying.Uncarried.TheVariants as uncarried
use Rattle.ordtx.proofs.Known.{answered, handed_on, ok_or_err}
use Rattle.ordtx.proofs.streams.carry_stream.Goals as goal

one_first : (a b : Fault) → uncarried.First a ≡ uncarried.First b → a ≡ b
one_first a b e = cc

pub returns-in_err-write_text : goal.returns-in_err-write_text
returns-in_err-write_text g c =
    let read = c.in_ok-document.ensures in
    let wrote = c.in_err-write_text.ensures in
    let returned = c.from_residual-in_err-write_text in
    let first = ap uncarried.First wrote.fault in
    handed_on returned.result _ (λ r. AnswersStream IsCarriedOf (λ bytes. IsRefusal (IsCarryFaultOf bytes)) uncarried.First g.R.Source
    c.args.source.now c.read_document.new.source g.W.Sink c.args.sink.now c.write_text.new.sink r) returned.ensures.1
    (answered one_first _ _ (Err (uncarried.First c.in_err-write_text.field-0.0)) read.bytes read.mark tt wrote.beginning first
    (λ _. ap Err first, λ _. wrote.mark.1 (ap Err wrote.fault)) (search rules))

pub returns : goal.returns
returns g c =
    let read = c.in_ok-document.ensures in
    let wrote = c.in_ok-write_text.ensures in
    answered one_first _ _ _ read.bytes read.mark wrote.whole tt tt
    (λ failed. absurd (ok_or_err _ _ (wrote.mark.0 failed)), λ e. absurd (ok_or_err _ _ e)) (search rules)
