use Rattle.std.proofs.Common.{◌≡◌, ◌∙◌, true, false, true≢false, ap, refl, sym}
use Rattle.faults.specs.Faults.{input_fault, is_of_reading, output_fault}
use Rattle.faults.specs.declared.fault.Fault.{Fault}
use Rattle.ordtx.specs.Answers.{IsCarriedIntoOf, IsCarryIntoFaultOf, fault_of}
use Rattle.ordtx.specs.Streams.{AnswersStream, IsRefusal, OfRead}
use Rattle.ordtx.specs.declared.carrying.Uncarried.{Uncarried}
use Rattle.ordtx.specs.declared.carrying.Uncarried.TheVariants as uncarried
use Rattle.ordtx.proofs.Known.{document_refused, handed_on, of_read}
use Rattle.ordtx.proofs.streams.carry_into_stream.Goals as goal

-- a refusal that comes of bytes alone is no failed input or output
of_bytes : (error : Uncarried) (fault : Fault) → is_of_reading (fault_of error).code ≡ true → is_of_reading fault.code ≡ false
    → error ≡ uncarried.First fault → ⊥
of_bytes error fault reading other e = true≢false (sym reading ∙ ap (λ x. is_of_reading (fault_of x).code) e ∙ other)

pub returns-in_err-text-clause-answer : goal.returns-in_err-text-clause-answer
returns-in_err-text-clause-answer g c =
    let read = c.in_ok-first.ensures in
    let error = c.in_err-text.field-0.0 in
    let refused = c.in_err-text.ensures in
    let returned = c.from_residual-in_err-text in
    let input = g.S.Source.remaining c.args.next.now in
    handed_on returned.result error (λ r. AnswersStream (λ first text. OfRead (λ next. IsCarriedIntoOf first next text) input)
    (λ first e. OfRead (λ next. IsRefusal (IsCarryIntoFaultOf first next) e) input) uncarried.First g.R.Source
    c.args.source.now c.read_document.new.source g.W.Sink c.args.sink.now c.args.sink.now r) returned.ensures.1
    (document_refused _ error read.bytes read.mark c.requires.unwritten (of_bytes error input_fault refused.code refl)
    (of_bytes error output_fault refused.code refl)
    (λ _. of_read (λ next. IsRefusal (IsCarryIntoFaultOf c.in_ok-first.first.items next) error) _ _ _ c.in-Ok.ensures.bytes
    (λ memory _ _. refused.fault memory)))
