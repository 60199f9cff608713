use Rattle.std.proofs.Common.{◌≡◌, ◌∙◌, Ok, string_bytes, subst, sym}
use Rattle.std.proofs.lemmas.Result.{IfErr-weaker, IfOk-weaker}
use Rattle.lang.specs.Reading.{document_of, reading}
use Rattle.ordtx.specs.Answers.{IsCarriedIntoOf, IsCarryIntoFaultOf, refusal_of}
use Rattle.ordtx.proofs.NamesApart.{names_apart}
use Rattle.ordtx.proofs.carrying.carried_into_of.Goals as goal

pub name_table-requires-clause-apart : goal.name_table-requires-clause-apart
name_table-requires-clause-apart g c = names_apart c.args.first.items (document_of c.in_ok-batch.batch) c.in_ok-batch.ensures.batch

pub name_table-requires-2-clause-apart : goal.name_table-requires-2-clause-apart
name_table-requires-2-clause-apart g c = names_apart c.as_slice-2.result.now (document_of c.in-Ok.batch) c.in-Ok.ensures.batch

pub returns : goal.returns
returns g c =
    let reads = subst (λ bytes. reading bytes ≡ Ok (document_of c.in-Ok.batch))
    (c.as_slice-2.ensures.value ∙ sym c.as_slice-4.ensures.value) c.in-Ok.ensures.batch in
    let first = c.in_ok-batch.ensures.batch in
    let given = c.carried_into_batch.ensures in
    record {
      answer = IfOk-weaker c.carried_into_batch.result _ _
          (λ text is. subst (λ bytes. IsCarriedIntoOf c.args.first.items bytes (string_bytes text)) c.as_slice-4.ensures.value
          (is c.args.first.items first reads)) given.text;
      fault = IfErr-weaker c.carried_into_batch.result _ _
          (λ refused is. λ of_memory. subst (λ bytes. IsCarryIntoFaultOf c.args.first.items bytes (refusal_of refused))
          c.as_slice-4.ensures.value
          (is of_memory c.args.first.items first reads)) given.fault;
      code = given.code;
    }
