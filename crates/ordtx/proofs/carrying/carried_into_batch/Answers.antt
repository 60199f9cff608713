use Rattle.std.proofs.Common.{◌≡◌, ◌<◌, ◌≤◌, ◌∙◌, Some, ap, ap₂, arith, inr, length, map, refl, rules, string_bytes, subst, sym}
use Rattle.std.proofs.lemmas.List.{length-map}
use Rattle.std.proofs.lemmas.Str.{IsUtf8-string_bytes}
use Rattle.lang.specs.Reading.{document_of}
use Rattle.doc_rules.specs.Limits.{limits_of}
use Rattle.doc_rules.specs.declared.limits.Limits.{Limits}
use Rattle.carry.specs.Carried.{carried_version}
use Rattle.carry.specs.Joined.{Named, joined, start_view, starts_into, version_into}
use Rattle.carry.specs.Transactions.{joined_text}
use Rattle.ordtx.specs.Answers.{IsCarryIntoFaultOf, name_at, wrong_start}
use Rattle.ordtx.proofs.JoinedSize.{joined_length}
use Rattle.ordtx.proofs.carrying.carried_into_batch.Goals as goal

pub wrong_start-requires-clause-starts : goal.wrong_start-requires-clause-starts
wrong_start-requires-clause-starts c =
    let starts = ap (map start_view) c.as_slice.ensures.value ∙ c.in_ok-starts.ensures in
    let first : Named = record { texts = c.args.first.now.names; values = c.in_ok-end.field-0.objects } in
    let next : Named = record { texts = c.args.next.now.names; values = c.args.next.now.objects } in
    let size = length-map c.as_slice.result.now start_view in
    let all : length (map start_view c.as_slice.result.now) ≡ length (joined first next) = ap length starts in
    let few_first = c.in_ok-end.ensures.few_objects in
    let few_next = c.args.next.now.is_batch.few_objects in
    omega (arith, size, all, joined_length first next, few_first, few_next)

pub returns-in-Some-clause-fault : goal.returns-in-Some-clause-fault
returns-in-Some-clause-fault c = λ refused before reads next_reads.
    let first = document_of c.args.first.now in
    let next = document_of c.args.next.now in
    let joined_is = c.in_ok-starts.ensures
    ∙ ap (λ end. joined (record { texts = first.texts; values = end }) (record { texts = next.texts; values = next.start }))
    c.in_ok-end.ensures.objects in
    let version = c.carried_version-version.ensures ∙ ap carried_version c.max.ensures in
    let starts = ap (map start_view) c.as_slice.ensures.value ∙ joined_is in
    let again = ap (map start_view) c.as_slice-in-Some.ensures.value ∙ joined_is in
    let found : c.wrong_start.result ≡ Some (c.in-Some.wrong, c.in-Some.place) = search rules in
    subst (IsCarryIntoFaultOf before c.args.bytes.now) (sym (c.object_refused.ensures.object refused)) (record {
      both = record { document = first; reads = reads; next_document = next; next_reads = next_reads };
      wrong = c.in-Some.wrong;
      place = c.in-Some.place;
      first_wrong = ap₂ (λ v s. wrong_start v next.start s) (sym version) (sym starts) ∙ sym c.wrong_start.ensures ∙ found;
      is = refl;
      named = c.name_at.ensures ∙ ap (λ s. name_at s c.in-Some.place) again;
    })

pub returns-then-len-of-clause-fault : goal.returns-then-len-of-clause-fault
returns-then-len-of-clause-fault c = λ refused before reads next_reads.
    let first = document_of c.args.first.now in
    let next = document_of c.args.next.now in
    let joined_is = c.in_ok-starts.ensures
    ∙ ap (λ end. joined (record { texts = first.texts; values = end }) (record { texts = next.texts; values = next.start }))
    c.in_ok-end.ensures.objects in
    let version = c.carried_version-version.ensures ∙ ap carried_version c.max.ensures in
    let starts = ap (map start_view) c.as_slice.ensures.value ∙ joined_is in
    let again = ap (map start_view) c.as_slice-2.ensures.value ∙ joined_is in
    let text_is : string_bytes c.in_ok-text.text ≡ joined_text (version_into first next) (starts_into first next) c.args.bytes.now =
    c.in_ok-text.ensures ∙ ap₂ (λ v s. joined_text v s c.args.bytes.now) version again in
    let most = ap (λ (limits : Limits). limits.bytes) (c.of.ensures ∙ ap limits_of version) in
    let long : (limits_of (version_into first next)).bytes < length (string_bytes c.in_ok-text.text) =
    omega (arith, c.if-len-of.true, c.len.ensures, most) in
    inr (record {
      both = record { document = first; reads = reads; next_document = next; next_reads = next_reads };
      fits = ap₂ (λ v s. wrong_start v next.start s) (sym version) (sym starts) ∙ sym c.wrong_start.ensures ∙ c.in_default.is;
      long = subst (λ t. (limits_of (version_into first next)).bytes < length t) text_is long;
      is = c.outside.ensures;
    })

pub returns-clause-text : goal.returns-clause-text
returns-clause-text c = λ before reads next_reads.
    let first = document_of c.args.first.now in
    let next = document_of c.args.next.now in
    let joined_is = c.in_ok-starts.ensures
    ∙ ap (λ end. joined (record { texts = first.texts; values = end }) (record { texts = next.texts; values = next.start }))
    c.in_ok-end.ensures.objects in
    let version = c.carried_version-version.ensures ∙ ap carried_version c.max.ensures in
    let starts = ap (map start_view) c.as_slice.ensures.value ∙ joined_is in
    let again = ap (map start_view) c.as_slice-2.ensures.value ∙ joined_is in
    let most = ap (λ (limits : Limits). limits.bytes) (c.of.ensures ∙ ap limits_of version) in
    let short : length (string_bytes c.in_ok-text.text) ≤ (limits_of (version_into first next)).bytes =
    omega (arith, c.if-len-of.false, c.len.ensures, most) in
    record {
      both = record { document = first; reads = reads; next_document = next; next_reads = next_reads };
      fits = ap₂ (λ v s. wrong_start v next.start s) (sym version) (sym starts) ∙ sym c.wrong_start.ensures ∙ c.in_default.is;
      is = c.in_ok-text.ensures ∙ ap₂ (λ v s. joined_text v s c.args.bytes.now) version again;
      short = short;
      utf8 = IsUtf8-string_bytes c.in_ok-text.text;
    }
