use Rattle.std.proofs.Common.{◌≡◌, [], ◌∷◌, refl, sym, subst, ap, ◌∙◌, arith}
use Rattle.json.specs.Json.{parse_map, value}
use Rattle.json.specs.Reads.{token_of}
use Rattle.json.proofs.Grammar.{value_is}
use Rattle.serde_json.specs.Data.{object}
use Rattle.serde_json.specs.Read.{converted, of_json}
use Rattle.doc_tokens.proofs.NoteLemmas.{no_object}
use Rattle.doc_tokens.specs.Pulled.{ReadsValue}
use Rattle.doc_tokens.proofs.PulledLemmas.{reads_object}
use Rattle.doc_tokens.proofs.PassLemmas.{each_err, object_opened}
use Rattle.doc_tokens.proofs.notes.note_value.Goals as goal

pub returns-in_err-token-clause-err : goal.returns-in_err-token-clause-err
returns-in_err-token-clause-err c =
    let empty : c.args.reader.now ≡ [] = grind arith in
    each_err c.from_residual.result _ (ap (converted of_json) (ap (value 127) empty ∙ value_is 127 []))

pub returns-in_err-notes-clause-err : goal.returns-in_err-notes-clause-err
returns-in_err-notes-clause-err c =
    let first : c.args.reader.now ≡ token_of c.in_ok-token.token ∷ c.next.new.self = grind arith in
    each_err c.from_residual-in_err-notes.result _
    (ap (λ ts. converted of_json (value 127 ts)) (first ∙ ap (λ k. token_of k ∷ c.next.new.self) c.in-BeginObject.is)
    ∙ object_opened 127 c.next.new.self (omega arith) ∙ ap (parse_map object) c.in_err-notes.ensures.err)

pub returns-in-BeginObject-clause-ok : goal.returns-in-BeginObject-clause-ok
returns-in-BeginObject-clause-ok c =
    let first : c.args.reader.now ≡ token_of c.in_ok-token.token ∷ c.next.new.self = grind arith in
    let done = c.in_ok-notes.ensures.ok in (
      object done.0,
      subst (λ ts. ReadsValue 127 ts (object done.0) c.note_members.new.reader)
          (sym (first ∙ ap (λ k. token_of k ∷ c.next.new.self) c.in-BeginObject.is))
          (reads_object 126 c.next.new.self done.0 c.note_members.new.reader done.1),
      (done.0, refl, done.2),
    )

pub returns-in-BeginObject-clause-counted : goal.returns-in-BeginObject-clause-counted
returns-in-BeginObject-clause-counted c =
    let first : c.args.reader.now ≡ token_of c.in_ok-token.token ∷ c.next.new.self = grind arith in
    let done = c.in_ok-notes.ensures.counted in record {
      within = c.next.new.self;
      written = done.0;
      rest = c.note_members.new.reader;
      begins = first ∙ ap (λ k. token_of k ∷ c.next.new.self) c.in-BeginObject.is;
      reads = done.1;
      counted = done.2;
    }

pub returns : goal.returns
returns c =
    let first : c.args.reader.now ≡ token_of c.in_ok-token.token ∷ c.next.new.self = grind arith in
    let done = c.in_ok-pass_from.ensures.ok in
    record {
      ok = (
        done.0,
        subst (λ ts. ReadsValue 127 ts done.0 c.pass_from.new.reader) (sym first) done.1,
        no_object 127 c.in_ok-token.token c.next.new.self c.pass_from.new.reader done.0 (omega arith) c.in_default.not-BeginObject
            (done.1 127 (omega arith)),
      );
      counted = tt;
      err = tt;
    }
