use Rattle.std.proofs.Common.{◌≡◌, [], ◌∷◌, ap, subst, ◌∙◌, arith}
use Rattle.json.specs.Reads.{token_of}
use Rattle.serde_json.specs.Data.{array}
use Rattle.doc_tokens.specs.Passed.{HasMembers}
use Rattle.doc_tokens.specs.Pulled.{WritesValue}
use Rattle.doc_tokens.proofs.CountLemmas.{list_begun, members_begun, no_list_at_end, no_list_here, no_members_at_end, no_members_here}
use Rattle.doc_tokens.proofs.PassLemmas.{each_err}
use Rattle.doc_tokens.proofs.members.pass_to_list.Goals as goal

pub returns-in_err-token-clause-err : goal.returns-in_err-token-clause-err
returns-in_err-token-clause-err c =
    let empty : c.args.reader.now ≡ [] = grind arith in
    each_err c.from_residual.result _ (λ ms ds has is. no_members_at_end c.args.name.now c.args.times ms
    (subst (λ ts. HasMembers c.args.name.now c.args.times ts ms) empty has))

pub returns-in_default-clause-err : goal.returns-in_default-clause-err
returns-in_default-clause-err c ms ds has is =
    let first : c.args.reader.now ≡ token_of c.in_ok-token.token ∷ c.next.new.self = grind arith in
    no_members_here c.args.name.now c.args.times ms c.in_ok-token.token c.next.new.self c.in_default.not-BeginObject
    (subst (λ ts. HasMembers c.args.name.now c.args.times ts ms) first has)

pub returns-in_err-pass_to_last-clause-err : goal.returns-in_err-pass_to_last-clause-err
returns-in_err-pass_to_last-clause-err c =
    let first : c.args.reader.now ≡ token_of c.in_ok-token.token ∷ c.next.new.self = grind arith in
    let begins = first ∙ ap (λ k. token_of k ∷ c.next.new.self) c.in-BeginObject.is in
    each_err c.from_residual-in_err-pass_to_last.result _ (λ ms ds has is. c.in_err-pass_to_last.ensures.err ms (array ds)
    (members_begun c.args.name.now c.args.times c.args.reader.now c.next.new.self ms has begins) is)

pub returns-in_err-first-clause-err : goal.returns-in_err-first-clause-err
returns-in_err-first-clause-err c =
    let first : c.args.reader.now ≡ token_of c.in_ok-token.token ∷ c.next.new.self = grind arith in
    let begins = first ∙ ap (λ k. token_of k ∷ c.next.new.self) c.in-BeginObject.is in
    let empty : c.pass_to_last.new.reader ≡ [] = grind arith in
    each_err c.from_residual-in_err-first.result _ (λ ms ds has is. no_list_at_end ds (subst (λ ts. WritesValue 126 ts (array ds)) empty
    (c.in_ok-pass_to_last.ensures.ok ms (array ds)
    (members_begun c.args.name.now c.args.times c.args.reader.now c.next.new.self ms has begins) is)))

pub returns-in-BeginArray-clause-ok : goal.returns-in-BeginArray-clause-ok
returns-in-BeginArray-clause-ok c ms ds has is =
    let first : c.args.reader.now ≡ token_of c.in_ok-token.token ∷ c.next.new.self = grind arith in
    let begins = first ∙ ap (λ k. token_of k ∷ c.next.new.self) c.in-BeginObject.is in
    let then : c.pass_to_last.new.reader ≡ token_of c.in_ok-first.first ∷ c.next-2.new.self = grind arith in
    list_begun ds c.pass_to_last.new.reader c.next-2.new.self
    (c.in_ok-pass_to_last.ensures.ok ms (array ds)
    (members_begun c.args.name.now c.args.times c.args.reader.now c.next.new.self ms has begins) is)
    (then ∙ ap (λ k. token_of k ∷ c.next-2.new.self) c.in-BeginArray.is)

pub returns-in_default-first : goal.returns-in_default-first
returns-in_default-first c = record {
  ok = tt;
  err = λ ms ds has is.
      let first : c.args.reader.now ≡ token_of c.in_ok-token.token ∷ c.next.new.self = grind arith in
      let begins = first ∙ ap (λ k. token_of k ∷ c.next.new.self) c.in-BeginObject.is in
      let then : c.pass_to_last.new.reader ≡ token_of c.in_ok-first.first ∷ c.next-2.new.self = grind arith in
      no_list_here ds c.in_ok-first.first c.next-2.new.self c.in_default-first.not-BeginArray (subst (λ ts. WritesValue 126 ts (array ds))
      then
      (c.in_ok-pass_to_last.ensures.ok ms (array ds)
      (members_begun c.args.name.now c.args.times c.args.reader.now c.next.new.self ms has begins) is));
}
