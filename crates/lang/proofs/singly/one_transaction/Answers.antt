use Rattle.std.specs.Prelude.{MatchResult}
use Rattle.std.proofs.Common.{◌≡◌, ℕ, List, [], ◌∷◌, Some, Err, ap, length, string_bytes, sym, subst, ◌∙◌, arith, rules}
use Rattle.json.specs.Json.{value}
use Rattle.json.specs.Reads.{token_of}
use Rattle.json.specs.Token.{Token}
use Rattle.json.proofs.Grammar.{value_is}
use Rattle.serde_json.specs.Data.{Data, Items, array}
use Rattle.serde_json.specs.Read.{converted, of_json}
use Rattle.serde_json.specs.View.{view}
use Rattle.meaning.specs.declared.limits.TheConstants.{MAX_DEPTH}
use Rattle.doc_rules.specs.declared.failure.Failure.TheVariants.{Broken}
use Rattle.doc_rules.specs.declared.rule.Rule.TheVariants.{Shape}
use Rattle.doc_rules.specs.declared.rule.ShapeRule.TheVariants.{Block}
use Rattle.batch.specs.Views.{block_view}
use Rattle.doc_tree.specs.Answer.{AreMet}
use Rattle.doc_tree.specs.Places.{Found, seek, transaction_placed}
use Rattle.doc_tree.specs.Scope.{numbers_of, setting_of}
use Rattle.doc_tree.specs.Spelled.{block_of}
use Rattle.doc_tokens.specs.Pulled.{WritesItems}
use Rattle.doc_tree.proofs.BlockLemmas.{no_array}
use Rattle.doc_tree.proofs.Checks.{passed_on}
use Rattle.doc_tokens.proofs.NoListLemmas.{no_list}
use Rattle.doc_tokens.proofs.PassLemmas.{array_inside, array_is}
use Rattle.doc_tokens.proofs.PulledLemmas.{IfErr_then, IfOk_then, reads_shorter}
use Rattle.lang.specs.Found.{IsFirstIn, part_at}
use Rattle.lang.proofs.SinglyLemmas.{every_err, nothing_read, on_ok, only_memory, same_read}
use Rattle.lang.proofs.singly.one_transaction.Goals as goal

pub returns-in_err-token-clause-err : goal.returns-in_err-token-clause-err
returns-in_err-token-clause-err c =
    let empty : c.args.reader.now ≡ [] = grind arith in
    every_err c.from_residual.result _ (λ stop d rest is. absurd (nothing_read (d, rest)
    (sym (ap (λ ts. converted of_json (value 125 ts)) empty ∙ ap (converted of_json) (value_is 125 [])) ∙ is)))

-- an array that begins here, by its items
opened : (old inside : List Token) (d : Data) (rest : List Token) → old ≡ Token.begin_array ∷ inside
    → converted of_json (value 125 old) ≡ Some (d, rest) → (ds : Items) × (d ≡ array ds) × WritesItems 124 inside ds rest
opened old inside d rest begun is =
    let here = ap (λ ts. converted of_json (value 125 ts)) (sym begun) ∙ is in
    let list = array_is 125 inside d rest (omega arith) here in (
      list.0,
      list.1,
      array_inside 125 inside list.0 rest (omega arith) (here ∙ ap (λ x. Some (x, rest)) list.1),
    )

pub returns-in-BeginArray-clause-ok : goal.returns-in-BeginArray-clause-ok
returns-in-BeginArray-clause-ok c =
    let first : c.args.reader.now ≡ token_of c.in_ok-token.token ∷ c.next.new.self = grind arith in
    let begun = first ∙ ap (λ k. token_of k ∷ c.next.new.self) c.in-BeginArray.is in
    let n = c.args.number in
    let setting = setting_of c.args.declared.now in
    let start = c.args.state.now.counts in
    let new = c.each_step.new in
    IfOk_then c.each_step.result c.each_step.ensures.ok (λ answer read d rest is.
    let list = opened c.args.reader.now c.next.new.self d rest begun is in
    subst (λ x. MatchResult answer (λ block. (new.reader ≡ rest) × AreMet start (transaction_placed n setting x) new.state.counts
    × ((block_view block, numbers_of new.state.numbering) ≡ block_of setting MAX_DEPTH [] (numbers_of c.args.state.now.numbering) x))
    (IsFirstIn start (transaction_placed n setting x) x)) (sym list.1) (read list.0 rest list.2))

pub returns-in-BeginArray-clause-err : goal.returns-in-BeginArray-clause-err
returns-in-BeginArray-clause-err c =
    let first : c.args.reader.now ≡ token_of c.in_ok-token.token ∷ c.next.new.self = grind arith in
    let begun = first ∙ ap (λ k. token_of k ∷ c.next.new.self) c.in-BeginArray.is in
    IfErr_then c.each_step.result c.each_step.ensures.err (λ stop memory d rest is.
    let list = opened c.args.reader.now c.next.new.self d rest begun is in memory list.0 rest list.2)

pub returns-in-BeginArray-clause-left : goal.returns-in-BeginArray-clause-left
returns-in-BeginArray-clause-left c =
    let first : c.args.reader.now ≡ token_of c.in_ok-token.token ∷ c.next.new.self = grind arith in
    on_ok c.each_step.result _ _ c.each_step.ensures.left (λ less. omega (arith, less, ap length first))

pub returns-in_err-value_from-clause-err : goal.returns-in_err-value_from-clause-err
returns-in_err-value_from-clause-err c =
    let first : c.args.reader.now ≡ token_of c.in_ok-token.token ∷ c.next.new.self = grind arith in
    let e = c.in_err-value_from.field-0.0 in
    passed_on c.from_residual-in_err-value_from.result _ e c.from_residual-in_err-value_from.ensures.1 (λ d rest is.
    only_memory e (converted of_json (value 125 (token_of c.in_ok-token.token ∷ c.next.new.self)))
    (λ none. nothing_read (d, rest) (sym (ap (λ ts. converted of_json (value 125 ts)) first ∙ none) ∙ is)) c.in_err-value_from.ensures.err)

pub returns-clause-ok : goal.returns-clause-ok
returns-clause-ok c d rest is =
    let first : c.args.reader.now ≡ token_of c.in_ok-token.token ∷ c.next.new.self = grind arith in
    let here = view c.in_ok-value_from.field-0 in
    let new = c.value_from.new.reader in
    let read = c.in_ok-value_from.ensures.ok 125 (omega arith) in
    let same : here ≡ d = same_read (converted of_json (value 125 c.args.reader.now)) here d new rest
    (ap (λ ts. converted of_json (value 125 ts)) first ∙ read) is in
    let none = no_list 125 c.in_ok-token.token c.next.new.self new here c.in_default.not-BeginArray read in
    let empty : string_bytes c.new.result ≡ [] = grind (arith, rules) in
    let told : List ℕ → Found = λ p. record { failure = Broken (Shape Block) c.args.number; pointer = p } in
    let setting = setting_of c.args.declared.now in
    let asked = λ (x : Data). transaction_placed c.args.number setting x in
    subst (λ x. (seek c.args.state.now.counts (asked x) ≡ Err (told (string_bytes c.new.result)))
    × (here ≡ part_at (string_bytes c.new.result) x)) same (
      no_array setting [] here MAX_DEPTH _ none ∙ ap (λ p. Err (told p)) (sym empty),
      ap (λ p. part_at p here) (sym empty),
    )

pub returns-clause-left : goal.returns-clause-left
returns-clause-left c =
    let first : c.args.reader.now ≡ token_of c.in_ok-token.token ∷ c.next.new.self = grind arith in
    omega (arith, reads_shorter 125 _ _ _ c.in_ok-value_from.ensures.ok, ap length first)
