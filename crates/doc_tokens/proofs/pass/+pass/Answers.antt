use Rattle.std.proofs.Common.{◌≡◌, ℕ, suc, ◌+◌, ◌-◌, ◌<◌, [], ◌∷◌, length, List, Bool, Some, None, ◌⊎◌, inl, inr, w64, Bor, refl, sym}
use Rattle.std.proofs.Common.{subst, ap, ap₂, ◌∙◌, arith, rules}
use mir.Val.{of_z, to_z}
use Rattle.json.specs.Token.{Token}
use Rattle.json.specs.Json.{after_end_array, parse_map, read_key, value}
use Rattle.json.specs.Reads.{token_of}
use Rattle.json.specs.declared.token.Token.{Token as Lent}
use Rattle.json.specs.declared.token.Token.TheVariants as lent
use Rattle.json.proofs.Grammar.{read_key-shorter, value_is}
use Rattle.serde_json.specs.Data.{Data, array, boolean, item, no_items, null, string, no_members, number, object, put}
use Rattle.serde_json.specs.Events.{items_len}
use Rattle.serde_json.specs.Read.{converted, number_of, of_json}
use Rattle.serde_json.specs.View.{number_view}
use Rattle.serde_json.specs.Find.{as_i64}
use Rattle.doc_tokens.specs.declared.pass.PassedValue.TheVariants.{Other}
use Rattle.doc_tokens.specs.declared.pass.PassedValue.TheVariants as seen
use Rattle.doc_tokens.specs.Passed.{seen_as, whole_or_other}
use Rattle.doc_tree.specs.Scope.{fit}
use Rattle.doc_tokens.specs.Pulled.{ReadsValue}
use Rattle.doc_tokens.proofs.PulledLemmas.{reads_array, reads_boolean, reads_deeper, reads_item, reads_member, reads_no_items}
use Rattle.doc_tokens.proofs.PulledLemmas.{reads_no_members}
use Rattle.doc_tokens.proofs.PulledLemmas.{reads_null, reads_number, reads_object, reads_shorter, reads_string}
use Rattle.doc_tokens.proofs.PassLemmas.{array_opened, each_err, item_behind, item_read, item_refused, key_refused, member_read, stray}
use Rattle.doc_tokens.proofs.PassLemmas.{member_refused, none_before, object_opened}
use Rattle.doc_tokens.proofs.pass.+pass.Goals as goal

-- a value of one token that is no number
plain : (depth : ℕ) (token : Lent) (rest : List Token)
    → ((s : Bor (List ℕ)) × (token ≡ lent.String s)) ⊎ (((b : Bool) × (token ≡ lent.Bool b)) ⊎ (token ≡ lent.Null))
    → (d : Data) × ReadsValue depth (token_of token ∷ rest) d rest × (Other ≡ seen_as d)
plain depth token rest (inl w) = (
  string w.0.now,
  subst (λ k. ReadsValue depth (token_of k ∷ rest) (string w.0.now) rest) (sym w.1) (reads_string depth w.0.now rest),
  refl,
)
plain depth token rest (inr (inl w)) = (
  boolean w.0,
  subst (λ k. ReadsValue depth (token_of k ∷ rest) (boolean w.0) rest) (sym w.1) (reads_boolean depth w.0 rest),
  refl,
)
plain depth token rest (inr (inr w)) = (
  null,
  subst (λ k. ReadsValue depth (token_of k ∷ rest) null rest) (sym w) (reads_null depth rest),
  refl,
)

pub pass_from-returns-then-depth-eq0-clause-err : goal.pass_from-returns-then-depth-eq0-clause-err
unfolding value
pass_from-returns-then-depth-eq0-clause-err t c =
    ap (converted of_json) (ap₂ value c.if-depth-eq0.true (ap (λ k. token_of k ∷ c.args.reader.now) c.in-BeginArray.is))

pub pass_from-returns-in_err-pass_items-in-BeginArray-clause-err : goal.pass_from-returns-in_err-pass_items-in-BeginArray-clause-err
pass_from-returns-in_err-pass_items-in-BeginArray-clause-err t c =
    each_err c.from_residual.result _ (ap (λ k. converted of_json (value c.args.depth (token_of k ∷ c.args.reader.now))) c.in-BeginArray.is
    ∙ array_opened c.args.depth c.args.reader.now (omega arith) ∙ ap (parse_map array) c.in_err-pass_items-in-BeginArray.ensures.err)

pub pass_from-returns-then-depth-eq0-2-clause-err : goal.pass_from-returns-then-depth-eq0-2-clause-err
unfolding value
pass_from-returns-then-depth-eq0-2-clause-err t c =
    ap (converted of_json) (ap₂ value c.if-depth-eq0-2.true (ap (λ k. token_of k ∷ c.args.reader.now) c.in-BeginObject.is))

pub pass_from-returns-in_err-pass_members-in-BeginObject-clause-err : goal.pass_from-returns-in_err-pass_members-in-BeginObject-clause-err
pass_from-returns-in_err-pass_members-in-BeginObject-clause-err t c =
    each_err c.from_residual-in_err-pass_members-in-BeginObject.result _
    (ap (λ k. converted of_json (value c.args.depth (token_of k ∷ c.args.reader.now))) c.in-BeginObject.is
    ∙ object_opened c.args.depth c.args.reader.now (omega arith) ∙ ap (parse_map object) c.in_err-pass_members-in-BeginObject.ensures.err)

pub pass_from-returns-in-Some-as_i64-clause-ok : goal.pass_from-returns-in-Some-as_i64-clause-ok
pass_from-returns-in-Some-as_i64-clause-ok t c =
    let n = number_view c.in-Some.number in
    let is : token_of c.args.token ≡ Token.number c.in-Number.text.now = ap token_of c.in-Number.is in
    let read : number_of c.in-Number.text.now ≡ Some n = sym c.in-Some.ensures in
    let whole : Some (to_z w64 (of_z w64 c.in-Some-as_i64.whole)) ≡ as_i64 n = search rules in (
      number n,
      subst (λ k. ReadsValue c.args.depth (k ∷ c.args.reader.now) (number n) c.args.reader.now) (sym is)
          (reads_number c.args.depth c.in-Number.text.now n c.args.reader.now read),
      ap whole_or_other whole,
    )

pub pass_from-returns-in-None-as_i64-clause-ok : goal.pass_from-returns-in-None-as_i64-clause-ok
pass_from-returns-in-None-as_i64-clause-ok t c =
    let n = number_view c.in-Some.number in
    let is : token_of c.args.token ≡ Token.number c.in-Number.text.now = ap token_of c.in-Number.is in
    let read : number_of c.in-Number.text.now ≡ Some n = sym c.in-Some.ensures in (
      number n,
      subst (λ k. ReadsValue c.args.depth (k ∷ c.args.reader.now) (number n) c.args.reader.now) (sym is)
          (reads_number c.args.depth c.in-Number.text.now n c.args.reader.now read),
      ap whole_or_other c.in-None-as_i64.ensures,
    )

pub pass_from-returns-in-None-clause-err : goal.pass_from-returns-in-None-clause-err
pass_from-returns-in-None-clause-err t c =
    let is : token_of c.args.token ≡ Token.number c.in-Number.text.now = ap token_of c.in-Number.is in
    let read : number_of c.in-Number.text.now ≡ None = sym c.in-None.ensures in
    ap (λ k. converted of_json (value c.args.depth (k ∷ c.args.reader.now))) is
    ∙ ap (converted of_json) (value_is c.args.depth (Token.number c.in-Number.text.now ∷ c.args.reader.now)) ∙ rw read refl

pub pass_from-returns-in-String-clause-ok : goal.pass_from-returns-in-String-clause-ok
pass_from-returns-in-String-clause-ok t c = plain c.args.depth c.args.token c.args.reader.now c.in-String.is

pub pass_from-returns-in-EndObject-clause-err : goal.pass_from-returns-in-EndObject-clause-err
pass_from-returns-in-EndObject-clause-err t c = stray c.args.depth c.args.token c.args.reader.now c.in-EndObject.is

pub pass_from-returns-in_ok-pass_items-in-BeginArray-clause-ok : goal.pass_from-returns-in_ok-pass_items-in-BeginArray-clause-ok
pass_from-returns-in_ok-pass_items-in-BeginArray-clause-ok t c =
    let done = c.in_ok-pass_items-in-BeginArray.ensures.ok in
    let k = c.args.depth in
    let inside = c.args.reader.now in
    let new = c.pass_items.new.reader in
    let reads = reads_deeper (suc (k - 1)) k (Token.begin_array ∷ inside) (array done.0) new (omega arith)
    (reads_array (k - 1) inside done.0 new done.1) in (
      array done.0,
      subst (λ x. ReadsValue k (token_of x ∷ inside) (array done.0) new) (sym c.in-BeginArray.is) reads,
      ap seen.List done.2,
    )

pub pass_from-returns-in_ok-pass_members-in-BeginObject-clause-ok : goal.pass_from-returns-in_ok-pass_members-in-BeginObject-clause-ok
pass_from-returns-in_ok-pass_members-in-BeginObject-clause-ok t c =
    let done = c.in_ok-pass_members-in-BeginObject.ensures.ok in
    let k = c.args.depth in
    let inside = c.args.reader.now in
    let new = c.pass_members.new.reader in
    let reads = reads_deeper (suc (k - 1)) k (Token.begin_object ∷ inside) (object done.0) new (omega arith)
    (reads_object (k - 1) inside done.0 new done.1) in (
      object done.0,
      subst (λ x. ReadsValue k (token_of x ∷ inside) (object done.0) new) (sym c.in-BeginObject.is) reads,
      refl,
    )

pub pass_items-items-init : goal.pass_items-items-init
pass_items-items-init t c = (
  length c.args.reader.now,
  0,
  λ ds. ds,
  omega arith,
  none_before _,
  λ ds new reads. reads,
  λ ds. omega arith,
  refl,
)

pub pass_items-returns-in_err-pass_value-clause-err : goal.pass_items-returns-in_err-pass_value-clause-err
pass_items-returns-in_err-pass_value-clause-err t c =
    let l = c.items in
    let p = value c.args.depth in
    let going : (after_end_array l.reader ≡ None) × (c.take_end_array.new.self ≡ l.reader) = grind arith in
    let refused = ap (λ ts. converted of_json (p ts)) (sym going.1) ∙ c.in_err-pass_value.ensures.err in
    each_err c.from_residual.result _
    (l.invariant.4 ∙ ap (parse_map l.invariant.2) (item_refused p l.invariant.0 l.reader going.0 refused))

pub pass_items-items-smaller : goal.pass_items-items-smaller
pass_items-items-smaller t c =
    let l = c.items in
    let going : (after_end_array l.reader ≡ None) × (c.take_end_array.new.self ≡ l.reader) = grind arith in
    let done = c.in_ok-pass_value.ensures.ok in
    omega (arith, reads_shorter c.args.depth _ done.0 _ done.1, ap length going.1)

pub pass_items-items-preserved : goal.pass_items-items-preserved
pass_items-items-preserved t c =
    let l = c.items in
    let p = value c.args.depth in
    let n = l.invariant.0 in
    let k = l.invariant.1 in
    let before = l.invariant.2 in
    let going : (after_end_array l.reader ≡ None) × (c.take_end_array.new.self ≡ l.reader) = grind arith in
    let done = c.in_ok-pass_value.ensures.ok in
    let d = done.0 in
    let new = c.pass_value.new.reader in
    let first = subst (λ ts. ReadsValue c.args.depth ts d new) going.1 done.1 in
    let read = first c.args.depth (omega arith) in
    let less : length new < length l.reader = reads_shorter c.args.depth l.reader d new first in (
      n - 1,
      k + 1,
      λ ds. before (item d ds),
      omega (arith, less, l.invariant.3),
      l.invariant.4 ∙ ap (parse_map before) (item_read p n l.reader new d (omega (arith, less, l.invariant.3)) going.0 read)
          ∙ item_behind before d _,
      λ ds rest reads. l.invariant.5 (item d ds) rest (reads_item c.args.depth l.reader new rest d ds going.0 first reads),
      λ ds. l.invariant.6 (item d ds) ∙ omega arith,
      c.one_more-count.ensures k l.invariant.7,
    )

pub pass_items-returns-clause-ok : goal.pass_items-returns-clause-ok
pass_items-returns-clause-ok t c =
    let l = c.items in
    let p = value c.args.depth in
    let new = c.take_end_array.new.self in
    let closed : after_end_array l.reader ≡ Some new = grind arith in
    let before = l.invariant.2 in
    let counted : items_len (before no_items) ≡ l.invariant.1 = l.invariant.6 no_items ∙ omega arith in (
      before no_items,
      l.invariant.5 no_items new (reads_no_items c.args.depth l.reader new closed),
      l.invariant.7 ∙ ap fit (sym counted),
    )

pub pass_members-members-init : goal.pass_members-members-init
pass_members-members-init t c = (length c.args.reader.now, no_members, omega arith, refl, λ ms new reads. reads)

pub pass_members-returns-in_err-next_key-clause-err : goal.pass_members-returns-in_err-next_key-clause-err
pass_members-returns-in_err-next_key-clause-err t c =
    let l = c.members in
    each_err c.from_residual.result _
    (l.invariant.3 ∙ key_refused (value c.args.depth) l.invariant.1 l.invariant.0 l.reader c.in_err-next_key.ensures.value)

pub pass_members-members-smaller : goal.pass_members-members-smaller
pass_members-members-smaller t c =
    let named : read_key c.members.reader ≡ Some (Some c.in-Some.field-0.now, c.next_key.new.self) = grind arith in
    let done = c.in_ok-pass_value.ensures.ok in
    omega (arith, reads_shorter c.args.depth _ done.0 _ done.1, read_key-shorter _ _ _ named)

pub pass_members-members-preserved : goal.pass_members-members-preserved
pass_members-members-preserved t c =
    let l = c.members in
    let p = value c.args.depth in
    let n = l.invariant.0 in
    let k = c.in-Some.field-0.now in
    let s = c.next_key.new.self in
    let new = c.pass_value.new.reader in
    let named : read_key l.reader ≡ Some (Some k, s) = grind arith in
    let done = c.in_ok-pass_value.ensures.ok in
    let less = read_key-shorter l.reader (Some k) s named in
    let lesser : length new < length s = reads_shorter c.args.depth s done.0 new done.1 in (
      n - 1,
      put k done.0 l.invariant.1,
      omega (arith, less, lesser, l.invariant.2),
      l.invariant.3
          ∙ member_read p l.invariant.1 n k l.reader s new done.0 (omega (arith, less, l.invariant.2)) named
          (done.1 c.args.depth (omega arith)),
      λ ms rest reads. l.invariant.4 ms rest
          (reads_member c.args.depth l.invariant.1 k l.reader s new rest done.0 ms named less done.1 reads),
    )

pub pass_members-returns-in_err-pass_value-clause-err : goal.pass_members-returns-in_err-pass_value-clause-err
pass_members-returns-in_err-pass_value-clause-err t c =
    let l = c.members in
    let k = c.in-Some.field-0.now in
    let named : read_key l.reader ≡ Some (Some k, c.next_key.new.self) = grind arith in
    each_err c.from_residual-in_err-pass_value.result _
    (l.invariant.3 ∙ member_refused (value c.args.depth) l.invariant.1 l.invariant.0 k l.reader c.next_key.new.self named
    c.in_err-pass_value.ensures.err)

pub pass_members-returns-clause-ok : goal.pass_members-returns-clause-ok
pass_members-returns-clause-ok t c =
    let l = c.members in
    let ended : read_key l.reader ≡ Some (None, c.next_key.new.self) = grind arith in
    (l.invariant.1, l.invariant.4 l.invariant.1 _ (reads_no_members c.args.depth l.invariant.1 l.reader _ ended))

pub pass_value-returns-in_err-token-clause-err : goal.pass_value-returns-in_err-token-clause-err
pass_value-returns-in_err-token-clause-err t c =
    let empty : c.args.reader.now ≡ [] = grind arith in
    each_err c.from_residual.result _ (ap (converted of_json) (ap (value c.args.depth) empty ∙ value_is c.args.depth []))
