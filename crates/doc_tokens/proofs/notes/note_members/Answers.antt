use Rattle.std.proofs.Common.{◌≡◌, ◌-◌, ◌<◌, length, Some, None, refl, ◌∙◌, arith}
use Rattle.json.specs.Json.{read_key, value}
use Rattle.json.proofs.Grammar.{read_key-shorter}
use Rattle.serde_json.specs.Data.{no_members, put}
use Rattle.doc_tokens.proofs.PassLemmas.{each_err, key_refused, member_read, member_refused}
use Rattle.serde_json.specs.Read.{of_json}
use Rattle.doc_tokens.proofs.CountLemmas.{written_all, written_more, written_none}
use Rattle.doc_tokens.proofs.PulledLemmas.{converted_some, reads_member, reads_no_members, reads_shorter}
use Rattle.doc_tokens.proofs.notes.note_members.Goals as goal

pub returns-in_err-name-clause-err : goal.returns-in_err-name-clause-err
returns-in_err-name-clause-err c =
    let l = c.members in
    each_err c.from_residual.result _
    (l.invariant.3 ∙ key_refused (value 126) l.invariant.1 l.invariant.0 l.reader c.in_err-name.ensures.value)

pub returns-in_err-seen-clause-err : goal.returns-in_err-seen-clause-err
returns-in_err-seen-clause-err c =
    let l = c.members in
    let k = c.in-Some.name.now in
    let named : read_key l.reader ≡ Some (Some k, c.next_key.new.self) = grind arith in
    each_err c.from_residual-in_err-seen.result _
    (l.invariant.3 ∙ member_refused (value 126) l.invariant.1 l.invariant.0 k l.reader c.next_key.new.self named c.in_err-seen.ensures.err)

pub members-init : goal.members-init
members-init c =
    let none = c.none-notes.ensures in (
      length c.args.reader.now,
      no_members,
      omega arith,
      refl,
      none.noted,
      λ ms new reads. reads,
      written_none c.none-notes.result _ none.times.0 none.times.1,
    )

pub members-smaller : goal.members-smaller
members-smaller c =
    let named : read_key c.members.reader ≡ Some (Some c.in-Some.name.now, c.next_key.new.self) = grind arith in
    let done = c.in_ok-seen.ensures.ok in
    omega (arith, reads_shorter 126 _ done.0 _ done.1, read_key-shorter _ _ _ named)

pub members-preserved : goal.members-preserved
members-preserved c =
    let l = c.members in
    let p = value 126 in
    let n = l.invariant.0 in
    let k = c.in-Some.name.now in
    let s = c.next_key.new.self in
    let new = c.pass_value.new.reader in
    let named : read_key l.reader ≡ Some (Some k, s) = grind arith in
    let done = c.in_ok-seen.ensures.ok in
    let less = read_key-shorter l.reader (Some k) s named in
    let lesser : length new < length s = reads_shorter 126 s done.0 new done.1 in
    let j = converted_some of_json (p s) done.0 new (done.1 126 (omega arith)) in (
      n - 1,
      put k done.0 l.invariant.1,
      omega (arith, less, lesser, l.invariant.2),
      l.invariant.3 ∙ member_read p l.invariant.1 n k l.reader s new done.0 (omega (arith, less, l.invariant.2)) named
          (done.1 126 (omega arith)),
      c.with-notes.ensures.noted done.0 l.invariant.1 done.2 l.invariant.4,
      λ ms rest reads. l.invariant.5 ms rest (reads_member 126 l.invariant.1 k l.reader s new rest done.0 ms named less done.1 reads),
      written_more l.notes _ _ p n k j.0 l.reader s new (omega (arith, less, l.invariant.2)) named j.1 l.invariant.6
          c.with-notes.ensures.objects c.with-notes.ensures.transactions,
    )

pub returns-clause-ok : goal.returns-clause-ok
returns-clause-ok c =
    let l = c.members in
    let ended : read_key l.reader ≡ Some (None, c.next_key.new.self) = grind arith in
    (l.invariant.1, l.invariant.5 l.invariant.1 _ (reads_no_members 126 l.invariant.1 l.reader _ ended), l.invariant.4)

pub returns-clause-counted : goal.returns-clause-counted
returns-clause-counted c =
    let l = c.members in
    let ended : read_key l.reader ≡ Some (None, c.next_key.new.self) = grind arith in
    written_all l.notes _ (value 126) l.invariant.0 l.reader _ l.invariant.2 ended l.invariant.6
