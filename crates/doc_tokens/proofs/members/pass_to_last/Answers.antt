use Rattle.std.proofs.Common.{◌≡◌, ◌+◌, ℕ, Some, None, sym, arith}
use Rattle.json.specs.Json.{read_key}
use Rattle.json.proofs.Grammar.{read_key-shorter}
use Rattle.serde_json.specs.Data.{no_members}
use Rattle.doc_tokens.specs.Passed.{once}
use Rattle.doc_tokens.proofs.CountLemmas.{comes, last_left, more_left, none_left, once_here, once_other, unread_left}
use Rattle.doc_tokens.proofs.CountLemmas.{value_left}
use Rattle.doc_tokens.proofs.PassLemmas.{each_err}
use Rattle.doc_tokens.proofs.PulledLemmas.{reads_shorter}
use Rattle.doc_tokens.proofs.members.pass_to_last.Goals as goal
use Rattle.doc_tokens.proofs.members.pass_to_last.Goals.{then-eq+else-left-le1, else-eq}

pub members-init : goal.members-init
members-init c ms v left is = (no_members, left, comes c.args.name.now c.args.times c.args.reader.now ms v left is)

pub returns-in_err-key-clause-err : goal.returns-in_err-key-clause-err
returns-in_err-key-clause-err c =
    let l = c.members in
    each_err c.from_residual.result _ (λ ms v left is.
    let now = l.invariant ms v left is in
    unread_left c.args.name.now l.left now.0 ms l.reader c.in_err-key.ensures.value now.1)

pub returns-then-left-le1-clause-ok : goal.returns-then-left-le1-clause-ok
returns-then-left-le1-clause-ok c ms v left is =
    let l = c.members in
    let now = l.invariant ms v left is in
    let named : read_key l.reader ≡ Some (Some c.in-Some.key.now, c.next_key.new.self) = grind arith in
    last_left c.args.name.now l.left now.0 ms l.reader c.next_key.new.self c.in-Some.key.now named now.1 v is
    (sym c.if-eq.ensures) (omega (arith, now.2, c.if-left-le1.true))

pub returns-in_err-pass_value-clause-err : goal.returns-in_err-pass_value-clause-err
returns-in_err-pass_value-clause-err c =
    let l = c.members in
    each_err c.from_residual-in_err-pass_value.result _ (λ ms v left is.
    let now = l.invariant ms v left is in
    let named : read_key l.reader ≡ Some (Some c.in-Some.key.now, c.next_key.new.self) = grind arith in
    value_left c.args.name.now l.left now.0 ms l.reader c.next_key.new.self c.in-Some.key.now named now.1 c.in_err-pass_value.ensures.err)

pub members-smaller : goal.members-smaller
members-smaller c =
    let named : read_key c.members.reader ≡ Some (Some c.in-Some.key.now, c.next_key.new.self) = grind arith in
    let done = c.in_ok-pass_value.ensures.ok in
    omega (arith, reads_shorter 126 _ done.0 _ done.1, read_key-shorter _ _ _ named)

pub returns-clause-err : goal.returns-clause-err
returns-clause-err c ms v left is =
    let l = c.members in
    let now = l.invariant ms v left is in
    let ended : read_key l.reader ≡ Some (None, c.next_key.new.self) = grind arith in
    let none = none_left c.args.name.now l.left now.0 ms l.reader c.next_key.new.self ended now.1 in
    omega (arith, none, now.2)

pub members-preserved : goal.members-preserved
members-preserved c ms v left is =
    let l = c.members in
    let now = l.invariant ms v left is in
    let name = c.args.name.now in
    let k = c.in-Some.key.now in
    let s = c.next_key.new.self in
    let named : read_key l.reader ≡ Some (Some k, s) = grind arith in
    let done = c.in_ok-pass_value.ensures.ok in
    let more = λ (n : ℕ) (some : l.left ≡ once k name + n). more_left name l.left now.0 ms l.reader s k named now.1 done.0
    c.pass_value.new.reader done.1 n some in
    elim c.if-eq.branch [
      | then-eq+else-left-le1 w ↦
          let one = once_here k name (sym w.if-eq.ensures) in
          let later = more c.if-eq.left (omega (arith, one, w.left-is, w.if-left-le1.false)) in
          (later.0, later.1, omega (arith, w.left-is, w.if-left-le1.false))
      | else-eq w ↦
          let none = once_other k name (sym w.if-eq.ensures) in
          let later = more c.if-eq.left (omega (arith, none, w.left-is)) in
          (later.0, later.1, omega (arith, w.left-is, now.2))
    ]
