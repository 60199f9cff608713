use Rattle.std.proofs.Common.{◌≡◌, ◌+◌, ◌++◌, length, refl, ap, ◌∙◌, subst, arith}
use Rattle.std.specs.List.{All}
use Rattle.std.specs.Prelude.{string_bytes}
use Rattle.objects.specs.Entries.{CommuteForward}
use Rattle.batch.specs.Names.{names_of}
use Rattle.batch.specs.Parts.{start_of, blocks_of}
use Rattle.explain.specs.Why.{placed_nets, place_text}
use Rattle.explain.specs.Rounds.{HasEarly}
use Rattle.explain.proofs.Earliest.{none_in_next, first_in_next, none_yet, commutes_at_end}
use Rattle.explain.proofs.lines.write_earliest.Goals as goal

pub loop-index-init : goal.loop-index-init
loop-index-init c = record {
  text = refl;
  none = none_yet (names_of c.args.at.batch.now.names) (start_of c.args.at.batch.now) (blocks_of c.args.at.batch.now)
      (λ p. CommuteForward c.args.late.now p.entry) c.args.at.opened;
}

pub loop-index-preserved : goal.loop-index-preserved
loop-index-preserved c =
    let batch = c.args.at.batch.now in
    let none = subst (HasEarly batch c.args.at.opened (c.args.at.opened + c.loop-index.index) c.args.late.now
    (string_bytes c.loop-index.out) (string_bytes c.write_early.new.out)) c.if-branch.false c.in_ok-write_early.ensures in
    record {
      text = none.text ∙ c.loop-index.invariant.text;
      none = none_in_next (names_of batch.names) (start_of batch) (blocks_of batch) (λ p. CommuteForward c.args.late.now p.entry)
          c.args.at.opened c.loop-index.index c.loop-index.invariant.none none.none;
    }

pub returns-then-branch : goal.returns-then-branch
returns-then-branch c =
    let batch = c.args.at.batch.now in
    let first = subst (HasEarly batch c.args.at.opened (c.args.at.opened + c.loop-index.index) c.args.late.now
    (string_bytes c.loop-index.out) (string_bytes c.write_early.new.out)) c.if-branch.true c.in_ok-write_early.ensures in
    record {
      early = first.early;
      is = first_in_next (names_of batch.names) (start_of batch) (blocks_of batch) (λ p. CommuteForward c.args.late.now p.entry)
          c.args.at.opened c.loop-index.index c.loop-index.invariant.none (length c.args.passed.now) first.early c.loop-index-test.true
          first.is;
      text = first.text ∙ ap (λ text. text ++ place_text (names_of batch.names) first.early) c.loop-index.invariant.text;
    }

pub unreachable-requires : goal.unreachable-requires
unreachable-requires c =
    let batch = c.args.at.batch.now in
    let all : c.loop-index.index ≡ length c.args.passed.now = omega (arith, c.loop-index-test.false, c.loop-index.auto.index-end) in
    c.requires.conflicts (commutes_at_end (names_of batch.names) (start_of batch) (blocks_of batch) c.args.late.now c.args.at.opened
    (length c.args.passed.now)
    (subst (λ n. All (λ p. CommuteForward c.args.late.now p.entry)
    (placed_nets (names_of batch.names) (start_of batch) (blocks_of batch) c.args.at.opened c.args.at.opened n)) all
    c.loop-index.invariant.none))
