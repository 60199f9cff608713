use Rattle.std.proofs.Common.{sym, ap, ◌∙◌}
use Rattle.std.specs.Option.{option_copied}
use Rattle.batch.specs.Names.{names_of}
use Rattle.report.proofs.AnswerLemmas.{objects_from-more}
use Rattle.report.proofs.TextLemmas.{after_text}
use Rattle.report.proofs.answer.write_objects.Goals as goal

pub loop-object-preserved : goal.loop-object-preserved
loop-object-preserved c =
    let splits = objects_from-more (names_of c.args.names.now) c.loop-object.object _ c.in-Some.value.now (sym c.value.ensures
    ∙ ap option_copied c.in-Some.is) in
    after_text _ _ _ _ _ _ c.loop-object.invariant c.in_ok-write_object-in-Some.ensures splits
