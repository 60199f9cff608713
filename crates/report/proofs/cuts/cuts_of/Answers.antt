use Rattle.report.proofs.PartLemmas.{all_cut, before_trans, one_more}
use Rattle.report.proofs.cuts.cuts_of.Goals as goal

pub loop-part-preserved : goal.loop-part-preserved
loop-part-preserved c =
    let on = before_trans _ _ _ c.pass_lines-before.ensures.on c.pass_objects.ensures.on in
    (rw c.in_ok-push-2.ensures.items (one_more _ _ _ c.loop-part.invariant.0 on), c.pass_objects.ensures.within)

pub returns : goal.returns
returns c = rw c.in_ok-push-3.ensures.items (all_cut _ _ _ c.loop-part.invariant.0 c.loop-part.invariant.1)
