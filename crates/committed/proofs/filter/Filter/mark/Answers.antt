use Rattle.std.proofs.Common.{subst}
use Rattle.committed.specs.Filter.{HasAll}
use Rattle.committed.specs.declared.marks.Mark.{Mark}
use Rattle.committed.proofs.filter.Filter.mark.Goals as goal

pub returns-clause-own : goal.returns-clause-own
returns-clause-own c e is =
    let mark = c.args.mark.now in
    let filter = c.insert-2.new.self in
    record {
      object = subst (λ (m : Mark). HasAll filter m.of_object m.class) is
          (c.insert-2.ensures.kept mark.of_object mark.class c.insert.ensures.own);
      item = subst (λ (m : Mark). HasAll filter m.of_item m.class) is c.insert-2.ensures.own;
    }

pub returns-clause-kept : goal.returns-clause-kept
returns-clause-kept c e was = record {
  object = c.insert-2.ensures.kept _ _ (c.insert.ensures.kept _ _ was.object);
  item = c.insert-2.ensures.kept _ _ (c.insert.ensures.kept _ _ was.item);
}
