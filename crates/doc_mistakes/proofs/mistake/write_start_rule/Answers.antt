use Rattle.std.proofs.Common.{sym}
use Rattle.doc_mistakes.proofs.mistake.write_start_rule.Goals as goal

pub returns-in_ok-write_around-in-PairItem : goal.returns-in_ok-write_around-in-PairItem
returns-in_ok-write_around-in-PairItem c =
    rw (c.in-PairItem.is, sym c.get-found-in-PairItem.ensures) c.in_ok-write_around-in-PairItem.ensures
