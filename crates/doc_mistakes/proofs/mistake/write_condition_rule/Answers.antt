use Rattle.doc_mistakes.proofs.mistake.write_condition_rule.Goals as goal

pub returns-in_ok-write_no_number-in-Number : goal.returns-in_ok-write_no_number-in-Number
returns-in_ok-write_no_number-in-Number c = rw c.in-Number.is c.in_ok-write_no_number-in-Number.ensures

pub returns-in_ok-write_wanting-in-AtLeast : goal.returns-in_ok-write_wanting-in-AtLeast
returns-in_ok-write_wanting-in-AtLeast c = rw c.in-AtLeast.is c.in_ok-write_wanting-in-AtLeast.ensures

pub returns-in_ok-write_no_item-in-HasItem : goal.returns-in_ok-write_no_item-in-HasItem
returns-in_ok-write_no_item-in-HasItem c = rw c.in-HasItem.is c.in_ok-write_no_item-in-HasItem.ensures
