-- `adding::split_inner` meets its contract: the parts that are lent are the two pages.
-- Assumes nothing.
use borrow.Author.Rules.{rules}
use Rattle.adding.proofs.Divided.{inner_requires, blank_count, inner_split}
use Rattle.adding.proofs.split_inner.Goals as goal

pub split_children-low-requires-clause-left_value : goal.split_children-low-requires-clause-left_value
split_children-low-requires-clause-left_value c = search (rules, inner_requires)

pub split_children-low-requires-clause-right_value : goal.split_children-low-requires-clause-right_value
split_children-low-requires-clause-right_value c = search (rules, blank_count)

pub returns : goal.returns
returns c = search (rules, inner_split)
