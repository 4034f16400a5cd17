-- `adding::split_leaf` meets its contract: the parts that are lent are the two pages.
-- Assumes nothing.
use borrow.Author.Rules.{rules}
use Rattle.adding.proofs.Divided.{leaf_requires, blank_count, leaf_split}
use Rattle.adding.proofs.split_leaf.Goals as goal

pub split_leaf-requires-clause-left_value : goal.split_leaf-requires-clause-left_value
split_leaf-requires-clause-left_value c = search (rules, leaf_requires)

pub split_leaf-requires-clause-right_value : goal.split_leaf-requires-clause-right_value
split_leaf-requires-clause-right_value c = search (rules, blank_count)

pub returns : goal.returns
returns c = search (rules, leaf_split)
