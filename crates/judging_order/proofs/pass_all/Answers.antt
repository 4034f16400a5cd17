-- `judging_order::pass_all` meets its contract: the tree is passed, and then the locks on the end.
-- Assumes nothing.
use borrow.Author.Rules.{rules}
use Rattle.judging_order.proofs.Passing.{past_to_most, all_stuck, all_walked}
use Rattle.judging_order.proofs.pass_all.Goals as goal

pub returns-in_default : goal.returns-in_default
returns-in_default c = search (rules, all_stuck)

pub pass_name-requires-clause-k_le_m : goal.pass_name-requires-clause-k_le_m
pass_name-requires-clause-k_le_m c = search (rules, past_to_most)

pub returns : goal.returns
returns c = search (rules, all_walked)
