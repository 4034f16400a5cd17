-- `judging_order::comes_first` meets its contract in its three ways: the first is free, the second is, neither is.
-- Assumes nothing.
use borrow.Author.Rules.{rules}
use Rattle.keys.proofs.DerivedOrder.{below}
use Rattle.judging_order.proofs.Passing.{free_before, free_after, held_first}
use Rattle.judging_order.proofs.comes_first.Goals as goal

pub returns-in_default : goal.returns-in_default
returns-in_default c = search (rules, free_before)

pub returns-in_default-b : goal.returns-in_default-b
returns-in_default-b c = search (rules, free_after)

pub returns : goal.returns
returns c = search (rules, below, held_first)
