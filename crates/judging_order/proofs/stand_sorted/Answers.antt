-- `judging_order::stand_sorted` meets its contract: whatever the order, it is looked at.
-- Assumes nothing.
use borrow.Author.Rules.{rules}
use Rattle.judging_order.proofs.Verdicts.{sorted_done}
use Rattle.judging_order.proofs.stand_sorted.Goals as goal

pub returns : goal.returns
returns c = search (rules, sorted_done)
