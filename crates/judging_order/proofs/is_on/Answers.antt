-- `judging_order::is_on` meets its contract: the slot is free, or it has a lock.
-- Assumes nothing.
use borrow.Author.Rules.{rules}
use Rattle.locks.proofs.LockValues.{name_back}
use Rattle.judging_order.specs.LockOrders.{slot_on}
use Rattle.judging_order.proofs.is_on.Goals as goal

pub returns : goal.returns
unfolding slot_on
returns c = search (rules, name_back)
