-- `judging_order::stand_free` meets its contract: the order of no locks is one, whatever the array holds.
-- Assumes nothing.
use borrow.Author.Rules.{rules}
use Rattle.judging_order.proofs.Verdicts.{free_done}
use Rattle.judging_order.proofs.stand_free.Goals as goal

pub returns : goal.returns
returns c = search (rules, free_done)
