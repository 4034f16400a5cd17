-- `judging_order::is_clash` meets its contract: both slots are those at their places.
-- Assumes nothing.
use borrow.Author.Rules.{rules}
use Rattle.judging_order.proofs.Passing.{clash_at}
use Rattle.judging_order.proofs.is_clash.Goals as goal

pub returns : goal.returns
returns c = search (rules, clash_at)
