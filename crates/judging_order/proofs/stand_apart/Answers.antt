-- `judging_order::stand_apart` meets its contract: a clash is a no, and else the plain tests tell.
-- Assumes nothing.
use borrow.Author.Rules.{rules}
use Rattle.judging_order.proofs.Verdicts.{clash_done}
use Rattle.judging_order.proofs.stand_apart.Goals as goal

pub returns-else-not-is_clash : goal.returns-else-not-is_clash
returns-else-not-is_clash c = search (rules, clash_done)
