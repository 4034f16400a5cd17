-- `judging_order::stand_in_order` meets its contract: each way is exact.
-- Assumes nothing.
use borrow.Author.Rules.{rules}
use Rattle.judging_desk.proofs.Free.{is_free}
use Rattle.judging_order.proofs.stand_in_order.Goals as goal

pub stand_free-requires-clause-d_value : goal.stand_free-requires-clause-d_value
stand_free-requires-clause-d_value c = search (rules, is_free)
