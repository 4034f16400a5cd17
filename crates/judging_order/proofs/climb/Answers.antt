-- `judging_order::climb` meets its contract. Assumes nothing.
use borrow.Author.Rules.{rules}
use Rattle.judging_order.proofs.Passing.{now_last, climb_stop, climb_next, climb_end}
use Rattle.judging_order.proofs.climb.Goals as goal

pub returns-then-not-comes_first : goal.returns-then-not-comes_first
returns-then-not-comes_first c = (search rules, search (rules, climb_stop))

pub loop-a-preserved : goal.loop-a-preserved
loop-a-preserved c = (search (rules, now_last), search (rules, climb_next))

pub returns : goal.returns
returns c = (search rules, search (rules, climb_end))
