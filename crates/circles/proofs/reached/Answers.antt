-- `circles::reached` meets its contract. Assumes nothing.
use borrow.Author.Rules.{rules}
use Rattle.circles.proofs.CircleTurns.{reach_turn, reach_stop, reach_end}
use Rattle.circles.proofs.reached.Goals as goal

pub returns-then-next-set : goal.returns-then-next-set
returns-then-next-set c = search (rules, reach_stop)

pub loop-preserved : goal.loop-preserved
loop-preserved c = search (rules, reach_turn)

pub returns : goal.returns
returns c = search (rules, reach_end)
