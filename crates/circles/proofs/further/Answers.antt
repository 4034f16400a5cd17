-- `circles::further` meets its contract. Assumes nothing.
use borrow.Author.Rules.{rules}
use Rattle.circles.specs.Search.{further_on}
use Rattle.circles.proofs.Nexts.{gather_next, gather_none}
use Rattle.circles.proofs.further.Goals as goal

pub loop-t-init : goal.loop-t-init
unfolding further_on
loop-t-init c = search rules

pub loop-t-preserved : goal.loop-t-preserved
loop-t-preserved c = search (rules, gather_next)

pub returns-in_default : goal.returns-in_default
returns-in_default c = search (rules, gather_none)
