-- `waits::blockers::rivals_of` meets its contract. Assumes nothing.
use borrow.Author.Rules.{rules}
use Rattle.waits.proofs.BlockerSets.{rivals_start, rivals_turn}
use Rattle.waits.proofs.blockers.rivals_of.Goals as goal

pub loop-i-init : goal.loop-i-init
loop-i-init c = search (rules, rivals_start)

pub loop-i-preserved : goal.loop-i-preserved
loop-i-preserved c = search (rules, rivals_turn)
