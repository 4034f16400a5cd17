-- `waits::blockers::blockers_of` meets its contract: the holders, and the earlier ones where the asker holds no lock on what it wants.
-- Assumes nothing.
use borrow.Author.Rules.{rules}
use Rattle.waits.proofs.BlockerSets.{blockers_held, blockers_both}
use Rattle.waits.proofs.blockers.blockers_of.Goals as goal

pub returns-then-held-lt-LOCKS : goal.returns-then-held-lt-LOCKS
returns-then-held-lt-LOCKS c = search (rules, blockers_held)

pub returns : goal.returns
returns c = search (rules, blockers_both)
