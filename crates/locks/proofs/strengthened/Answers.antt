-- `locks::strengthened` meets its contract: only the mode changes.
-- Assumes nothing.
use borrow.Author.Rules.{rules}
use Rattle.locks.proofs.LockValues.{held_strengthened}
use Rattle.locks.proofs.strengthened.Goals as goal

pub returns : goal.returns
returns c = search (rules, held_strengthened)
