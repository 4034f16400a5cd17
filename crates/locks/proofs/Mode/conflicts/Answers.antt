-- `locks::Mode::conflicts` meets its contract: X conflicts with both.
-- Assumes nothing.
use borrow.Author.Rules.{rules}
use Rattle.locks.proofs.LockValues.{x_conflicts}
use Rattle.locks.proofs.Mode.conflicts.Goals as goal

pub returns : goal.returns
returns c = search (rules, x_conflicts)
