-- `locks::is_of` meets its contract: names are the same where their numbers are.
-- Assumes nothing.
use borrow.Author.Rules.{rules}
use Rattle.locks.proofs.LockValues.{held_of}
use Rattle.locks.proofs.is_of.Goals as goal

pub returns : goal.returns
returns c = search (rules, held_of)
