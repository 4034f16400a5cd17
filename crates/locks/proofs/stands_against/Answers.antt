-- `locks::stands_against` meets its contract: names are the same where their numbers are.
-- Assumes nothing.
use borrow.Author.Rules.{rules}
use Rattle.locks.proofs.LockValues.{held_against}
use Rattle.locks.proofs.stands_against.Goals as goal

pub returns : goal.returns
returns c = search (rules, held_against)
