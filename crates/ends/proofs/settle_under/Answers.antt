-- `ends::settle_under` meets its contract: a free slot settles nothing, a held one its key.
-- Assumes nothing.
use borrow.Author.Rules.{rules}
use Rattle.ends.proofs.Owned.{under_none, under_one}
use Rattle.ends.proofs.settle_under.Goals as goal

pub returns-in_default : goal.returns-in_default
returns-in_default c = search (rules, under_none)

pub returns-in-Some : goal.returns-in-Some
returns-in-Some c = search (rules, under_one)
