-- `pages::leaf::settled` meets its contract, by the two ways to end.
-- Assumes nothing.
use borrow.Author.Rules.{rules}
use Rattle.pages.proofs.LeafSettling.{ends_yes, ends_no}
use Rattle.pages.proofs.leaf.settled.Goals as goal

pub returns-then-commits : goal.returns-then-commits
returns-then-commits c = search (rules, ends_yes)

pub returns : goal.returns
returns c = search (rules, ends_no)
