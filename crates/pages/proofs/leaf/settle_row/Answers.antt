-- `pages::leaf::settle_row` meets its contract: another's row is moved as it is.
-- Assumes nothing.
use borrow.Author.Rules.{rules}
use Rattle.pages.proofs.LeafSettling.{passed_other}
use Rattle.pages.proofs.leaf.settle_row.Goals as goal

pub returns : goal.returns
returns c = search (rules, passed_other)
