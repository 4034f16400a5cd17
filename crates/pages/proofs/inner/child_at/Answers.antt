-- `pages::inner::child_at` meets its contract: the fields are read in their order.
-- Assumes nothing.
use borrow.Author.Rules.{rules}
use Rattle.pages.proofs.ChildRows.{child_read}
use Rattle.pages.proofs.inner.child_at.Goals as goal

pub returns : goal.returns
returns c = search (rules, child_read)
