-- `pages::inner::insert_child` meets its contract: a row is put in.
-- Assumes nothing.
use borrow.Author.Rules.{rules}
use Rattle.pages.proofs.PageChanges.{child_in}
use Rattle.pages.proofs.inner.insert_child.Goals as goal

pub returns : goal.returns
returns c = search (rules, child_in)
