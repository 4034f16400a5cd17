-- `pages::leaf::take_entry` meets its contract: a row is taken out.
-- Assumes nothing.
use borrow.Author.Rules.{rules}
use Rattle.pages.proofs.PageChanges.{entry_out}
use Rattle.pages.proofs.leaf.take_entry.Goals as goal

pub returns : goal.returns
returns c = search (rules, entry_out)
