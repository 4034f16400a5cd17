-- `pages::leaf::insert_entry` meets its contract: a row is put in.
-- Assumes nothing.
use borrow.Author.Rules.{rules}
use Rattle.pages.proofs.PageChanges.{entry_in}
use Rattle.pages.proofs.leaf.insert_entry.Goals as goal

pub returns-clause-p_after : goal.returns-clause-p_after
returns-clause-p_after c = search (rules, entry_in)
