-- `judging_pages::page::is_between` meets its contract: its test is the definition's.
-- Assumes nothing.
use borrow.Author.Rules.{rules}
use Rattle.keys.proofs.DerivedOrder.{below}
use Rattle.judging_pages.proofs.page.is_between.Goals as goal

pub returns : goal.returns
returns c = search (rules, below)
