-- `judging_pages::page::is_in` meets its contract: its test is the definition's.
-- Assumes nothing.
use borrow.Author.Rules.{rules}
use Rattle.keys.proofs.DerivedOrder.{at_most, below}
use Rattle.judging_pages.proofs.page.is_in.Goals as goal

pub returns : goal.returns
returns c = search (rules, at_most, below)
