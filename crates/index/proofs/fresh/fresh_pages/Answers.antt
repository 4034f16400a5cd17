-- `index::fresh::fresh_pages` meets its contract: zeros, an empty leaf, and page 0.
-- Assumes nothing.
use borrow.Author.Rules.{rules}
use Rattle.index.proofs.Blanks.{fresh_is}
use Rattle.index.proofs.fresh.fresh_pages.Goals as goal

pub returns : goal.returns
returns c = search (rules, fresh_is)
