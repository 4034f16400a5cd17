-- `index::fresh::put_blank` meets its contract: the part that is lent is the page.
-- Assumes nothing.
use borrow.Author.Rules.{rules}
use Rattle.index.proofs.Blanks.{blank_back}
use Rattle.index.proofs.fresh.put_blank.Goals as goal

pub returns : goal.returns
returns c = search (rules, blank_back)
