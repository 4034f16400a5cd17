-- `adding::clear_inner` meets its contract: an inner page with no child is blank.
-- Assumes nothing.
use borrow.Author.Rules.{rules}
use Rattle.adding.proofs.Roots.{cleared}
use Rattle.adding.proofs.clear_inner.Goals as goal

pub returns : goal.returns
returns c = search (rules, cleared)
