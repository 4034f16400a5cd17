-- `judging_pages::has_front` meets its contract.
-- Assumes nothing.
use borrow.Author.Rules.{rules}
use Rattle.judging_pages.proofs.Fronts.{front_lent}
use Rattle.judging_pages.proofs.has_front.Goals as goal

pub returns : goal.returns
returns c = search (rules, front_lent)
