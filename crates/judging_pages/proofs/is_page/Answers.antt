-- `judging_pages::is_page` meets its contract, and its test goes by the level.
-- Assumes nothing.
use borrow.Author.Rules.{rules}
use Rattle.judging_pages.proofs.Fronts.{leaf_lent, inner_lent}
use Rattle.judging_pages.proofs.is_page.Goals as goal

pub returns-then-level-eq0 : goal.returns-then-level-eq0
returns-then-level-eq0 c = search (rules, leaf_lent)

pub returns : goal.returns
returns c = search (rules, inner_lent)
