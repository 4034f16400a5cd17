-- `adding::above_child` meets its contract: the count is that of the page that is lent.
-- Assumes nothing.
use borrow.Author.Rules.{rules}
use native.Mathlib.Omega.{arith}
use Rattle.adding.proofs.PagesNeeded.{above_full, above_none}
use Rattle.adding.proofs.above_child.Goals as goal

pub returns-then-count_at-ge-INNER_MOST : goal.returns-then-count_at-ge-INNER_MOST
returns-then-count_at-ge-INNER_MOST c = (search (rules, above_full), omega arith)

pub returns-else-count_at-ge-INNER_MOST : goal.returns-else-count_at-ge-INNER_MOST
returns-else-count_at-ge-INNER_MOST c = (search (rules, above_none), omega arith)
