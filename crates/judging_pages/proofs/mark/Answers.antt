-- `judging_pages::mark` meets its contract: the tests are made in their order.
-- Assumes nothing.
use borrow.Author.Rules.{rules}
use Rattle.judging_pages.proofs.WalkTurns.{mark_unused, mark_again, mark_done}
use Rattle.judging_pages.proofs.mark.Goals as goal

pub returns-then-q-used : goal.returns-then-q-used
returns-then-q-used c = search (rules, mark_unused)

pub returns-then-has : goal.returns-then-has
returns-then-has c = search (rules, mark_again)

pub returns : goal.returns
returns c = search (rules, mark_done)
