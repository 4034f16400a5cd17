-- `judging_pages::high_at` meets its contract: the next separator, where there is one.
-- Assumes nothing.
use borrow.Author.Rules.{rules}
use Rattle.judging_pages.proofs.WalkTurns.{high_next, high_last}
use Rattle.judging_pages.proofs.high_at.Goals as goal

pub returns-then-i-n : goal.returns-then-i-n
returns-then-i-n c = search (rules, high_next)

pub returns : goal.returns
returns c = search (rules, high_last)
