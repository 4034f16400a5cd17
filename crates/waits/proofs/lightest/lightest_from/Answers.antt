-- `waits::lightest::lightest_from` meets its contract. Assumes nothing.
use borrow.Author.Rules.{rules}
use Rattle.waits.proofs.Yielders.{best_end}
use Rattle.waits.proofs.lightest.lightest_from.Goals as goal

pub returns : goal.returns
returns c = search (rules, best_end)
