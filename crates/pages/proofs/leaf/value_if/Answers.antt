-- `pages::leaf::value_if` meets its contract, by the two values of the test.
-- Assumes nothing.
use borrow.Author.Rules.{rules}
use Rattle.pages.proofs.EntryRows.{value_there, value_gone}
use Rattle.pages.proofs.leaf.value_if.Goals as goal

pub returns-then-there-eq1 : goal.returns-then-there-eq1
returns-then-there-eq1 c = search (rules, value_there)

pub returns-else-there-eq1 : goal.returns-else-there-eq1
returns-else-there-eq1 c = search (rules, value_gone)
