-- `pages::inner::split_children` meets its contract: the rows are parted, the new one is put into its half, and the first separator of
-- the half that goes is taken. Assumes nothing.
use borrow.Author.Rules.{rules}
use Rattle.pages.proofs.PageChanges.{children_low, low_low, children_high, low_high}
use Rattle.pages.proofs.inner.split_children.Goals as goal

pub returns-then-i-lt-INNER_STAY-clause-divided : goal.returns-then-i-lt-INNER_STAY-clause-divided
returns-then-i-lt-INNER_STAY-clause-divided c = search (rules, children_low)

pub returns-then-i-lt-INNER_STAY-clause-result_value : goal.returns-then-i-lt-INNER_STAY-clause-result_value
returns-then-i-lt-INNER_STAY-clause-result_value c = search (rules, low_low)

pub returns-clause-divided : goal.returns-clause-divided
returns-clause-divided c = search (rules, children_high)

pub returns-clause-result_value : goal.returns-clause-result_value
returns-clause-result_value c = search (rules, low_high)
