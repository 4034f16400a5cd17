-- `pages::leaf::split_leaf` meets its contract: the rows are parted, and the new one is put into its half.
-- Assumes nothing.
use borrow.Author.Rules.{rules}
use Rattle.pages.proofs.PageChanges.{leaf_low, leaf_high}
use Rattle.pages.proofs.leaf.split_leaf.Goals as goal

pub returns-then-i-lt-LEAF_STAY-clause-divided : goal.returns-then-i-lt-LEAF_STAY-clause-divided
returns-then-i-lt-LEAF_STAY-clause-divided c = search (rules, leaf_low)

pub returns-clause-divided : goal.returns-clause-divided
returns-clause-divided c = search (rules, leaf_high)
