-- `pages::inner::child_for` meets its contract. Assumes nothing.
use borrow.Author.Rules.{rules}
use Rattle.pages.proofs.PageSearches.{child_start, child_on, child_here, child_end}
use Rattle.pages.proofs.inner.child_for.Goals as goal

pub loop-i-init : goal.loop-i-init
loop-i-init c = (search rules, search (rules, child_start))

pub returns-then-is_below : goal.returns-then-is_below
returns-then-is_below c = search (rules, child_here)

pub loop-i-preserved : goal.loop-i-preserved
loop-i-preserved c = (search rules, search (rules, child_on))

pub returns : goal.returns
returns c = search (rules, child_end)
