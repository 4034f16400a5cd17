-- `pages::inner::low_at` meets its contract: the separator is the first field of a child.
-- Assumes nothing.
use borrow.Author.Rules.{rules}
use Rattle.numbers.specs.Numbers.{fields_at}
use Rattle.pages.specs.PageLayout.{child_in, child_at}
use Rattle.pages.proofs.inner.low_at.Goals as goal

pub returns : goal.returns
unfolding child_at child_in fields_at
returns c = search rules
