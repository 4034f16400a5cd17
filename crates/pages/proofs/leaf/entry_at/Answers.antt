-- `pages::leaf::entry_at` meets its contract: the fields are read in their order.
-- Assumes nothing.
use Rattle.numbers.specs.Numbers.{fields_at}
use Rattle.pages.specs.PageLayout.{entry_in, entry_at}
use Rattle.pages.proofs.leaf.entry_at.Goals as goal

pub returns : goal.returns
unfolding entry_at entry_in fields_at
returns c = cc
