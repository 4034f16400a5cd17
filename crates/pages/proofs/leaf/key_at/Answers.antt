-- `pages::leaf::key_at` meets its contract: the key is the first field of an entry.
-- Assumes nothing.
use borrow.Author.Rules.{rules}
use Rattle.numbers.specs.Numbers.{fields_at}
use Rattle.pages.specs.PageLayout.{entry_in, entry_at}
use Rattle.pages.proofs.leaf.key_at.Goals as goal

pub returns : goal.returns
unfolding entry_at entry_in fields_at
returns c = search rules
