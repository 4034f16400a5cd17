-- `judging_pages::walk_root` meets its contract: what is read in the buffer is what page 0 says.
-- Assumes nothing.
use borrow.Author.Rules.{rules}
use Rattle.judging_pages.proofs.Tops.{walk_top}
use Rattle.judging_pages.proofs.walk_root.Goals as goal

pub returns : goal.returns
returns c = search (rules, walk_top)
