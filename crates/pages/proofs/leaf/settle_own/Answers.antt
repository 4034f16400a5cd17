-- `pages::leaf::settle_own` meets its contract: the entry is left absent, or written.
-- Assumes nothing.
use borrow.Author.Rules.{rules}
use Rattle.pages.proofs.LeafSettling.{passed_gone, passed_kept}
use Rattle.pages.proofs.leaf.settle_own.Goals as goal

pub returns-then-is_ghost : goal.returns-then-is_ghost
returns-then-is_ghost c = search (rules, passed_gone)

pub returns : goal.returns
returns c = search (rules, passed_kept)
